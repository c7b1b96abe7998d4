-- It is the rules' layout, with the width that is computed.
use mathlib.Core.Path.{refl, ap}
use Prim.Native.Nat.{ℕ}
use Rattle.rules.specs.Bits.{bytes_for}
use Rattle.rules.specs.StoredForm.{Header, index_width, layout}
use Rattle.stored.proofs.layout.layout_of.Goals as goal

pub returns : goal.returns
unfolding index_width layout bytes_for
returns c =
    let width = c.index_width-width.ensures in
    let of : ℕ → Header = λ w. record { form = 1; width = w; counts = c.args.c } in
    record {
      width = width;
      hexes = refl;
      quads = ap (λ w. (layout (of w)).quads) width;
      segments = ap (λ w. (layout (of w)).segments) width;
      points = ap (λ w. (layout (of w)).points) width;
      corners = refl;
      end = ap (λ w. (layout (of w)).end) width;
      bytes = ap (λ w. bytes_for (layout (of w)).end) width;
    }
