use Rattle.std.proofs.Common.{◌≡◌, ◌/◌, ◌∙◌, ap, sym, length}
use Rattle.rules.specs.declared.Counts.{Counts}
use Rattle.rules.specs.Counts.{sizes, counts_in, counts_of}
use Rattle.rules.specs.Mesh.{topology}
use Rattle.rules.specs.Split.{distinct_parts}
use Rattle.lists.proofs.Tables.{length_cut}
use Rattle.tables.specs.Lent.{mesh_in}
use Rattle.checks.proofs.mesh_sizes.Goals as goal

pub returns : goal.returns
unfolding sizes counts_in counts_of topology distinct_parts
returns c =
    let m = mesh_in c.args.mesh in
    let v : c.places.result.vertices ≡ length m.vertices / 3 = ap (λ (k : Counts). k.vertices) c.places.ensures in
    let h : c.places.result.hexes ≡ length m.hexes / 8 = ap (λ (k : Counts). k.hexes) c.places.ensures in
    let q : c.places.result.quads ≡ length m.quads / 4 = ap (λ (k : Counts). k.quads) c.places.ensures in
    let s : c.places.result.segments ≡ length m.segments / 2 = ap (λ (k : Counts). k.segments) c.places.ensures in
    let p : c.places.result.points ≡ length m.points / 1 = ap (λ (k : Counts). k.points) c.places.ensures in
    rw (
      v,
      h ∙ sym (length_cut 8 m.hexes),
      q ∙ sym (length_cut 4 m.quads),
      s ∙ sym (length_cut 2 m.segments),
      p ∙ sym (length_cut 1 m.points),
      c.edge_count.ensures,
      c.requires.face_count_value,
    )
