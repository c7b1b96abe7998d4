-- Each field is put where the one before ended.
use Rattle.std.proofs.Common.{◌≡◌, ℕ, ◌+◌, List, ap, ap₂, ◌∙◌}
use Rattle.rules.specs.StoredForm.{header_fields}
use Rattle.bits.specs.Writing.{put_at, put_all}
use Rattle.stored.proofs.writing.put_header.Goals as goal

-- a field behind bit n of a buffer that is D by now
behind : {q r n : ℕ} {d e D : List ℕ} (k v : ℕ) → (q ≡ n) × (d ≡ D) → (r ≡ q + k) × (e ≡ put_at d q k v) → (r ≡ n + k) × (e ≡ put_at D n k v)
behind k v h e = (e.0 ∙ ap (λ (x : ℕ). x + k) h.0, e.1 ∙ ap₂ (λ (l : List ℕ) (x : ℕ). put_at l x k v) h.1 h.0)

pub returns : goal.returns
unfolding put_all header_fields
returns c =
    let n = c.args.c in
    let width = behind 5 c.args.width c.put_field-at.ensures c.put_field-at-2.ensures in
    let vertices = behind 20 n.vertices width c.put_field-at-3.ensures in
    let hexes = behind 18 n.hexes vertices c.put_field-at-4.ensures in
    let quads = behind 18 n.quads hexes c.put_field-at-5.ensures in
    let segments = behind 18 n.segments quads c.put_field-at-6.ensures in
    behind 18 n.points segments c.put_field.ensures
