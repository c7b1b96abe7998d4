-- The tables of the code are those of the rules: row after row, and so each place by its row and column.
use Rattle.std.proofs.Common.{◌≡◌, ℕ, List, ◌/◌, ◌%◌, ◌<◌, length, get_or, take, sym, ap, ◌∙◌}
use lib.Seq.{get_or-take}
use Rattle.rules.specs.Mesh.{smallest_table, place_of}
use Rattle.rules.proofs.Constants.{hex_smallest_listed, quad_smallest_listed, segment_smallest_listed}
use Rattle.numbering.proofs.Rows.{front_listed}
use Rattle.splitting.specs.declared.kinds.CellKind.{CellKind}
use Rattle.splitting.specs.Kinds.{kind_of, corner_count, smallest_listed}
use Rattle.splitting.proofs.Tables.{smallest_place}
use Rattle.splitting.proofs.kinds.CellKind.smallest_parts.Goals as goal

-- the places of an array that has the list at its front
by_row : (kind : CellKind) (array : List ℕ) → take (length (smallest_listed kind)) array ≡ smallest_listed kind → (i : ℕ) → i < length (smallest_listed kind) → get_or array i 0 ≡ place_of (smallest_table (kind_of kind)) (i / corner_count kind) (i % corner_count kind)
by_row kind array e i l =
    sym (get_or-take (length (smallest_listed kind)) array i 0 l) ∙ ap (λ (xs : List ℕ). get_or xs i 0) e ∙ sym (smallest_place kind i l)

pub returns-in-Hex-clause-front : goal.returns-in-Hex-clause-front
unfolding smallest_listed
returns-in-Hex-clause-front c = rw (c.in-Hex.is, c.at_front.ensures, c.as_flattened.ensures.value) (front_listed _ _ _ hex_smallest_listed)

pub returns-in-Hex-clause-places : goal.returns-in-Hex-clause-places
returns-in-Hex-clause-places c = by_row c.args.self _ (returns-in-Hex-clause-front c)

pub returns-in-Quad-clause-front : goal.returns-in-Quad-clause-front
unfolding smallest_listed
returns-in-Quad-clause-front c = rw (c.in-Quad.is, c.at_front-in-Quad.ensures, c.as_flattened-in-Quad.ensures.value) (front_listed _ _ _ quad_smallest_listed)

pub returns-in-Quad-clause-places : goal.returns-in-Quad-clause-places
returns-in-Quad-clause-places c = by_row c.args.self _ (returns-in-Quad-clause-front c)

pub returns-in-Segment-clause-front : goal.returns-in-Segment-clause-front
unfolding smallest_listed
returns-in-Segment-clause-front c = rw (c.in-Segment.is, c.at_front-in-Segment.ensures, c.as_flattened-in-Segment.ensures.value) (front_listed _ _ _ segment_smallest_listed)

pub returns-in-Segment-clause-places : goal.returns-in-Segment-clause-places
returns-in-Segment-clause-places c = by_row c.args.self _ (returns-in-Segment-clause-front c)
