-- What is lent of the arrays are the tables of the kind.
use Rattle.std.proofs.Common.{◌≡◌, ◌*◌, ℕ, List, length, take, sym, ap, ◌∙◌}
use Rattle.numbering.specs.declared.parts.Parts.{Parts}
use Rattle.numbering.specs.Parts.{places_of, part_corners, places_listed}
use Rattle.numbering.proofs.Places.{list_size, list_lent}
use Rattle.splitting.proofs.KindParts.{edge_corners, face_corners}
use Rattle.splitting.proofs.Tables.{length_smallest}
use Rattle.splitting.proofs.cells.PartTables.split_cells.Goals as goal

-- an array that has the places of n parts of c corners at its front
module _ (parts of : Parts) (c n : ℕ) (same : parts ≡ of) (p : c ≡ part_corners of) (q : n ≡ length (places_of parts)) where
  size : c * n ≡ length (places_listed of)
  size = list_size of c n p (rw same at q)

  lent : (array : List ℕ) → take (length (places_listed parts)) array ≡ places_listed parts → take (c * n) array ≡ places_listed of
  lent array e = list_lent of c n array p (rw same at q) (rw same at e)

pub slice_bounds-given-end : goal.slice_bounds-given-end
slice_bounds-given-end c =
    let k = c.args.kind in
    size _ _ 2 _ c.edges-edges.ensures (edge_corners k) c.count-edges_end.ensures
    ∙ sym (ap length (lent _ _ 2 _ c.edges-edges.ensures (edge_corners k) c.count-edges_end.ensures _ c.listed-edge_places.ensures.front))

pub slice_bounds-given-end-2 : goal.slice_bounds-given-end-2
slice_bounds-given-end-2 c =
    let k = c.args.kind in
    size _ _ 4 _ c.faces-faces.ensures (face_corners k) c.count-faces_end.ensures
    ∙ sym (ap length (lent _ _ 4 _ c.faces-faces.ensures (face_corners k) c.count-faces_end.ensures _ c.listed-face_places.ensures.front))

pub invariant_of-given-clause-edges_are : goal.invariant_of-given-clause-edges_are
invariant_of-given-clause-edges_are c =
    lent _ _ 2 _ c.edges-edges.ensures (edge_corners c.args.kind) c.count-edges_end.ensures _ c.listed-edge_places.ensures.front

pub invariant_of-given-clause-faces_are : goal.invariant_of-given-clause-faces_are
invariant_of-given-clause-faces_are c =
    lent _ _ 4 _ c.faces-faces.ensures (face_corners c.args.kind) c.count-faces_end.ensures _ c.listed-face_places.ensures.front

pub invariant_of-given-clause-smallest_are : goal.invariant_of-given-clause-smallest_are
invariant_of-given-clause-smallest_are c = rw (c.corner_count-corners.ensures, ← length_smallest c.args.kind) c.smallest_parts-smallest.ensures.front
