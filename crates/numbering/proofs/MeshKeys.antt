-- The keys that the passes meet are those of the rules: the edges and the faces of a mesh. Assumes nothing.
use mathlib.Core.Path.{◌≡◌, refl, ap, ◌∙◌}
use mathlib.Core.List.{List, [], ◌∷◌, ◌++◌, map, map-map, map-append, append-nil}
use Prim.Native.Nat.{ℕ}
use Rattle.rules.specs.Lists.{concat_map, Key, key_of, distinct}
use Rattle.rules.specs.Mesh.{Kind, hex, quad, segment, point, Mesh, Topology, topology, cells_of, by_dimension, places}
use Rattle.rules.specs.Split.{corners_at, key_at, met, distinct_parts, edges, faces}
use Rattle.numbering.specs.Parts.{part_keys, table_keys}
use Rattle.numbering.specs.Count.{edge_keys, face_keys}

module _ (ps : List (List ℕ)) where
  -- the keys of the parts, cell by cell
  keys_by_cell : (cs : List (List ℕ)) → map key_of (concat_map (λ (cell : List ℕ). map (corners_at cell) ps) cs) ≡ concat_map (λ (cell : List ℕ). map (key_at cell) ps) cs
  unfolding concat_map key_at
  keys_by_cell [] = refl
  keys_by_cell (c ∷ cs) =
      map-append key_of (map (corners_at c) ps) (concat_map (λ (cell : List ℕ). map (corners_at cell) ps) cs)
      ∙ ap (λ (r : List Key). map key_of (map (corners_at c) ps) ++ r) (keys_by_cell cs)
      ∙ ap (λ (l : List Key). l ++ concat_map (λ (cell : List ℕ). map (key_at cell) ps) cs) (map-map key_of (corners_at c) ps)

-- a kind that has no such part
keys_none : (cs : List (List ℕ)) → concat_map (λ (cell : List ℕ). map (key_at cell) []) cs ≡ []
unfolding concat_map
keys_none [] = refl
keys_none (c ∷ cs) = keys_none cs

-- the parts of dimension d of a topology, kind by kind
keys_of : Topology → ℕ → Kind → List Key
keys_of t d κ = concat_map (λ (cell : List ℕ). map (key_at cell) (places κ d)) (cells_of t κ)

keys_by_kind : (t : Topology) (d : ℕ) → map key_of (met t d) ≡ keys_of t d hex ++ (keys_of t d quad ++ (keys_of t d segment ++ keys_of t d point))
unfolding met concat_map keys_of
keys_by_kind t d =
    let h : Kind → List (List ℕ) = λ κ. concat_map (λ (cell : List ℕ). map (corners_at cell) (places κ d)) (cells_of t κ) in
    rw (append-nil (h point), map-append key_of (h hex) (h quad ++ (h segment ++ h point)), map-append key_of (h quad) (h segment ++ h point), map-append key_of (h segment) (h point))
    (rw (keys_by_cell (places hex d) t.hexes, keys_by_cell (places quad d) t.quads, keys_by_cell (places segment d) t.segments, keys_by_cell (places point d) t.points))

pub edges_are : (m : Mesh) → edges (topology m) ≡ distinct (edge_keys m.hexes m.quads m.segments)
unfolding distinct_parts topology edge_keys table_keys part_keys keys_of places by_dimension
edges_are m =
    let t = topology m in
    ap distinct
    (keys_by_kind t 1
    ∙ ap (λ (r : List Key). keys_of t 1 hex ++ (keys_of t 1 quad ++ r)) (ap (λ (r : List Key). keys_of t 1 segment ++ r) (keys_none t.points) ∙ append-nil (keys_of t 1 segment)))

pub faces_are : (m : Mesh) → faces (topology m) ≡ distinct (face_keys m.hexes m.quads)
unfolding distinct_parts topology face_keys table_keys part_keys keys_of places by_dimension
faces_are m =
    let t = topology m in
    ap distinct
    (keys_by_kind t 2
    ∙ ap (λ (r : List Key). keys_of t 2 hex ++ r)
    (ap (λ (r : List Key). keys_of t 2 quad ++ r) (ap (λ (r : List Key). r ++ keys_of t 2 point) (keys_none t.segments) ∙ keys_none t.points) ∙ append-nil (keys_of t 2 quad)))
