-- A round's split: what each call of the driver may ask and gets, with all edges and faces of a ready mesh. Assumes nothing.
use mathlib.Core.Path.{◌≡◌, refl, sym, ap, ◌∙◌}
use mathlib.Core.List.{List, [], ◌∷◌, ◌++◌, append_assoc, append-nil}
use Prim.Native.Nat.{ℕ, ◌+◌, ◌/◌, ◌≤◌}
use native.Mathlib.Omega.{arith}
use lib.ListN.{length}
use Rattle.rules.specs.Lists.{concat, concat_map, overwritten, up_from, Key, meet_all, distinct}
use Rattle.rules.specs.Mesh.{Mesh, Topology, topology, by_dimension, places}
use Rattle.rules.specs.Split.{edges, faces, split}
use Rattle.lists.proofs.Distinct.{meet_all_append}
use Rattle.soundness.specs.Numbers.{start}
use Rattle.numbering.specs.Table.{keys, MetAll}
use Rattle.numbering.specs.Parts.{part_keys, table_keys}
use Rattle.numbering.specs.Count.{edge_keys, face_keys}
use Rattle.numbering.proofs.MeshKeys.{edges_are, faces_are}
use Rattle.numbering.proofs.Passes.{met_append, length_later}
use Rattle.splitting.specs.declared.kinds.CellKind.{CellKind}
use Rattle.splitting.specs.declared.kinds.CellKind.TheVariants.{Hex, Quad, Segment}
use Rattle.splitting.specs.declared.given.Base.{Base}
use Rattle.splitting.specs.declared.cells.PartTables.{PartTables}
use Rattle.splitting.specs.Kinds.{corner_count}
use Rattle.splitting.specs.Cells.{cells_in, edges_met, faces_met, first_children}
use Rattle.splitting.specs.Words.{edges_in, faces_in, NoneMet, Room, BothMet, TableSplit}
use Rattle.splitting.specs.Ready.{Ready}
use Rattle.splitting.proofs.Fine.{hexes_split, quads_split, segments_split}

abbrev pub base_of : Mesh → ℕ → ℕ → Base
base_of m e f = record { vertices = length m.vertices / 3; edges = e; faces = f }

-- ---- all edges and faces, table by table

abbrev hex_edges : Mesh → List Key
hex_edges m = edges_met Hex (cells_in Hex m.hexes)

abbrev quad_edges : Mesh → List Key
quad_edges m = edges_met Quad (cells_in Quad m.quads)

abbrev segment_edges : Mesh → List Key
segment_edges m = edges_met Segment (cells_in Segment m.segments)

abbrev hex_faces : Mesh → List Key
hex_faces m = faces_met Hex (cells_in Hex m.hexes)

abbrev quad_faces : Mesh → List Key
quad_faces m = faces_met Quad (cells_in Quad m.quads)

abbrev segment_faces : Mesh → List Key
segment_faces m = faces_met Segment (cells_in Segment m.segments)

all_edges : (m : Mesh) → meet_all [] (hex_edges m ++ (quad_edges m ++ segment_edges m)) ≡ edges (topology m)
unfolding distinct edge_keys table_keys
all_edges m = sym (edges_are m)

-- a segment has no face
no_faces : (cs : List (List ℕ)) → faces_met Segment cs ≡ []
unfolding concat_map part_keys places by_dimension
no_faces [] = refl
no_faces (c ∷ cs) = no_faces cs

all_faces : (m : Mesh) → meet_all [] (hex_faces m ++ (quad_faces m ++ segment_faces m)) ≡ faces (topology m)
unfolding distinct face_keys table_keys
all_faces m =
    ap (λ (l : List Key). meet_all [] (hex_faces m ++ l)) (ap (λ (l : List Key). quad_faces m ++ l) (no_faces (cells_in Segment m.segments)) ∙ append-nil (quad_faces m))
    ∙ sym (faces_are m)

-- ---- keys that are met next

module _ {c : ℕ} {w w₁ : List ℕ} {room n count : ℕ} {done : List Key} (m : MetAll c w w₁ room n done count) (next : List Key) where
  met_all : meet_all (keys c w₁ room count) next ≡ meet_all (keys c w room n) (done ++ next)
  met_all = ap (λ (k : List Key). meet_all k next) m.keys_are ∙ sym (meet_all_append (keys c w room n) done next)

  next_fits : (rest : List Key) → length (meet_all (keys c w room n) (done ++ (next ++ rest))) ≤ room → length (meet_all (keys c w₁ room count) next) ≤ room
  next_fits rest l =
      omega (arith, ap length met_all, length_later (keys c w room n) (done ++ next) rest, ap (λ (k : List Key). length (meet_all (keys c w room n) k)) (append_assoc done next rest))

-- ---- the calls, in order, after the tables were prepared

module _ {m : Mesh} {e f words : ℕ} (r : Ready m e f words) where
  abbrev base : Base
  base = base_of m e f

  abbrev t : Topology
  t = topology m

  -- what a call stores, once it is known that its edges and faces are those of the mesh
  children_stored :
      (kind : CellKind) (cells : List ℕ) (own : ℕ) (p : PartTables) (es fs : List Key) (old new : List ℕ) →
      meet_all (edges_in base p) (edges_met kind (cells_in kind cells) ++ es) ≡ edges t →
      meet_all (faces_in base p) (faces_met kind (cells_in kind cells) ++ fs) ≡ faces t →
      TableSplit base p kind cells own old new →
      new ≡ overwritten old (first_children kind t.vertex_count (edges t) (t.vertex_count + length (edges t)) (faces t) own cells (length cells / corner_count kind))
  unfolding topology
  children_stored kind cells own p es fs old new a b s = rw (a, b, r.edges_are) at (s es fs)

  -- the tables as they begin
  module _ {p : PartTables} (z : NoneMet base p) where
    edges_met_lem : meet_all (edges_in base p) (hex_edges m ++ (quad_edges m ++ segment_edges m)) ≡ edges t
    unfolding keys up_from
    edges_met_lem = rw z.no_edge (all_edges m)

    faces_met_lem : meet_all (faces_in base p) (hex_faces m ++ (quad_faces m ++ segment_faces m)) ≡ faces t
    unfolding keys up_from
    faces_met_lem = rw z.no_face (all_faces m)

    edges_fit : length (meet_all (edges_in base p) (hex_edges m ++ (quad_edges m ++ segment_edges m))) ≤ e
    edges_fit = omega (arith, ap length edges_met_lem, r.edges_are)

    faces_fit : length (meet_all (faces_in base p) (hex_faces m ++ (quad_faces m ++ segment_faces m))) ≤ f
    faces_fit = omega (arith, ap length faces_met_lem, r.faces_are)

    -- the hexes
    pub room_hexes : Room base p (hex_edges m) (hex_faces m)
    room_hexes = record {
      edge_table = rw z.no_edge z.edge_table;
      face_table = rw z.no_face z.face_table;
      edges_fit = omega (arith, edges_fit, length_later (edges_in base p) (hex_edges m) (quad_edges m ++ segment_edges m));
      faces_fit = omega (arith, faces_fit, length_later (faces_in base p) (hex_faces m) (quad_faces m ++ segment_faces m));
    }

    pub stored_hexes : (old new : List ℕ) (own : ℕ) → TableSplit base p Hex m.hexes own old new → own ≡ length m.vertices / 3 + (e + f) → new ≡ overwritten old (concat (split t).hexes)
    unfolding topology
    stored_hexes old new own s first =
        let o : own ≡ start t 3 = omega (arith, r.edges_are, r.faces_are) in
        children_stored Hex m.hexes (start t 3) p (quad_edges m ++ segment_edges m) (quad_faces m ++ segment_faces m) old new edges_met_lem faces_met_lem (rw o at s)
        ∙ ap (overwritten old) (hexes_split m r.sound)

    -- the quads
    module _ {p₁ : PartTables} (b₁ : BothMet base p p₁ (hex_edges m) (hex_faces m)) where
      pub room_quads : Room base p₁ (quad_edges m) (quad_faces m)
      room_quads = record {
        edge_table = b₁.edges.table;
        face_table = b₁.faces.table;
        edges_fit = next_fits b₁.edges (quad_edges m) (segment_edges m) edges_fit;
        faces_fit = next_fits b₁.faces (quad_faces m) (segment_faces m) faces_fit;
      }

      pub stored_quads : (old new : List ℕ) → TableSplit base p₁ Quad m.quads 0 old new → new ≡ overwritten old (concat (split t).quads)
      stored_quads old new s =
          children_stored Quad m.quads 0 p₁ (segment_edges m) (segment_faces m) old new
          (met_all b₁.edges (quad_edges m ++ segment_edges m) ∙ edges_met_lem) (met_all b₁.faces (quad_faces m ++ segment_faces m) ∙ faces_met_lem) s
          ∙ ap (overwritten old) (quads_split m r.sound 0)

      -- the segments
      module _ {p₂ : PartTables} (b₂ : BothMet base p₁ p₂ (quad_edges m) (quad_faces m)) where
        both : BothMet base p p₂ (hex_edges m ++ quad_edges m) (hex_faces m ++ quad_faces m)
        both = record { edges = met_append b₁.edges b₂.edges; faces = met_append b₁.faces b₂.faces }

        edges_last : meet_all (edges_in base p₂) (segment_edges m) ≡ edges t
        edges_last = met_all both.edges (segment_edges m) ∙ rw (append_assoc (hex_edges m) (quad_edges m) (segment_edges m)) edges_met_lem

        faces_last : meet_all (faces_in base p₂) (segment_faces m) ≡ faces t
        faces_last = met_all both.faces (segment_faces m) ∙ rw (append_assoc (hex_faces m) (quad_faces m) (segment_faces m)) faces_met_lem

        pub room_segments : Room base p₂ (segment_edges m) (segment_faces m)
        room_segments = record {
          edge_table = b₂.edges.table;
          face_table = b₂.faces.table;
          edges_fit = omega (arith, ap length edges_last, r.edges_are);
          faces_fit = omega (arith, ap length faces_last, r.faces_are);
        }

        pub stored_segments : (old new : List ℕ) → TableSplit base p₂ Segment m.segments 0 old new → new ≡ overwritten old (concat (split t).segments)
        stored_segments old new s =
            children_stored Segment m.segments 0 p₂ [] [] old new
            (ap (meet_all (edges_in base p₂)) (append-nil (segment_edges m)) ∙ edges_last)
            (ap (meet_all (faces_in base p₂)) (append-nil (segment_faces m)) ∙ faces_last) s
            ∙ ap (overwritten old) (segments_split m r.sound 0)
