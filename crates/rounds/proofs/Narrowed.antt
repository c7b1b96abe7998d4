-- Sizes that fit 32 bits, and the mesh at the front of tables by its counts. Assumes nothing.
use Rattle.std.proofs.Common.{◌≡◌, ◌*◌, List, ℕ, ap, ◌∙◌, arith, refl}
use Rattle.rules.specs.declared.Counts.{Counts}
use Rattle.rules.specs.declared.Sizes.{Sizes}
use Rattle.rules.specs.Mesh.{Mesh}
use Rattle.rules.specs.Counts.{next_sizes, counts_in}
use Rattle.rules.specs.EntryPoints.{front, front_of, result_tables}
use Rattle.counting.specs.Bounded.{Narrow}
use Rattle.tables.specs.Lent.{Room as CountsRoom, Fits}
use Rattle.rounds.specs.Front.{sized_front, Room}
use Rattle.rounds.specs.Ready.{Ready}
use Rattle.rounds.proofs.OneRound.{few_vertices, fine_small, next_range}
use Rattle.tables.proofs.Five.{part_fits}
use Rattle.rounds.proofs.Fronts.{front_copied}

pub narrow : {m : Mesh} {s : Sizes} {out : Mesh} {words longs : List ℕ} → Ready m s out words longs → Narrow s
unfolding counts_in next_sizes
narrow ready =
    let v = few_vertices ready in
    let f = fine_small ready in
    let r = next_range ready in
    record { vertices = omega arith; hexes = omega arith; quads = omega arith; segments = omega arith; points = omega (arith, r.points) }

pub front_by_counts : (s : Sizes) (c : Counts) → c ≡ counts_in s → (m : Mesh) → front c m ≡ sized_front s m
unfolding counts_in
front_by_counts s c e m = rw e refl

pub room_by_counts : (s : Sizes) (c : Counts) → c ≡ counts_in s → (m : Mesh) → Room s m → CountsRoom c m
unfolding counts_in
room_by_counts s c e m r =
    rw e (record { vertices = r.vertices; hexes = r.hexes; quads = r.quads; segments = r.segments; points = r.points })

-- the front of some tables fits others that have room for as much
pub front_fits : (s : Sizes) (from to : Mesh) → Room s to → Fits (sized_front s from) to
unfolding front_of
front_fits s from to r = record {
  vertices = part_fits (3 * s.vertices) from.vertices to.vertices r.vertices;
  hexes = part_fits (8 * s.hexes) from.hexes to.hexes r.hexes;
  quads = part_fits (4 * s.quads) from.quads to.quads r.quads;
  segments = part_fits (2 * s.segments) from.segments to.segments r.segments;
  points = part_fits s.points from.points to.points r.points;
}

-- the mesh in the tables that are copied
pub fronted : (s : Sizes) (c : Counts) → c ≡ counts_in s → {m tables out : Mesh} → m ≡ front c tables → tables ≡ out → m ≡ sized_front s out
fronted s c e {out} f g = f ∙ ap (front c) g ∙ front_by_counts s c e out

-- it stands at the front of the tables that it is copied to
pub refronted : (s : Sizes) (c : Counts) → c ≡ counts_in s → (out work : Mesh) → Room s out → {m tables work' m' tables' : Mesh} → m ≡ front c tables → tables ≡ out → work' ≡ result_tables 0 work m → m' ≡ front c tables' → tables' ≡ work' → m' ≡ sized_front s out
refronted s c e out work r {m} f g h f' g' =
    fronted s c e f' (g' ∙ h ∙ ap (result_tables 0 work) (fronted s c e f g)) ∙ front_copied s work out r
