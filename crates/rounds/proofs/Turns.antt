-- The rounds in place: what the output tables hold after each, and that each is ready for the next. Assumes nothing.
use mathlib.Core.Path.{◌≡◌, refl, sym, ap, subst, ◌∙◌}
use mathlib.Core.Bool.{false, not}
use mathlib.Core.List.{List, ◌++◌}
use Prim.Native.Nat.{ℕ, suc, ◌+◌, ◌*◌, ◌-◌, ◌/◌, ◌%◌, ◌^◌, ◌≤◌, ◌<◌}
use native.Mathlib.Nat.{div-add-mod, mul-le-mul_left}
use native.Mathlib.Omega.{arith}
use borrow.Author.Tests.{eqb-true, not-false}
use lib.ListN.{length, take, drop, take-append-drop}
use lib.Seq.{take_at, drop-append-add, drop-drop}
use lib.Dec.{eqb}
use Rattle.rules.specs.declared.Sizes.{Sizes}
use Rattle.rules.specs.declared.Counts.{Counts}
use Rattle.rules.specs.Lists.{overwritten}
use Rattle.rules.specs.Mesh.{Mesh, topology}
use Rattle.rules.specs.Averaging.{round, refined}
use Rattle.rules.specs.Counts.{sizes, next_sizes, sizes_after, counts_in, counts_of, finished_counts, out_of_range}
use Rattle.rules.specs.Refusals.{partial_entry, count_out_of_range, too_large}
use Rattle.rules.specs.EntryPoints.{result_tables, front_of}
use Rattle.lists.proofs.Tests.{or_neither}
use Rattle.soundness.specs.Accepted.{Accepted}
use Rattle.soundness.specs.Growth.{AtMost}
use Rattle.soundness.proofs.SplitSizes.{after_suc, after_grows, never_fall}
use Rattle.soundness.proofs.Rounds.{counts_now, in_range_lem, refined_sizes, too_large_before}
use Rattle.accuracy.proofs.Accepted.{accepted_again}
use Rattle.counting.specs.Bounded.{Bounded}
use Rattle.rounds.specs.declared.working.WorkingNumbers.{WorkingNumbers}
use Rattle.rounds.specs.Front.{sized_front, Room}
use Rattle.rounds.specs.Ready.{Ready, ReadyFor}
use Rattle.tables.proofs.Five.{same_mesh, length_part, length_overwritten}

-- ---- the lengths of a mesh's tables

-- the tables have just the places of the given sizes
pub record Filled (s : Sizes) (m : Mesh) : Type 0 where
  pub vertices : length m.vertices ≡ 3 * s.vertices
  pub hexes : length m.hexes ≡ 8 * s.hexes
  pub quads : length m.quads ≡ 4 * s.quads
  pub segments : length m.segments ≡ 2 * s.segments
  pub points : length m.points ≡ s.points

whole_table : (n k : ℕ) → not (eqb (n % k) 0) ≡ false → n ≡ k * (n / k)
whole_table n k h = omega (arith, div-add-mod n k, eqb-true (n % k) 0 (not-false _ h))

pub filled : (m : Mesh) → partial_entry m ≡ false → Filled (sizes (topology m)) m
unfolding partial_entry counts_of counts_in
filled m h =
    let a = or_neither _ _ h in
    let b = or_neither _ _ a.1 in
    let d = or_neither _ _ b.1 in
    let e = counts_now m in
    record {
      vertices = whole_table (length m.vertices) 3 a.0 ∙ ap (λ (c : Counts). 3 * c.vertices) e;
      hexes = whole_table (length m.hexes) 8 b.0 ∙ ap (λ (c : Counts). 8 * c.hexes) e;
      quads = whole_table (length m.quads) 4 d.0 ∙ ap (λ (c : Counts). 4 * c.quads) e;
      segments = whole_table (length m.segments) 2 d.1 ∙ ap (λ (c : Counts). 2 * c.segments) e;
      points = one (length m.points) ∙ ap (λ (c : Counts). c.points) e;
    }
  where
    one : (n : ℕ) → n ≡ n / 1
    one n = omega arith

-- ---- tables that begin with a mesh

module _ {A : Type 0} where
  pub begins : (n : ℕ) (old new : List A) → length new ≡ n → take n (overwritten old new) ≡ new
  unfolding overwritten
  begins n old new e = take_at new (drop (length new) old) n e

  -- what is stored over a shorter one is stored over what was there before
  twice : (old a b : List A) → length a ≤ length b → overwritten (overwritten old a) b ≡ overwritten old b
  unfolding overwritten
  twice old a b h =
      let n : ℕ = length b - length a in
      let e : length b ≡ length a + n = omega arith in
      ap (λ (l : List A). b ++ l)
      (ap (λ (k : ℕ). drop k (a ++ drop (length a) old)) e ∙ drop-append-add a (drop (length a) old) n ∙ drop-drop n (length a) old ∙ ap (λ (k : ℕ). drop k old) (sym e))

  own : (n : ℕ) (xs : List A) → n ≤ length xs → overwritten xs (take n xs) ≡ xs
  unfolding overwritten
  own n xs h = ap (λ (k : ℕ). take n xs ++ drop k xs) (sym (length_part n xs h)) ∙ take-append-drop n xs

pub front_begins : (s : Sizes) (old m : Mesh) → Filled s m → sized_front s (result_tables 0 old m) ≡ m
unfolding front_of result_tables
front_begins s old m f =
    same_mesh (begins (3 * s.vertices) old.vertices m.vertices f.vertices)
    (begins (8 * s.hexes) old.hexes m.hexes f.hexes)
    (begins (4 * s.quads) old.quads m.quads f.quads)
    (begins (2 * s.segments) old.segments m.segments f.segments)
    (begins s.points old.points m.points f.points)

module _ (r s : Sizes) (a b : Mesh) (fa : Filled r a) (fb : Filled s b) (less : AtMost r s) where
  longer : (k m n x y : ℕ) → x ≡ k * m → y ≡ k * n → m ≤ n → x ≤ y
  longer k m n x y e f h = omega (arith, mul-le-mul_left k h)

  pub result_twice : (old : Mesh) → result_tables 0 (result_tables 0 old a) b ≡ result_tables 0 old b
  unfolding result_tables
  result_twice old =
      same_mesh (twice old.vertices a.vertices b.vertices (longer 3 _ _ _ _ fa.vertices fb.vertices less.vertices))
      (twice old.hexes a.hexes b.hexes (longer 8 _ _ _ _ fa.hexes fb.hexes less.hexes))
      (twice old.quads a.quads b.quads (longer 4 _ _ _ _ fa.quads fb.quads less.quads))
      (twice old.segments a.segments b.segments (longer 2 _ _ _ _ fa.segments fb.segments less.segments))
      (twice old.points a.points b.points (omega (arith, fa.points, fb.points, less.points)))

-- ---- room

pub room_less : (r s : Sizes) (tables : Mesh) → AtMost r s → Room s tables → Room r tables
room_less r s tables l h = record {
  vertices = omega (arith, l.vertices, h.vertices);
  hexes = omega (arith, l.hexes, h.hexes);
  quads = omega (arith, l.quads, h.quads);
  segments = omega (arith, l.segments, h.segments);
  points = omega (arith, l.points, h.points);
}

-- tables keep their places when a mesh for which there is room is stored in them
pub room_stored : (r s : Sizes) (old m : Mesh) → Filled r m → Room r old → Room s old → Room s (result_tables 0 old m)
unfolding result_tables
room_stored r s old m f a h = record {
  vertices = omega (arith, h.vertices, length_overwritten old.vertices m.vertices (omega (arith, f.vertices, a.vertices)));
  hexes = omega (arith, h.hexes, length_overwritten old.hexes m.hexes (omega (arith, f.hexes, a.hexes)));
  quads = omega (arith, h.quads, length_overwritten old.quads m.quads (omega (arith, f.quads, a.quads)));
  segments = omega (arith, h.segments, length_overwritten old.segments m.segments (omega (arith, f.segments, a.segments)));
  points = omega (arith, h.points, length_overwritten old.points m.points (omega (arith, f.points, a.points)));
}

-- the tables of one have the lengths of those of the other
pub record SameLengths (a b : Mesh) : Type 0 where
  pub vertices : length b.vertices ≡ length a.vertices
  pub hexes : length b.hexes ≡ length a.hexes
  pub quads : length b.quads ≡ length a.quads
  pub segments : length b.segments ≡ length a.segments
  pub points : length b.points ≡ length a.points

pub same_lengths : (a : Mesh) → SameLengths a a
same_lengths a = record { vertices = refl; hexes = refl; quads = refl; segments = refl; points = refl }

pub same_then : {a b c : Mesh} → SameLengths a b → SameLengths b c → SameLengths a c
same_then p q = record {
  vertices = q.vertices ∙ p.vertices;
  hexes = q.hexes ∙ p.hexes;
  quads = q.quads ∙ p.quads;
  segments = q.segments ∙ p.segments;
  points = q.points ∙ p.points;
}

pub room_same : (s : Sizes) {a b : Mesh} → SameLengths a b → Room s a → Room s b
room_same s l h = record {
  vertices = omega (arith, l.vertices, h.vertices);
  hexes = omega (arith, l.hexes, h.hexes);
  quads = omega (arith, l.quads, h.quads);
  segments = omega (arith, l.segments, h.segments);
  points = omega (arith, l.points, h.points);
}

-- there are as many of each of the working numbers
pub record SameCounts (a b : WorkingNumbers) : Type 0 where
  pub words : length b.words.now ≡ length a.words.now
  pub longs : length b.longs.now ≡ length a.longs.now

-- ---- the sizes of a mesh that a round leaves in the ranges fit their sums

pub small_bounded : (s : Sizes) → out_of_range (counts_in (next_sizes s)) ≡ false → Bounded (2 ^ 59) s
unfolding counts_in next_sizes
small_bounded s h =
    let r = in_range_lem (counts_in (next_sizes s)) h in
    record {
      vertices = omega (arith, r.vertices);
      edges = omega (arith, r.vertices);
      faces = omega (arith, r.vertices);
      hexes = omega (arith, r.vertices);
      quads = omega (arith, r.quads);
      segments = omega (arith, r.segments);
      points = omega (arith, r.points);
    }

-- ---- after k of the rounds

module _ {n : ℕ} {m : Mesh} {s : Sizes} {out work : Mesh} {numbers : WorkingNumbers} (ready : ReadyFor n m s out work numbers) (k : ℕ) where
  -- the sizes after k rounds
  abbrev pub now : Sizes
  now = sizes (topology (refined k m))

  now_is : now ≡ sizes_after k s
  now_is = refined_sizes k m ready.accepted.sound ∙ ap (sizes_after k) (sym ready.sized)

  pub grown : k ≤ n → AtMost now (sizes_after n s)
  grown h = subst (λ (r : Sizes). AtMost r (sizes_after n s)) (sym now_is) (never_fall k n s h)

  vertex_some : 0 < (topology m).vertex_count
  unfolding topology counts_of count_out_of_range
  vertex_some = (in_range_lem (counts_of m) ready.accepted.counted).some

  -- the mesh after k rounds passes the checks
  pub now_accepted : k ≤ n → Accepted (refined k m)
  now_accepted h = accepted_again m ready.accepted k (too_large_before k n (topology m) h vertex_some ready.small)

  pub now_filled : k ≤ n → Filled now (refined k m)
  now_filled h = filled (refined k m) (now_accepted h).entire

  pub front_now : k ≤ n → (o : Mesh) → o ≡ result_tables 0 out (refined k m) → sized_front now o ≡ refined k m
  front_now h o e = ap (sized_front now) e ∙ front_begins now out (refined k m) (now_filled h)

  next_is : next_sizes now ≡ sizes_after (suc k) s
  next_is = ap next_sizes now_is ∙ sym (after_suc k s)

  next_grown : k < n → AtMost (next_sizes now) (sizes_after n s)
  next_grown h = subst (λ (r : Sizes). AtMost r (sizes_after n s)) (sym next_is) (never_fall (suc k) n s h)

  -- a round more leaves the counts in their ranges
  pub next_small : k < n → out_of_range (counts_in (next_sizes now)) ≡ false
  unfolding too_large finished_counts
  next_small h =
      ap (λ (r : Sizes). out_of_range (counts_in r)) (next_is ∙ ap (sizes_after (suc k)) ready.sized)
      ∙ too_large_before (suc k) n (topology m) h vertex_some ready.small

  pub room_now : k ≤ n → (tables : Mesh) → Room (sizes_after n s) tables → Room now tables
  room_now h tables r = room_less now (sizes_after n s) tables (grown h) r

  out_room : k ≤ n → (o : Mesh) → o ≡ result_tables 0 out (refined k m) → Room (sizes_after n s) o
  out_room h o e =
      subst (λ (x : Mesh). Room (sizes_after n s) x) (sym e)
      (room_stored now (sizes_after n s) out (refined k m) (now_filled h) (room_now h out ready.room) ready.room)

  pub turn_ready : (h : k < n) (o : Mesh) → o ≡ result_tables 0 out (refined k m) → {numbers' : WorkingNumbers} → SameCounts numbers numbers' → Room now o × Ready (sized_front now o) now o numbers'.words.now numbers'.longs.now
  turn_ready h o e same =
      let l : k ≤ n = omega arith in
      let f = front_now l o e in
      let g = next_grown h in
      let r = out_room l o e in (
        room_now l o r,
        record {
          accepted = subst Accepted (sym f) (now_accepted l);
          sized = sized f;
          small = next_small h;
          room = room_less (next_sizes now) (sizes_after n s) o g r;
          enough_words = omega (arith, g.vertices, ready.enough_words, same.words);
          enough_longs = omega (arith, g.vertices, ready.enough_longs, same.longs);
        },
      )
    where
      sized : sized_front now o ≡ refined k m → now ≡ sizes (topology (sized_front now o))
      sized f = ap (λ (x : Mesh). sizes (topology x)) (sym f) ∙ refl

one_more : (r : Sizes) → AtMost r (next_sizes r)
unfolding sizes_after
one_more r = after_grows 1 r

-- one round more
module _ {n : ℕ} {m : Mesh} {s : Sizes} {out work : Mesh} {numbers : WorkingNumbers} (ready : ReadyFor n m s out work numbers) (k : ℕ) (h : k < n) where
  pub now_next : sizes (topology (refined (suc k) m)) ≡ next_sizes (now ready k)
  now_next = refined_sizes (suc k) m ready.accepted.sound ∙ after_suc k (sizes (topology m)) ∙ ap next_sizes (sym (refined_sizes k m ready.accepted.sound))

  pub turned : (o o' : Mesh) → o ≡ result_tables 0 out (refined k m) → o' ≡ result_tables 0 o (round (sized_front (now ready k) o)) → o' ≡ result_tables 0 out (refined (suc k) m)
  unfolding refined
  turned o o' e f =
      let l : k ≤ n = omega arith in
      let less = subst (λ (r : Sizes). AtMost (now ready k) r) (sym (now_next)) (one_more (now ready k)) in
      f
      ∙ ap (λ (x : Mesh). result_tables 0 o (round x)) (front_now ready k l o e)
      ∙ ap (λ (x : Mesh). result_tables 0 x (round (refined k m))) e
      ∙ result_twice (now ready k) (now ready (suc k)) (refined k m) (refined (suc k) m) (now_filled ready k l) (now_filled ready (suc k) h) less out

-- ---- the loop's invariant

-- after k of n rounds of the mesh m, which stood at the front of the tables `out₀`
pub record Turning (n k : ℕ) (m : Mesh) (s : Sizes) (out₀ out work₀ work : Mesh) (numbers₀ numbers : WorkingNumbers) : Type 0 where
  pub up_to : k ≤ n
  pub sized : s ≡ sizes (topology (refined k m))
  pub holds : out ≡ result_tables 0 out₀ (refined k m)
  pub same_out : SameLengths out₀ out
  pub same_work : SameLengths work₀ work
  pub same_numbers : SameCounts numbers₀ numbers

own_front : (s : Sizes) (tables : Mesh) → Room s tables → result_tables 0 tables (sized_front s tables) ≡ tables
unfolding front_of result_tables
own_front s tables r =
    same_mesh (own (3 * s.vertices) tables.vertices r.vertices)
    (own (8 * s.hexes) tables.hexes r.hexes)
    (own (4 * s.quads) tables.quads r.quads)
    (own (2 * s.segments) tables.segments r.segments)
    (own s.points tables.points r.points)

module _ {n : ℕ} {s : Sizes} {out work : Mesh} {numbers : WorkingNumbers} (ready : ReadyFor n (sized_front s out) s out work numbers) where
  pub turning_starts : Turning n 0 (sized_front s out) s out out work work numbers numbers
  unfolding refined
  turning_starts = record {
    up_to = omega arith;
    sized = ready.sized;
    holds = sym (own_front s out (room_less s (sizes_after n s) out (after_grows n s) ready.room));
    same_out = same_lengths out;
    same_work = same_lengths work;
    same_numbers = record { words = refl; longs = refl };
  }

module _ {n k : ℕ} {m : Mesh} {s₀ s : Sizes} {out₀ out work₀ work : Mesh} {numbers₀ numbers : WorkingNumbers} (ready : ReadyFor n m s₀ out₀ work₀ numbers₀) (t : Turning n k m s out₀ out work₀ work numbers₀ numbers) (h : k < n) where
  pub turning_ready : Room s work × (Room s out × Ready (sized_front s out) s out numbers.words.now numbers.longs.now)
  turning_ready =
      subst (λ (r : Sizes). Room r work × (Room r out × Ready (sized_front r out) r out numbers.words.now numbers.longs.now)) (sym t.sized)
      (room_now ready k t.up_to work (room_same (sizes_after n s₀) t.same_work ready.working_room), turn_ready ready k h out t.holds t.same_numbers)

  pub turning_bounded : Bounded (2 ^ 59) s
  turning_bounded = small_bounded s (ap (λ (r : Sizes). out_of_range (counts_in (next_sizes r))) t.sized ∙ next_small ready k h)

  -- a round more, and the sizes that it leads to
  module _ {s' : Sizes} {out' : Mesh} (e : s' ≡ next_sizes s) (f : out' ≡ result_tables 0 out (round (sized_front s out))) where
    next_sized : s' ≡ sizes (topology (refined (suc k) m))
    next_sized = e ∙ ap next_sizes t.sized ∙ sym (now_next ready k h)

    next_holds : out' ≡ result_tables 0 out₀ (refined (suc k) m)
    next_holds = turned ready k h out out' t.holds (f ∙ ap (λ (r : Sizes). result_tables 0 out (round (sized_front r out))) t.sized)

    pub turning_next : {work' : Mesh} {numbers' : WorkingNumbers} → SameLengths out out' → SameLengths work work' → SameCounts numbers numbers' → Turning n (suc k) m s' out₀ out' work₀ work' numbers₀ numbers'
    turning_next o w same = record {
      up_to = h;
      sized = next_sized;
      holds = next_holds;
      same_out = same_then t.same_out o;
      same_work = same_then t.same_work w;
      same_numbers = record { words = same.words ∙ t.same_numbers.words; longs = same.longs ∙ t.same_numbers.longs };
    }
