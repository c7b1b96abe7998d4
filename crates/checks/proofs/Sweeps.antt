-- One class, met one after the other; all classes, one after the other. Assumes nothing.
use mathlib.Core.Path.{◌≡◌, refl, sym, ap, ◌∙◌}
use mathlib.Core.Bool.{Bool, true, false, cond}
use mathlib.Core.Logic.{⊎_elim}
use mathlib.Core.List.{List, [], ◌∷◌, ◌++◌, map, map-append, append-nil}
use Prim.Native.Nat.{ℕ, ◌+◌, ◌<◌, ◌≤◌}
use native.Mathlib.Numerals.{add-one}
use native.Mathlib.Omega.{arith}
use lib.Dec.{ltb}
use lib.ListN.{length, take, get_or, length-map}
use lib.Seq.{take-suc, take_all}
use borrow.Author.Tests.{ltb-true, ltb-false, eq-eqb}
use Rattle.rules.specs.Lists.{keep, up_from, Key, key_of, index_of, meet, meet_all, distinct}
use Rattle.lists.specs.Membership.{In}
use Rattle.lists.proofs.Membership.{in_append, in_map, map_in, get_or_in, in_keep, keep_in, length_keep}
use Rattle.lists.proofs.Tests.{either}
use Rattle.lists.proofs.Distinct.{index_below, in_distinct, distinct_in, distinct_turn, index_stays, distinct_length}
use Rattle.numbering.specs.Table.{keys}
use Rattle.numbering.proofs.Entries.{length_keys}
use Rattle.std.specs.Prelude.{Result, Ok, Err}
use Rattle.checks.specs.declared.tagged.Stopped.{Stopped}
use Rattle.checks.specs.declared.tagged.Stopped.TheVariants.{Differs, Full}
use Rattle.checks.specs.declared.classes.Walk.{Walk}
use Rattle.checks.specs.Tagged.{front, beside, Agreed, Differed}
use Rattle.checks.specs.Classes.{tag_for, class_of, in_class, ClassMet, Agreeing, Apart, Found}
use Rattle.checks.proofs.ClassLaws.{class_key, class_below, class_distinct, keep_below, keep_next, keep_none, keep_all}
use Rattle.checks.proofs.Slices.{take_in}

-- ---- a table of what was met

-- the keys of ps were met, each with its tag
record Swept (of : Walk) (ps : List (List ℕ)) (c : ℕ) (w : List ℕ) (room n : ℕ) : Type 0 where
  keys_are : keys c (front c room w) room n ≡ distinct (map key_of ps)
  agree : (p : List ℕ) → In p ps → beside c room w (index_of (key_of p) (distinct (map key_of ps))) ≡ tag_for of p

module _ {of : Walk} {ps : List (List ℕ)} {c : ℕ} {w : List ℕ} {room n : ℕ} (s : Swept of ps c w room n) where
  swept_turn : {w' : List ℕ} {count : ℕ} (p : List ℕ) → Agreed c w w' room n count (key_of p) (tag_for of p) → Swept of (ps ++ (p ∷ [])) c w' room count
  swept_turn {w'} {count} p a =
      record {
        keys_are = next;
        agree = λ q j. ⊎_elim (before q) (λ (i : In q (p ∷ [])). ⊎_elim (λ (e : q ≡ p). rw (e, ← next) a.own) absurd i) (in_append q ps (p ∷ []) j);
      }
    where
      more : map key_of (ps ++ (p ∷ [])) ≡ map key_of ps ++ (key_of p ∷ [])
      more = map-append key_of ps (p ∷ [])

      next : keys c (front c room w') room count ≡ distinct (map key_of (ps ++ (p ∷ [])))
      next =
          a.keys_are
          ∙ ap (λ (l : List Key). meet l (key_of p)) s.keys_are
          ∙ sym (ap distinct more ∙ distinct_turn (map key_of ps) (key_of p))

      before : (q : List ℕ) → In q ps → beside c room w' (index_of (key_of q) (distinct (map key_of (ps ++ (p ∷ []))))) ≡ tag_for of q
      before q j =
          let d = distinct_in (map key_of ps) (key_of q) (map_in key_of ps q j) in
          let stays : index_of (key_of q) (distinct (map key_of (ps ++ (p ∷ [])))) ≡ index_of (key_of q) (distinct (map key_of ps)) =
          ap (λ (l : List Key). index_of (key_of q) (distinct l)) more ∙ index_stays (map key_of ps) (key_of p ∷ []) (key_of q) d in
          let small : index_of (key_of q) (distinct (map key_of ps)) < n = omega (
            arith,
            index_below (key_of q) (distinct (map key_of ps)) d,
            ap length s.keys_are,
            length_keys c (front c room w) room n,
          ) in
          rw stays (a.others (index_of (key_of q) (distinct (map key_of ps))) small ∙ s.agree q j)

  -- p differs from one of them with its corners
  swept_differs : (p : List ℕ) → Differed c w room n (key_of p) (tag_for of p) → (all : List (List ℕ)) → In p all
      → ((q : List ℕ) → In q ps → In q all) → Apart of all
  swept_differs p d all i within =
      let r = in_map key_of ps (key_of p) (in_distinct (map key_of ps) (key_of p) (rw s.keys_are at d.known)) in
      let q = r.0 in
      let place : index_of (key_of p) (keys c (front c room w) room n) ≡ index_of (key_of q) (distinct (map key_of ps)) =
      ap (index_of (key_of p)) s.keys_are ∙ ap (λ (k : Key). index_of k (distinct (map key_of ps))) r.2 in
      record {
        one = p;
        other = q;
        one_in = i;
        other_in = within q r.1;
        keys = r.2;
        tags = λ e. d.other (ap (beside c room w) place ∙ s.agree q r.1 ∙ sym e);
      }

  swept_end : Agreeing of ps n
  swept_end = record {
    count_is = sym (length_keys c (front c room w) room n) ∙ ap length s.keys_are;
    agree = λ p q i j e. sym (s.agree p i) ∙ ap (λ (k : Key). beside c room w (index_of k (distinct (map key_of ps)))) e ∙ s.agree q j;
  }

-- ---- one class

module _ {A : Type 0} (t : A → Bool) where
  keep_append : (xs ys : List A) → keep t (xs ++ ys) ≡ keep t xs ++ keep t ys
  unfolding keep
  keep_append [] ys = refl
  keep_append (x ∷ xs) ys = go (t x) (keep_append xs ys)
    where
      go : (b : Bool) → keep t (xs ++ ys) ≡ keep t xs ++ keep t ys
          → cond b (x ∷ keep t (xs ++ ys)) (keep t (xs ++ ys)) ≡ cond b (x ∷ keep t xs) (keep t xs) ++ keep t ys
      go true e = ap (λ (l : List A). x ∷ l) e
      go false e = e

  keep_snoc : (xs : List A) (x : A) → keep t (xs ++ (x ∷ [])) ≡ keep t xs ++ cond (t x) (x ∷ []) []
  unfolding keep
  keep_snoc xs x = keep_append xs (x ∷ [])

-- the first i of ps were looked at
pub record Sweeping (of : Walk) (class : List ℕ → Bool) (ps : List (List ℕ)) (c : ℕ) (w : List ℕ) (room n i : ℕ) : Type 0 where
  pub below : i ≤ length ps
  swept : Swept of (keep class (take i ps)) c w room n

pub sweep_start : (of : Walk) (class : List ℕ → Bool) (ps : List (List ℕ)) (c : ℕ) (w : List ℕ) (room : ℕ) → Sweeping of class ps c w room 0 0
unfolding keys up_from distinct meet_all keep
sweep_start of class ps c w room = record { below = omega arith; swept = record { keys_are = refl; agree = λ p i. absurd i } }

module _ {of : Walk} {class : List ℕ → Bool} {ps : List (List ℕ)} {c : ℕ} {w : List ℕ} {room n i : ℕ} (s : Sweeping of class ps c w room n i) (l : i < length ps) where
  abbrev this : List ℕ
  this = get_or ps i []

  next : keep class (take (i + 1) ps) ≡ keep class (take i ps) ++ cond (class this) (this ∷ []) []
  next = rw (add-one i, take-suc ps i [] l) (keep_snoc class (take i ps) this)

  pub sweep_turn : {w' : List ℕ} {count : ℕ} {r : Result ℕ Stopped} → r ≡ Ok count → ClassMet class this c w w' room n (tag_for of this) r
      → Sweeping of class ps c w' room count (i + 1)
  sweep_turn {w'} {count} e met = record { below = omega arith; swept = rw next (go (class this) refl) }
    where
      here : ClassMet class this c w w' room n (tag_for of this) (Ok count)
      here = rw e at met

      go : (b : Bool) → class this ≡ b → Swept of (keep class (take i ps) ++ cond b (this ∷ []) []) c w' room count
      go true e = swept_turn s.swept this (here.inside e)
      go false e =
          let o = here.outside e in
          rw (append-nil (keep class (take i ps)), o.0, o.1) s.swept

  -- where it stops, it stops for the class
  pub sweep_stops : {w' : List ℕ} (r : Stopped) → ClassMet class this c w w' room n (tag_for of this) (Err r) → Found of (keep class ps) (Err r)
  sweep_stops Differs met = go (class this) refl
    where
      go : (b : Bool) → class this ≡ b → Apart of (keep class ps)
      go true e =
          swept_differs s.swept this (met.inside e) (keep class ps) (keep_in class ps this (get_or_in ps i [] l) e)
          (λ q j. let k = in_keep class (take i ps) q j in keep_in class ps q (take_in ps i q k.0) k.1)
      go false e = absurd (met.outside e)
  sweep_stops Full met = tt

pub sweep_end : {of : Walk} {class : List ℕ → Bool} {ps : List (List ℕ)} {c : ℕ} {w : List ℕ} {room n i : ℕ} → Sweeping of class ps c w room n i → length ps ≤ i
    → Agreeing of (keep class ps) n
sweep_end {of} {class} {ps} {c} {w} {room} {n} {i} s h = rw (take_all i ps h) at (swept_end s.swept)

-- ---- all classes

-- in the classes below `class` there are n corner sets, and what has one corner set has one tag
pub record Totalling (of : Walk) (m : ℕ) (ps : List (List ℕ)) (n class : ℕ) : Type 0 where
  pub below : class ≤ m
  pub total_is : n ≡ length (keep_below (class_of m) class (distinct (map key_of ps)))
  pub agree : (p q : List ℕ) → In p ps → In q ps → key_of p ≡ key_of q → class_of m p < class → tag_for of p ≡ tag_for of q

pub total_start : (of : Walk) (m : ℕ) (ps : List (List ℕ)) → Totalling of m ps 0 0
total_start of m ps = record {
  below = omega arith;
  total_is = sym (keep_none (class_of m) (distinct (map key_of ps)));
  agree = λ p q i j e h. absurd (omega arith);
}

module _ {of : Walk} {m : ℕ} {ps : List (List ℕ)} {n class : ℕ} (t : Totalling of m ps n class) where
  pub total_turn : class < m → {more : ℕ} → Agreeing of (keep (in_class m class) ps) more → Totalling of m ps (n + more) (class + 1)
  total_turn h {more} a = record {
    below = omega arith;
    total_is = rw (t.total_is, a.count_is ∙ class_distinct m class ps) (keep_next (class_of m) class (distinct (map key_of ps)));
    agree = λ p q i j e l. ⊎_elim
        (λ (b : ltb (class_of m p) class ≡ true). t.agree p q i j e (ltb-true (class_of m p) class b))
        (λ (b : ltb (class_of m p) class ≡ false). last p q i j e (omega (arith, l, ltb-false (class_of m p) class b)))
        (either (ltb (class_of m p) class));
  }
    where
      last : (p q : List ℕ) → In p ps → In q ps → key_of p ≡ key_of q → class_of m p ≡ class → tag_for of p ≡ tag_for of q
      last p q i j e x =
          let y : class_of m q ≡ class = sym (class_key m q) ∙ ap (class_of m) (sym e) ∙ class_key m p ∙ x in
          a.agree p q (keep_in (in_class m class) ps p i (eq-eqb (class_of m p) class x))
          (keep_in (in_class m class) ps q j (eq-eqb (class_of m q) class y)) e

  -- there are no more of them than places
  pub total_few : n ≤ length ps
  total_few = omega (
    arith,
    t.total_is,
    length_keep (λ (k : Key). ltb (class_of m k) class) (distinct (map key_of ps)),
    distinct_length (map key_of ps),
    length-map ps key_of,
  )

  pub total_end : 0 < m → m ≤ class → Agreeing of ps n
  total_end pos h =
      let e : class ≡ m = omega (arith, t.below) in
      record {
        count_is = rw e at t.total_is ∙ keep_all (class_of m) m (class_below m pos) (distinct (map key_of ps));
        agree = λ p q i j k. t.agree p q i j k (rw e (class_below m pos p));
      }

-- what differs in a class differs; and what is left open is left open
pub found_all : (of : Walk) (class : List ℕ → Bool) (ps : List (List ℕ)) (e : Stopped) → Found of (keep class ps) (Err e) → Found of ps (Err e)
found_all of class ps Differs a = record {
  one = a.one;
  other = a.other;
  one_in = (in_keep class ps a.one a.one_in).0;
  other_in = (in_keep class ps a.other a.other_in).0;
  keys = a.keys;
  tags = a.tags;
}
found_all of class ps Full a = tt
