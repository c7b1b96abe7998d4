-- The library's words in the rules': tests of a whole list, and the entries of a flat table. Assumes nothing.
use Rattle.std.specs.Prelude.{◌≡◌, Bool, true, false, ◌||◌, List, [], ◌∷◌, ◌++◌, ℕ, zero, suc, ◌+◌, ◌*◌, ◌/◌, ◌<◌, ◌≤◌, length, take, drop, get_or, eqb, fold, Option}
use denote.Param.Members.{Mut}
use Rattle.std.specs.List.{list_any, range_with_len, FoldsTo}
use Rattle.std.specs.Fn.{Called}
use Rattle.std.specs.Iterator.{YieldsThen}
use Rattle.std.specs.Option.{MatchOption}
use Rattle.std.specs.declared.ops.Range.{Range}
use Rattle.std.specs.declared.slice.ChunksExact.{ChunksExact}
use Rattle.std.specs.Slice.Iter.{chunks_exact_rest, chunks_exact_size, chunks_exact_steps}
use Rattle.std.proofs.Common.{refl, sym, ap, ◌∙◌, subst, add-one, arith, length-append, mul-zero}
use Rattle.std.proofs.Math.Nat.{add-div_left, div-eq_of_lt}
use Rattle.std.proofs.iter.Yields.{nat_range_steps}
use Rattle.std.proofs.lemmas.Iterator.{YieldsList, YieldsList-from_range}
use Rattle.std.proofs.lemmas.Iterator.Search.{any_from_yields_List}
use Rattle.std.proofs.lemmas.Iterator.Splits.{YieldsList-from_shown_while}
use lib.Seq.{take_at, drop_at, drop-drop, length-take-le}
use lib.ListN.{take-append-drop, length-drop}
use borrow.Author.Tests.{ne_eqb, eqb-false}
use Rattle.rules.specs.Lists.{any, repeats, entries, cut, has, up_from}
use Rattle.lists.proofs.Tests.{any_same, any_map, false_together, or_false, or_assoc}
use Rattle.lists.proofs.Membership.{up_from_shift}
use Rattle.numbering.proofs.Firsts.{firsts_get_or}
use Rattle.lists.proofs.Tables.{length_cut}

module _ {A : Type 0} where
  pub any-list_any : (p : A → Bool) (xs : List A) → list_any p xs ≡ any p xs
  unfolding any
  any-list_any p [] = refl
  any-list_any p (x ∷ xs) = ap (λ (b : Bool). p x || b) (any-list_any p xs)

  -- a fold that goes to the end whatever it finds
  fold_any_from : (p : A → Bool) (found : Bool) (xs : List A) → fold (λ (b : Bool) (x : A). b || p x) found xs ≡ (found || any p xs)
  unfolding any
  fold_any_from p found [] = sym (or_false found)
  fold_any_from p found (x ∷ xs) = fold_any_from p (found || p x) xs ∙ or_assoc found (p x) (any p xs)

  pub fold_any : (p : A → Bool) (xs : List A) → fold (λ (b : Bool) (x : A). b || p x) false xs ≡ any p xs
  fold_any p xs = fold_any_from p false xs

  -- the first entry of a flat table
  pub cut-append : (k : ℕ) (x ys : List A) → 0 < k → length x ≡ k → cut k (x ++ ys) ≡ x ∷ cut k ys
  unfolding cut entries
  cut-append k x ys h e =
      let n : length (x ++ ys) / k ≡ suc (length ys / k) = ap (λ (l : ℕ). l / k) (length-append x ys ∙ ap (λ (l : ℕ). l + length ys) e) ∙ add-div_left (length ys) h ∙ add-one (length ys / k) in
      rw (n, take_at x ys k e, drop_at x ys k e)

  -- `chunks_exact` gives the entries
  pub YieldsList-from_cut : {s : ChunksExact A} (k : ℕ) (xs : List A) → 0 < k → chunks_exact_size s ≡ k → chunks_exact_rest s ≡ xs
      → YieldsList (chunks_exact_steps {A = A}) (λ y. y.now) s (cut k xs)
  YieldsList-from_cut {s} k xs h size rest =
      subst (YieldsList (chunks_exact_steps {A = A}) (λ y. y.now) s) (ap (λ (l : List A). cut k l) rest)
      (YieldsList-from_shown_while (chunks_exact_steps {A = A}) (λ y. y.now) (λ t. cut k (chunks_exact_rest t)) (λ t. chunks_exact_size t ≡ k)
      (λ t u p q. length_cut k (chunks_exact_rest t) ∙ div-eq_of_lt (omega (arith, p, q.1.0)))
      (λ t x u p q. (q.0 ∙ p, ap (cut k) q.1.0 ∙ cut-append k x.now (chunks_exact_rest u) h (q.1.1 ∙ p)))
      s size)

either_way : (x y : ℕ) → eqb y x ≡ eqb x y
either_way x y = false_together (eqb y x) (eqb x y) (λ h. ne_eqb x y (λ e. eqb-false y x h (sym e))) (λ h. ne_eqb y x (λ e. eqb-false x y h (sym e)))

-- `contains`
pub has_contains : (x : ℕ) (xs : List ℕ) → list_any (λ (y : ℕ). eqb y x) xs ≡ has x xs
unfolding has
has_contains x xs = any-list_any (λ (y : ℕ). eqb y x) xs ∙ any_same (λ (y : ℕ). eqb y x) (eqb x) xs (λ y i. either_way x y)

-- ---- a search by number

-- the library's ranges
pub range-up_from : (a n : ℕ) → range_with_len a n ≡ up_from a n
unfolding up_from
range-up_from a zero = refl
range-up_from a (suc n) = rw (add-one a) (ap (λ (l : List ℕ). a ∷ l) (range-up_from (suc a) n))

module _ {A : Type 0} where
  -- a list is searched by its places
  pub any_places : (p : A → Bool) (xs : List A) (d : A) → any (λ (i : ℕ). p (get_or xs i d)) (up_from 0 (length xs)) ≡ any p xs
  any_places p xs d = sym (any_map p (λ (i : ℕ). get_or xs i d) (up_from 0 (length xs))) ∙ ap (any p) (firsts_get_or xs d)

  -- each element is sought behind its place
  pub repeats_places : (equal : A → A → Bool) (xs : List A) (d : A)
      → any (λ (i : ℕ). any (equal (get_or xs i d)) (drop (i + 1) xs)) (up_from 0 (length xs)) ≡ repeats equal xs
  unfolding any repeats up_from
  repeats_places equal [] d = refl
  repeats_places equal (x ∷ xs) d =
      let test : List A → ℕ → Bool = λ ys i. any (equal (get_or ys i d)) (drop (i + 1) ys) in
      let behind : any (test (x ∷ xs)) (up_from 1 (length xs)) ≡ repeats equal xs =
      ap (any (test (x ∷ xs))) (up_from_shift 1 0 (length xs))
      ∙ any_map (test (x ∷ xs)) (λ (v : ℕ). 1 + v) (up_from 0 (length xs))
      ∙ any_same (λ (v : ℕ). test (x ∷ xs) (1 + v)) (test xs) (up_from 0 (length xs))
      (λ v i. let e : 1 + v ≡ suc v = omega arith in rw (e, add-one (suc v), add-one v))
      ∙ repeats_places equal xs d in
      ap (λ (b : Bool). any (equal x) xs || b) behind

-- `any` over the numbers below n
module _ {F : Type 0} {g : Mut F (ℕ × Unit {0}) Bool} {s : Range ℕ} where
  pub any_range : (test : ℕ → Bool) (n : ℕ) (u : Range ℕ) (f : F) (r : Bool)
      → (xs : List ℕ) × (o : Option ℕ) × (j : F) × YieldsThen nat_range_steps s xs o u × FoldsTo (λ p x q. Called g p (x, tt) false q) f xs j
      × MatchOption o (r ≡ false) (λ x. (r ≡ true) × ((h : F) × Called g j (x, tt) true h))
      → s ≡ record { start = 0; end = n } → ((x : ℕ) (b : Bool) (q : F) → Called g f (x, tt) b q → (q ≡ f) × (b ≡ test x))
      → r ≡ any test (up_from 0 n)
  any_range test n u f r ran e step =
      any_from_yields_List test u f r ran (YieldsList-from_range 0 n n e (omega arith)) step
      ∙ any-list_any test (range_with_len 0 n)
      ∙ ap (any test) (range-up_from 0 n)

module _ {A : Type 0} (k : ℕ) (pos : 0 < k) where
  cut_step : (xs : List A) → k ≤ length xs → cut k xs ≡ take k xs ∷ cut k (drop k xs)
  cut_step xs h = ap (cut k) (sym (take-append-drop k xs)) ∙ cut-append k (take k xs) (drop k xs) pos (length-take-le k xs h)

  -- the entries from c on
  pub drop-cut : (c : ℕ) (xs : List A) → k * c ≤ length xs → drop c (cut k xs) ≡ cut k (drop (k * c) xs)
  drop-cut zero xs h = rw (mul-zero k)
  drop-cut (suc c) xs h =
      let e : k * suc c ≡ k + k * c = omega arith in
      ap (drop (suc c)) (cut_step xs (omega arith))
      ∙ drop-cut c (drop k xs) (omega (arith, length-drop k xs))
      ∙ ap (cut k) (drop-drop (k * c) k xs ∙ ap (λ (n : ℕ). drop n xs) (sym e))
