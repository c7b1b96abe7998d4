-- Keys met one after the other: what a loop over keys keeps, with the numbers that it stores. Assumes nothing.
use mathlib.Core.Path.{◌≡◌, refl, sym, ap, ◌∙◌}
use mathlib.Core.List.{List, [], ◌∷◌, ◌++◌, map, append_assoc, append-nil}
use Prim.Native.Nat.{ℕ, suc, ◌+◌, ◌*◌, ◌/◌, ◌-◌, ◌≤◌, ◌<◌}
use native.Mathlib.Nat.{div-lt_iff_lt-mul, mul-div-le, mul-le-mul_left}
use Rattle.std.proofs.lemmas.Nat.{le-div}
use native.Mathlib.Numerals.{add-one}
use native.Mathlib.Omega.{arith}
use lib.ListN.{length, get_or, set, take, drop, length-append, length-drop, length-map, take-append-drop}
use lib.Seq.{split_at, length-take-le, take_all, take_at, drop_at, drop-drop, take-suc}
use Rattle.rules.specs.Lists.{concat_map, cut, up_from, Key, index_of, meet, meet_all, distinct}
use Rattle.lists.specs.Membership.{In}
use Rattle.lists.proofs.Membership.{get_or_map}
use Rattle.lists.proofs.Once.{concat_map_append}
use Rattle.lists.proofs.Tables.{cut_entry, length_cut}
use Rattle.lists.proofs.Distinct.{index_in, index_left, meet_all_append, meet_all_more}
use Rattle.memory.proofs.Stores.{Storing, store_start, front_turn, store_end, sets_front}
use Rattle.std.proofs.Common.{Option, Some, None}
use Rattle.numbering.specs.Table.{keys, Table, Met, MetAll}
use Rattle.numbering.specs.Parts.{Numbered, Tallied}
use Rattle.numbering.specs.Count.{CountOf}
use Rattle.numbering.proofs.Entries.{length_keys}

-- ---- more keys are met

-- a key that has been met keeps its place
pub index_later : (known xs ys : List Key) (k : Key) → In k (meet_all known xs) → index_of k (meet_all known (xs ++ ys)) ≡ index_of k (meet_all known xs)
index_later known xs ys k i =
    let r = meet_all_more (meet_all known xs) ys in
    ap (index_of k) (meet_all_append known xs ys ∙ r.1) ∙ index_left k (meet_all known xs) r.0 i

-- there are no fewer
pub length_later : (known xs ys : List Key) → length (meet_all known xs) ≤ length (meet_all known (xs ++ ys))
length_later known xs ys =
    let r = meet_all_more (meet_all known xs) ys in
    omega (arith, ap length (meet_all_append known xs ys ∙ r.1) ∙ length-append (meet_all known xs) r.0)

-- ---- a cell of a flat table

-- where entry i of k elements ends
pub entry_end : (k i : ℕ) (xs : List ℕ) → i < length xs / k → k * i + k ≤ length xs
entry_end k i xs l = omega (arith, mul-div-le (length xs) k, mul-le-mul_left k l)

-- what is lent of the table
pub entry_is : (k i : ℕ) (xs : List ℕ) → i < length xs / k → take (k * i + k - k * i) (drop (k * i) xs) ≡ get_or (cut k xs) i []
entry_is k i xs l =
    let e : k * i + k - k * i ≡ k = omega arith in
    ap (λ (n : ℕ). take n (drop (k * i) xs)) e ∙ sym (cut_entry k i xs [] l)

-- and how long that is
pub entry_length : (k i : ℕ) (xs : List ℕ) → i < length xs / k → length (take (k * i + k - k * i) (drop (k * i) xs)) ≡ k
entry_length k i xs l =
    length-take-le (k * i + k - k * i) (drop (k * i) xs) (omega (arith, length-drop (k * i) xs, entry_end k i xs l)) ∙ omega arith

-- cell x is lent, and `more` is left, of a table whose first i cells were lent before
pub record Chunk (k i : ℕ) (xs x more : List ℕ) : Type 0 where
  pub listed : i < length (cut k xs)
  pub cell : x ≡ get_or (cut k xs) i []
  pub left : more ≡ drop (k * (i + 1)) xs

module _ (xs : List ℕ) {k i : ℕ} {rest : List ℕ} (some : 0 < k) (left : rest ≡ drop (k * i) xs) where
  pub chunk : {x more : List ℕ} → rest ≡ x ++ more → length x ≡ k → Chunk k i xs x more
  chunk {x} {more} lent whole =
      let l : i < length xs / k =
      le-div (suc i) (length xs) k some (omega (arith, ap length left, length-drop (k * i) xs, ap length lent, length-append x more, whole, some)) in
      let e : x ≡ take k rest = sym (ap (take k) lent ∙ take_at x more k whole) in
      let r : more ≡ drop k rest = sym (ap (drop k) lent ∙ drop_at x more k whole) in
      let m : k * i + k ≡ k * (i + 1) = omega arith in
      record {
        listed = omega (arith, l, length_cut k xs);
        cell = e ∙ ap (take k) left ∙ sym (cut_entry k i xs [] l);
        left = r ∙ ap (drop k) left ∙ drop-drop k (k * i) xs ∙ ap (λ (n : ℕ). drop n xs) m;
      }

  -- no whole cell is left
  pub chunk_end : length rest < k → length (cut k xs) ≤ i
  chunk_end l =
      let h : length xs < suc i * k = omega (arith, ap length left, length-drop (k * i) xs) in
      omega (arith, (div-lt_iff_lt-mul {k = k} {x = length xs} {y = suc i} some).1 h, length_cut k xs)

-- ---- a list, element after element

module _ {A B : Type 0} (f : A → List B) (xs : List A) (i : ℕ) (d : A) (l : i < length xs) where
  -- element i, and the rest
  pub concat_map_at : concat_map f xs ≡ concat_map f (take i xs) ++ (f (get_or xs i d) ++ concat_map f (drop (suc i) xs))
  unfolding concat_map
  concat_map_at = ap (concat_map f) (split_at xs i d l) ∙ concat_map_append f (take i xs) (get_or xs i d ∷ drop (suc i) xs)

  -- a turn of a loop
  pub concat_map_turn : concat_map f (take (i + 1) xs) ≡ concat_map f (take i xs) ++ f (get_or xs i d)
  unfolding concat_map
  concat_map_turn =
      rw (add-one i, take-suc xs i d l)
      (concat_map_append f (take i xs) (get_or xs i d ∷ []) ∙ ap (λ (r : List B). concat_map f (take i xs) ++ r) (append-nil (f (get_or xs i d))))

-- ---- tables

pub met_none : {c : ℕ} {w : List ℕ} {room n : ℕ} → Table c w room n → MetAll c w w room n [] n
unfolding meet_all
met_none t = record { table = t; keys_are = refl }

-- one run of keys behind another
pub met_append : {c : ℕ} {w w₁ w₂ : List ℕ} {room n n₁ n₂ : ℕ} {ks ls : List Key} → MetAll c w w₁ room n ks n₁ → MetAll c w₁ w₂ room n₁ ls n₂ → MetAll c w w₂ room n (ks ++ ls) n₂
met_append {c} {w} {w₁} {w₂} {room} {n} {n₁} {n₂} {ks} {ls} a b = record {
  table = b.table;
  keys_are = b.keys_are ∙ ap (λ (l : List Key). meet_all l ls) a.keys_are ∙ sym (meet_all_append (keys c w room n) ks ls);
}

-- no room for keys that are met next is no room for all
pub full_later : {c : ℕ} {w w₁ : List ℕ} {room n n₁ : ℕ} {ks : List Key} → MetAll c w w₁ room n ks n₁ → (ls more : List Key) → room < length (meet_all (keys c w₁ room n₁) ls) → room < length (meet_all (keys c w room n) (ks ++ (ls ++ more)))
full_later {c} {w} {w₁} {room} {n} {n₁} {ks} a ls more l =
    let e : meet_all (keys c w₁ room n₁) ls ≡ meet_all (keys c w room n) (ks ++ ls) =
    ap (λ (k : List Key). meet_all k ls) a.keys_are ∙ sym (meet_all_append (keys c w room n) ks ls) in
    rw (sym (append_assoc ks ls more)) (omega (arith, rw e at l, length_later (keys c w room n) (ks ++ ls) more))

met_one : {c : ℕ} {w w₁ : List ℕ} {room n count : ℕ} {k : Key} {number : ℕ} → Met c w w₁ room n k number count → MetAll c w w₁ room n (k ∷ []) count
unfolding meet_all
met_one m = record { table = m.table; keys_are = m.keys_are }

-- ---- how many keys were met

-- more keys, met behind those that an empty table has met
pub counted : {c : ℕ} {w w₁ : List ℕ} {room n : ℕ} {before : List Key} → MetAll c w w₁ room 0 before n → (w₂ : List ℕ) (ks : List Key) (r : Option ℕ) → Tallied c w₁ w₂ room n ks r → CountOf (before ++ ks) r
unfolding keys up_from distinct
counted {c} {w} {w₁} {room} {n} {before} a w₂ ks (Some count) m =
    sym (length_keys c w₂ room count) ∙ ap length (met_append a m).keys_are
counted a w₂ ks None m = tt

-- ---- a loop over the keys ks that stores their places, counted from `base`, at the front of a list: after j turns

-- the number of a key, whatever is met later
abbrev number_of : ℕ → List ℕ → ℕ → ℕ → List Key → ℕ → List Key → Key → ℕ
number_of c w room n ks base later k = base + index_of k (meet_all (keys c w room n) (ks ++ later))

pub record Progress (c : ℕ) (w w₁ : List ℕ) (room n : ℕ) (ks : List Key) (base : ℕ) (old new : List ℕ) (count j : ℕ) : Type 0 where
  pub below : j ≤ length ks
  pub met : MetAll c w w₁ room n (take j ks) count
  pub stored : (later : List Key) → Storing 0 (map (number_of c w room n ks base later) ks) old new j

pub progress_start : {c : ℕ} {w : List ℕ} {room n : ℕ} (ks : List Key) (base : ℕ) (old : List ℕ) → Table c w room n → Progress c w w room n ks base old old n 0
progress_start ks base old t = record { below = omega arith; met = met_none t; stored = λ later. store_start 0 _ old }

module _ {c : ℕ} {w w₁ : List ℕ} {room n : ℕ} {ks : List Key} {base : ℕ} {old new : List ℕ} {count j : ℕ} (p : Progress c w w₁ room n ks base old new count j) where
  module _ {w₂ : List ℕ} {k : Key} {number more : ℕ} (m : Met c w₁ w₂ room count k number more) (e : k ≡ get_or ks j []) (l : j < length ks) where
    next_met : MetAll c w w₂ room n (take (suc j) ks) more
    next_met = rw (take-suc ks j [] l, ← e) (met_append p.met (met_one m))

    number_is : (later : List Key) → base + number ≡ get_or (map (number_of c w room n ks base later) ks) j 0
    number_is later =
        let known = keys c w room n in
        let s : ks ++ later ≡ take (suc j) ks ++ (drop (suc j) ks ++ later) =
        ap (λ (l : List Key). l ++ later) (sym (take-append-drop (suc j) ks)) ∙ append_assoc (take (suc j) ks) (drop (suc j) ks) later in
        let i : In k (meet_all known (take (suc j) ks)) =
        rw next_met.keys_are at (index_in k (keys c w₂ room more) (omega (arith, m.number_is, m.known, length_keys c w₂ room more))) in
        ap (λ (x : ℕ). base + x)
        (m.number_is ∙ ap (index_of k) next_met.keys_are ∙ sym (index_later known (take (suc j) ks) (drop (suc j) ks ++ later) k i) ∙ ap (λ (l : List Key). index_of k (meet_all known l)) (sym s))
        ∙ ap (number_of c w room n ks base later) e
        ∙ sym (get_or_map (number_of c w room n ks base later) ks j [] 0 l)

    pub progress_turn : Progress c w w₂ room n ks base old (set new j (base + number)) more (j + 1)
    progress_turn = record {
      below = omega arith;
      met = rw (add-one j) next_met;
      stored = λ later. front_turn 0 (number_is later) (p.stored later) (omega (arith, length-map ks (number_of c w room n ks base later)));
    }

  pub progress_full : {k : Key} → k ≡ get_or ks j [] → j < length ks → room < length (meet (keys c w₁ room count) k) → room < length (meet_all (keys c w room n) ks)
  unfolding meet_all
  progress_full {k} e l h =
      let s : take j ks ++ ((k ∷ []) ++ drop (suc j) ks) ≡ ks =
      sym (append_assoc (take j ks) (k ∷ []) (drop (suc j) ks))
      ∙ ap (λ (t : List Key). t ++ drop (suc j) ks) (ap (λ (x : Key). take j ks ++ (x ∷ [])) e ∙ sym (take-suc ks j [] l))
      ∙ take-append-drop (suc j) ks in
      rw s at (full_later p.met (k ∷ []) (drop (suc j) ks) h)

  pub progress_end : length ks ≤ j → length ks ≤ length old → Numbered c w w₁ room n ks base old new count
  progress_end l fits = record {
    met = rw (take_all j ks l) at p.met;
    numbers_are = λ later.
        let m = length-map ks (number_of c w room n ks base later) in
        store_end (p.stored later) (omega arith) ∙ sets_front old (map (number_of c w room n ks base later) ks) (omega arith);
  }
