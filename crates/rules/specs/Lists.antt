-- Lists as the rules need them. Definitions only.
-- A recursive call stands in a `let`, so that a test which is decided already leaves it uncomputed.
use Rattle.std.specs.Prelude.{Bool, true, false, cond, ◌&&◌, ◌||◌, List, [], ◌∷◌, ◌++◌, ℕ, zero, suc, ◌/◌, length, take, drop, leb, eqb}

module _ {A : Type 0} where
  -- some element passes the test
  unfoldable pub any : (A → Bool) → List A → Bool
  any p [] = false
  any p (x ∷ xs) = let r = any p xs in p x || r

  -- the elements that pass the test
  unfoldable pub keep : (A → Bool) → List A → List A
  keep p [] = []
  keep p (x ∷ xs) = let r = keep p xs in cond (p x) (x ∷ r) r

  -- some element occurs twice; `equal` is the test of equality
  unfoldable pub repeats : (A → A → Bool) → List A → Bool
  repeats equal [] = false
  repeats equal (x ∷ xs) = let r = repeats equal xs in any (equal x) xs || r

  -- the statement p of each element
  abbrev pub Each : (A → Type 0) → List A → Type 0
  Each p [] = Unit {0}
  Each p (x ∷ xs) = p x × Each p xs

  -- lists joined, one after the other
  unfoldable pub concat : List (List A) → List A
  concat [] = []
  concat (x ∷ xs) = x ++ concat xs

  -- the first n entries of a flat table, k elements each (rule 1.1)
  unfoldable pub entries : ℕ → ℕ → List A → List (List A)
  entries k zero xs = []
  entries k (suc n) xs = take k xs ∷ entries k n (drop k xs)

  -- the entries of a flat table; numbers behind the last whole entry belong to none (rule 5.4)
  unfoldable pub cut : ℕ → List A → List (List A)
  cut k xs = entries k (length xs / k) xs

  -- a buffer after `new` is stored at its front: the unused rest is unchanged (rule 6.4)
  unfoldable pub overwritten : List A → List A → List A
  overwritten old new = new ++ drop (length new) old

module _ {A B : Type 0} where
  unfoldable pub concat_map : (A → List B) → List A → List B
  concat_map f [] = []
  concat_map f (x ∷ xs) = f x ++ concat_map f xs

-- n numbers, from `start` upwards
unfoldable pub up_from : ℕ → ℕ → List ℕ
up_from start zero = []
up_from start (suc n) = start ∷ up_from (suc start) n

-- is x in the list: the cell holds the vertex (rule 1.3)
unfoldable pub has : ℕ → List ℕ → Bool
has x ys = any (eqb x) ys

-- ---- sets of corners

-- a set of corners, as the list of its members in rising order: what tells edges, faces and cells apart (rule 1.10)
abbrev pub Key : Type 0
Key = List ℕ

-- a number put into a rising list, at its place
unfoldable pub insert : ℕ → List ℕ → List ℕ
insert x [] = x ∷ []
insert x (y ∷ ys) = let r = insert x ys in cond (leb x y) (x ∷ y ∷ ys) (y ∷ r)

-- the key of some corners, in whatever order they stand; a corner named twice is in it twice (rule 1.10)
unfoldable pub key_of : List ℕ → Key
key_of [] = []
key_of (x ∷ xs) = insert x (key_of xs)

-- two keys are equal (rule 1.10)
unfoldable pub same : Key → Key → Bool
same [] [] = true
same [] (y ∷ ys) = false
same (x ∷ xs) [] = false
same (x ∷ xs) (y ∷ ys) = let r = same xs ys in eqb x y && r

-- the place of the first k in a list; the list's length if k is not in it (rule 2.2)
unfoldable pub index_of : Key → List Key → ℕ
index_of k [] = zero
index_of k (x ∷ xs) = let r = index_of k xs in cond (same k x) zero (suc r)

-- the list after k is met: k goes to its end unless it is in it (rule 2.2)
unfoldable pub meet : List Key → Key → List Key
meet [] k = k ∷ []
meet (x ∷ xs) k = let r = meet xs k in cond (same k x) (x ∷ xs) (x ∷ r)

unfoldable pub meet_all : List Key → List Key → List Key
meet_all known [] = known
meet_all known (k ∷ ks) = meet_all (meet known k) ks

-- each key once, in the order first met (rule 2.2)
unfoldable pub distinct : List Key → List Key
distinct ks = meet_all [] ks
