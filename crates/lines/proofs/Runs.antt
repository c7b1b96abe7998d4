-- Runs of bytes appended to a text: one after another, and one for each element of a list. Assumes nothing.
use mathlib.Core.Path.{◌≡◌, refl, sym, ap, ◌∙◌}
use mathlib.Core.List.{List, [], ◌∷◌, ◌++◌, append-nil, append_assoc}
use Prim.Native.Nat.{ℕ, suc, ◌+◌, ◌-◌, ◌≤◌, ◌<◌}
use borrow.Rule.Slice.PartMut.{put_mid}
use native.Mathlib.Numerals.{add-one}
use native.Mathlib.Omega.{arith}
use lib.ListN.{length, take, drop, get_or, set, length-append, take-append-drop}
use lib.Seq.{sets, length-sets, sets-eq, take-suc, take_all, drop-cons, drop-drop}
use Rattle.rules.specs.Lists.{concat_map, overwritten}
use Rattle.lists.proofs.Once.{concat_map_append}
use Rattle.lines.specs.declared.text.Text.{Text}
use Rattle.lines.specs.Appended.{Room, Appended, Printed}

-- ---- one after another

sets_append : (l : List ℕ) (i : ℕ) (x y : List ℕ) → sets (sets l i x) (i + length x) y ≡ sets l i (x ++ y)
sets_append l i [] y = ap (λ (k : ℕ). sets l k y) (none i)
  where
    none : (i : ℕ) → i + 0 ≡ i
    none i = omega arith
sets_append l i (a ∷ x) y = ap (λ (k : ℕ). sets (sets (set l i a) (suc i) x) k y) (more i (length x)) ∙ sets_append (set l i a) (suc i) x y
  where
    more : (i n : ℕ) → i + suc n ≡ suc i + n
    more i n = omega arith

pub append_none : (t : Text) → Appended t t []
append_none t = record { same_buffer = refl; stored = refl; behind = omega arith }

-- one byte
pub append_one : (t : Text) (b : ℕ) → Appended t (record t { buffer = record t.buffer { now = set t.buffer.now t.length b }; length = t.length + 1 }) (b ∷ [])
append_one t b = record { same_buffer = refl; stored = refl; behind = refl }

-- the buffer stays as long as it is
pub append_length : {old new : Text} {x : List ℕ} → Appended old new x → length new.buffer.now ≡ length old.buffer.now
append_length {old} {new} {x} a = ap length a.stored ∙ length-sets old.buffer.now old.length x

module _ {old mid new : Text} {x y : List ℕ} where
  infixr 20 ◌then◌
  pub ◌then◌ : Appended old mid x → Appended mid new y → Appended old new (x ++ y)
  a then b = record {
    same_buffer = b.same_buffer ∙ a.same_buffer;
    stored = rw (b.stored, a.stored, a.behind) (sets_append old.buffer.now old.length x y);
    behind = omega (arith, a.behind, b.behind, length-append x y);
  }

-- a word, copied behind the text
pub word_stored : (l word copied : List ℕ) (at : ℕ) → copied ≡ word → at + length word ≤ length l → put_mid at (at + length word - at) l copied ≡ sets l at word
word_stored l word copied at e h =
    let n : at + length word - at ≡ length word = omega arith in
    rw (n, e, drop-drop (length word) at l) (sym (sets-eq word l at h ∙ append_assoc (take at l) word (drop (at + length word) l)))

-- room for all is room for the first run, and behind it for the rest
pub room_first : {t : Text} (x y : List ℕ) → Room t (x ++ y) → Room t x
room_first x y r = record { fits = omega (arith, r.fits, length-append x y) }

pub room_rest : {old new : Text} {x : List ℕ} (y : List ℕ) → Appended old new x → Room old (x ++ y) → Room new y
room_rest {x = x} y a r = record { fits = omega (arith, r.fits, a.behind, length-append x y, append_length a) }

-- what is printed first stands at the front
pub record AtFront (old new : Text) (bytes : List ℕ) : Type 0 where
  pub count : new.length ≡ length bytes
  pub output : new.buffer.now ≡ overwritten old.buffer.now bytes

pub print_front : {old new : Text} {x : List ℕ} → old.length ≡ 0 → Printed old new x → AtFront old new x
unfolding overwritten
print_front {old} {new} {x} e p =
    let n : 0 + length x ≡ length x = omega arith in
    let fits : 0 + length x ≤ length old.buffer.now = omega (arith, p.room.fits, e) in
    record {
      count = omega (arith, p.appended.behind, e);
      output = p.appended.stored ∙ ap (λ (k : ℕ). sets old.buffer.now k x) e ∙ sets-eq x old.buffer.now 0 fits ∙ ap (λ (k : ℕ). x ++ drop k old.buffer.now) n;
    }

-- ---- for each element of a list

module _ {A : Type 0} (f : A → List ℕ) where
  -- the run of element i stands between those before it and those behind it
  print_split : (xs : List A) (i : ℕ) (z : A) → i < length xs → concat_map f xs ≡ concat_map f (take i xs) ++ (f (get_or xs i z) ++ concat_map f (drop (suc i) xs))
  unfolding concat_map
  print_split xs i z h =
      ap (concat_map f) (sym (take-append-drop i xs) ∙ ap (λ (r : List A). take i xs ++ r) (drop-cons xs i z h))
      ∙ concat_map_append f (take i xs) (get_or xs i z ∷ drop (suc i) xs)

  print_one : (x : A) → concat_map f (x ∷ []) ≡ f x
  unfolding concat_map
  print_one x = append-nil (f x)

  pub print_start : (xs : List A) (t : Text) → Appended t t (concat_map f (take 0 xs))
  unfolding concat_map
  print_start xs t = append_none t

  -- a loop has appended the runs of the first i elements
  module _ (xs : List A) {old new : Text} (i : ℕ) (done : Appended old new (concat_map f (take i xs))) (h : i < length xs) (z : A) where
    pub print_room : Room old (concat_map f xs) → Room new (f (get_or xs i z))
    print_room r =
        room_first (f (get_or xs i z)) (concat_map f (drop (suc i) xs))
        (room_rest (f (get_or xs i z) ++ concat_map f (drop (suc i) xs)) done (rw (print_split xs i z h) at r))

    pub print_turn : {new' : Text} → Appended new new' (f (get_or xs i z)) → Appended old new' (concat_map f (take (i + 1) xs))
    print_turn a = rw (add-one i, take-suc xs i z h, concat_map_append f (take i xs) (get_or xs i z ∷ []), print_one (get_or xs i z)) (done then a)

  pub print_end : (xs : List A) {old new : Text} (i : ℕ) → Appended old new (concat_map f (take i xs)) → length xs ≤ i → Appended old new (concat_map f xs)
  print_end xs i done h = rw (take_all i xs h) at done
