-- The entries of a table of fields, one by one and in two parts.
use Prim.Native.Nat.{ℕ, zero, suc, ◌+◌, ◌*◌, ◌≤◌, ◌<◌}
use mathlib.Core.Path.{◌≡◌, refl, sym, ap, ap₂, ◌∙◌}
use mathlib.Core.List.{List, [], ◌∷◌, ◌++◌, map, map-append}
use native.Mathlib.Nat.{add-zero, mul-zero, mul-le-mul_left}
use native.Mathlib.Omega.{arith}
use lib.ListN.{length, take, drop, set, get_or, length-map}
use lib.Seq.{take_all}
use Rattle.std.proofs.lemmas.List.{take_more_set}
use Rattle.rules.specs.Lists.{overwritten}
use Rattle.rules.specs.Bits.{field_at, table_at}

-- there is room for one entry more
pub next_room : (at w i n m : ℕ) → i < n → at + w * n ≤ m → at + w * i + w ≤ m
next_room at w i n m h l =
    let next : i + 1 ≤ n = omega arith in
    omega (arith, mul-le-mul_left w next)

pub length_table_at : (s : List ℕ) (p w n : ℕ) → length (table_at s p w n) ≡ n
unfolding table_at
length_table_at s p w zero = refl
length_table_at s p w (suc n) = ap suc (length_table_at s (p + w) w n)

pub get_or_table_at : (s : List ℕ) (p w n i : ℕ) → i < n → get_or (table_at s p w n) i 0 ≡ field_at s (p + w * i) w
unfolding table_at
get_or_table_at s p w zero i h = absurd (omega arith)
get_or_table_at s p w (suc n) zero h = ap (λ (x : ℕ). field_at s x w) (sym (add-zero p) ∙ ap (λ (x : ℕ). p + x) (sym (mul-zero w)))
get_or_table_at s p w (suc n) (suc i) h =
    let e : p + w + w * i ≡ p + w * suc i = omega arith in
    get_or_table_at s (p + w) w n i (omega arith) ∙ ap (λ (x : ℕ). field_at s x w) e

pub table_append : (s : List ℕ) (p w a b : ℕ) → table_at s p w (a + b) ≡ table_at s p w a ++ table_at s (p + w * a) w b
unfolding table_at
table_append s p w zero b =
    let n : 0 + b ≡ b = omega arith in
    let q : p ≡ p + w * 0 = omega arith in
    ap (table_at s p w) n ∙ ap (λ (x : ℕ). table_at s x w b) q
table_append s p w (suc a) b =
    let n : suc a + b ≡ suc (a + b) = omega arith in
    let q : p + w + w * a ≡ p + w * suc a = omega arith in
    ap (table_at s p w) n
    ∙ ap (λ (l : List ℕ). field_at s p w ∷ l) (table_append s (p + w) w a b ∙ ap (λ (x : ℕ). table_at s (p + w) w a ++ table_at s x w b) q)

-- no entry
pub table_none : (s : List ℕ) (p w : ℕ) → table_at s p w 0 ≡ []
unfolding table_at
table_none s p w = refl

-- ---- entries that are read by f and stored one by one

module _ {A : Type 0} (f : ℕ → A) (s : List ℕ) (p w : ℕ) where
  -- one entry more
  map_more : (i : ℕ) → map f (table_at s p w (i + 1)) ≡ map f (table_at s p w i) ++ (f (field_at s (p + w * i) w) ∷ [])
  unfolding table_at
  map_more i = ap (map f) (table_append s p w i 1) ∙ map-append f (table_at s p w i) (table_at s (p + w * i) w 1)

  pub entry_stored : (i : ℕ) (l : List A) {q v : ℕ} {x : A} → i < length l → x ≡ f v → v ≡ field_at s q w → q ≡ p + w * i
      → take i l ≡ map f (table_at s p w i) → take (i + 1) (set l i x) ≡ map f (table_at s p w (i + 1))
  entry_stored i l {q} {v} {x} h entry field at front =
      take_more_set l i x h
      ∙ ap₂ (λ (t : List A) (y : A). t ++ (y ∷ [])) front (entry ∙ ap f (field ∙ ap (λ (n : ℕ). field_at s n w) at))
      ∙ sym (map_more i)

  -- all n entries, at the front of t
  pub entries_stored : (n i : ℕ) (l t : List A) → length l ≡ n → i ≡ n → take i l ≡ map f (table_at s p w i)
      → l ++ drop n t ≡ overwritten t (map f (table_at s p w n))
  unfolding overwritten
  entries_stored n i l t long all front =
      let whole : l ≡ map f (table_at s p w n) = sym (take_all i l (omega arith)) ∙ front ∙ ap (λ (k : ℕ). map f (table_at s p w k)) all in
      ap₂ (λ (x : List A) (k : ℕ). x ++ drop k t) whole (sym (length-map (table_at s p w n) f ∙ length_table_at s p w n))
