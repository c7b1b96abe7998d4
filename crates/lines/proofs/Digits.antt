-- The decimal digits of a number, from the last, and how many there are. Assumes nothing.
use mathlib.Core.Path.{◌≡◌, refl, sym, ap, ◌∙◌}
use mathlib.Core.Bool.{Bool, true, false, cond}
use mathlib.Core.Logic.{⊎_elim}
use mathlib.Core.List.{List, [], ◌∷◌, ◌++◌, map}
use Prim.Native.Nat.{ℕ, zero, suc, ◌+◌, ◌*◌, ◌/◌, ◌%◌, ◌^◌, ◌≤◌, ◌<◌}
use native.Mathlib.Nat.{pow-succ'}
use native.Mathlib.Omega.{arith}
use lib.Dec.{ltb}
use lib.ListN.{length, get_or, take, length-append}
use lib.IntN.{ℤ, pos, negsuc}
use borrow.Author.Tests.{ltb-true, ltb-false, lt-ltb, le-ltb}
use Rattle.std.specs.Fmt.{decimal as printed, signed_decimal as signed}
use Rattle.std.proofs.lemmas.Fmt.{decimal_by_steps}
use Rattle.rules.specs.Listing.{decimal_in, decimal, signed_decimal}
use mir.Syntax.{w64}
use mir.Val.{SFits, to_z, of_z}
use mir.Facts.{to_z-of_z, to_z_pos}
use Rattle.lists.proofs.Tests.{either}

-- the count of digits that is allowed does not matter, if there are enough
enough : (j k n : ℕ) → n < j → n < k → decimal_in j n ≡ decimal_in k n
unfolding decimal_in
enough zero k n l m = absurd (omega arith)
enough (suc j) zero n l m = absurd (omega arith)
enough (suc j) (suc k) n l m = go (ltb n 10) refl (λ h. enough j k (n / 10) (omega arith) (omega arith))
  where
    go : (b : Bool) → ltb n 10 ≡ b → (10 ≤ n → decimal_in j (n / 10) ≡ decimal_in k (n / 10)) →
        cond b ((48 + n) ∷ []) (decimal_in j (n / 10) ++ ((48 + n % 10) ∷ [])) ≡ cond b ((48 + n) ∷ []) (decimal_in k (n / 10) ++ ((48 + n % 10) ∷ []))
    go true e r = refl
    go false e r = ap (λ (s : List ℕ). s ++ ((48 + n % 10) ∷ [])) (r (ltb-false n 10 e))

pub decimal_one : (n : ℕ) → n < 10 → decimal n ≡ (48 + n % 10) ∷ []
unfolding decimal decimal_in
decimal_one n h = let e : n % 10 ≡ n = omega arith in rw (lt-ltb n 10 h, e)

pub decimal_more : (n : ℕ) → 10 ≤ n → decimal n ≡ decimal (n / 10) ++ ((48 + n % 10) ∷ [])
unfolding decimal decimal_in
decimal_more n h = rw (le-ltb n 10 h) (ap (λ (s : List ℕ). s ++ ((48 + n % 10) ∷ [])) (enough n (suc (n / 10)) (n / 10) (omega arith) (omega arith)))

-- a number below 10 ^ (k + 1) has at most k + 1 digits
pub few_digits : (k n : ℕ) → n < 10 * 10 ^ k → length (decimal n) ≤ suc k
few_digits zero n h = rw (decimal_one n h) (omega arith)
few_digits (suc k) n h =
    let r : length (decimal (n / 10)) ≤ suc k = few_digits k (n / 10) (omega (arith, pow-succ' 10 k)) in
    ⊎_elim
    (λ e. rw (decimal_one n (ltb-true n 10 e)) (omega arith))
    (λ e. rw (decimal_more n (ltb-false n 10 e)) (omega (arith, length-append (decimal (n / 10)) ((48 + n % 10) ∷ []))))
    (either (ltb n 10))

-- ---- the library's digits

one : (n : ℕ) → n < 10 → decimal n ≡ (48 + n) ∷ []
one n h = let e : n % 10 ≡ n = omega arith in decimal_one n h ∙ ap (λ (k : ℕ). (48 + k) ∷ []) e

more : (n : ℕ) (ds : List ℕ) → 10 ≤ n → decimal (n / 10) ≡ ds → decimal n ≡ ds ++ ((48 + n % 10) ∷ [])
more n ds h e = decimal_more n h ∙ ap (λ (s : List ℕ). s ++ ((48 + n % 10) ∷ [])) e

-- the library prints the digits of the rules
pub printed_one : (n : ℕ) → n < 2 ^ 64 → printed n ≡ decimal n
printed_one n h = sym (decimal_by_steps (λ (k : ℕ) (ds : List ℕ). decimal k ≡ ds) one more n h)

pub printed_words : (k : ℕ) (ns : List ℕ) → ((i : ℕ) → get_or ns i 0 < 2 ^ 32) → map printed (take k ns) ≡ map decimal (take k ns)
printed_words zero ns h = refl
printed_words (suc k) [] h = refl
printed_words (suc k) (n ∷ ns) h = rw (printed_one n (omega (arith, h 0)), printed_words k ns (λ i. h (suc i))) refl

-- and a minus sign before those of a number below zero
pub printed_signed : (z : ℤ) → SFits w64 z → signed z ≡ signed_decimal z
unfolding signed_decimal
printed_signed (pos n) h = printed_one n (omega (arith, h.sfits))
printed_signed (negsuc n) h = ap (λ (ds : List ℕ). 45 ∷ ds) (printed_one (suc n) (omega (arith, h.sfits)))

-- a number is handed on by its bits
pub shown : (z : ℤ) → SFits w64 z → signed (to_z w64 (of_z w64 z)) ≡ signed_decimal z
shown z h = ap signed (to_z-of_z h) ∙ printed_signed z h

pub shown_word : (z : ℤ) (n : ℕ) → z ≡ pos n → n < 2 ^ 32 → signed (to_z w64 (of_z w64 z)) ≡ decimal n
unfolding signed_decimal
shown_word z n e h = shown z (rw e (record { sfits = omega arith })) ∙ rw e refl

pub shown_size : (n k : ℕ) → n ≡ k → k ≤ 256 → signed (to_z w64 n) ≡ decimal k
shown_size n k e h = ap signed (to_z_pos w64 (omega arith)) ∙ printed_one n (omega arith) ∙ ap decimal e
