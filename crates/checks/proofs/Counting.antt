-- The distinct keys of a list are as many as the places whose key was not met before. Assumes nothing.
use mathlib.Core.Path.{◌≡◌, refl, sym, ap, ◌∙◌}
use mathlib.Core.Bool.{Bool, true, false, not, cond}
use mathlib.Core.List.{List, [], ◌∷◌, ◌++◌, map}
use Prim.Native.Nat.{ℕ, zero, suc, ◌+◌, ◌<◌, ◌≤◌}
use native.Mathlib.Nat.{zero-add, add-zero}
use native.Mathlib.Omega.{arith}
use lib.ListN.{length, take, get_or, length-append, length-map}
use lib.Seq.{take-suc, take_all, get_or-take, length-take-le}
use Rattle.std.specs.List.{filter}
use Rattle.std.proofs.lemmas.List.Elements.{filter-append}
use Rattle.rules.specs.Lists.{any, Key, key_of, same, meet, meet_all, distinct, up_from}
use Rattle.lists.proofs.Membership.{in_up_from, get_or_map}
use Rattle.lists.proofs.Tests.{false≢true, any_same}
use Rattle.lists.proofs.Keys.{any_key, key_any}
use Rattle.lists.proofs.Distinct.{meet_known, meet_absent, in_distinct, distinct_in, distinct_turn}
use Rattle.numbering.proofs.Firsts.{up_from_snoc}
use Rattle.checks.proofs.Library.{any_places}

-- key number i was not met before
abbrev pub is_new : List Key → ℕ → Bool
is_new ks i = not (any (same (get_or ks i [])) (take i ks))

-- part number i was met before just where its key was
pub met_before : (ps : List (List ℕ)) (i : ℕ) → i < length ps
    → any (λ (j : ℕ). same (key_of (get_or ps i [])) (key_of (get_or ps j []))) (up_from 0 i) ≡ any (same (get_or (map key_of ps) i [])) (take i (map key_of ps))
met_before ps i h =
    let keys = map key_of ps in
    let e : length (take i keys) ≡ i = length-take-le i keys (omega (arith, h, length-map ps key_of)) in
    any_same (λ (j : ℕ). same (key_of (get_or ps i [])) (key_of (get_or ps j []))) (λ (j : ℕ). same (get_or keys i []) (get_or (take i keys) j [])) (up_from 0 i)
    (λ j k.
    let l = in_up_from 0 i j k in
    rw (get_or-take i keys j [] (omega (arith, l)), get_or_map key_of ps i [] [] h, get_or_map key_of ps j [] [] (omega (arith, l, h))))
    ∙ ap (λ (n : ℕ). any (λ (j : ℕ). same (get_or keys i []) (get_or (take i keys) j [])) (up_from 0 n)) (sym e)
    ∙ any_places (same (get_or keys i [])) (take i keys) []

-- one key more
meet_counts : (ks : List Key) (k : Key) → length (meet (distinct ks) k) ≡ length (distinct ks) + cond (not (any (same k) ks)) 1 0
meet_counts ks k = go (any (same k) ks) refl
  where
    go : (b : Bool) → any (same k) ks ≡ b → length (meet (distinct ks) k) ≡ length (distinct ks) + cond (not b) 1 0
    go true e = ap length (meet_known k (distinct ks) (distinct_in ks k (any_key k ks e))) ∙ sym (add-zero (length (distinct ks)))
    go false e =
        ap length (meet_absent k (distinct ks) (λ j. false≢true (sym e ∙ key_any k ks (in_distinct ks k j))))
        ∙ length-append (distinct ks) (k ∷ [])

count_front : (ks : List Key) (n : ℕ) → n ≤ length ks → length (filter (is_new ks) (up_from 0 n)) ≡ length (distinct (take n ks))
unfolding distinct meet_all up_from
count_front ks zero h = refl
count_front ks (suc n) h =
    let k = get_or ks n [] in
    let one : length (filter (is_new ks) (n ∷ [])) ≡ cond (is_new ks n) 1 0 = go (is_new ks n) in
    ap (λ (l : List ℕ). length (filter (is_new ks) l)) (up_from_snoc 0 n ∙ ap (λ (i : ℕ). up_from 0 n ++ (i ∷ [])) (zero-add n))
    ∙ ap length (filter-append (is_new ks) (up_from 0 n) (n ∷ []))
    ∙ length-append (filter (is_new ks) (up_from 0 n)) (filter (is_new ks) (n ∷ []))
    ∙ rw (one, count_front ks n (omega arith)) (sym (ap length (ap distinct (take-suc ks n [] (omega arith)) ∙ distinct_turn (take n ks) k) ∙ meet_counts (take n ks) k))
  where
    go : (b : Bool) → length (cond b (n ∷ []) []) ≡ cond b 1 0
    go true = refl
    go false = refl

pub count_distinct_lem : (ks : List Key) → length (filter (is_new ks) (up_from 0 (length ks))) ≡ length (distinct ks)
count_distinct_lem ks = count_front ks (length ks) (omega arith) ∙ ap (λ (l : List Key). length (distinct l)) (take_all (length ks) ks (omega arith))
