-- A table of keys with tags: how it starts, and what meeting a key makes of it. Assumes nothing.
use mathlib.Core.Path.{◌≡◌, sym, ap, ◌∙◌}
use mathlib.Core.Logic.{⊎_elim}
use mathlib.Core.Bool.{true, false}
use mathlib.Core.List.{List, [], ◌∷◌, ◌++◌}
use Prim.Native.Nat.{ℕ, ◌+◌, ◌^◌, ◌<◌, ◌≤◌}
use native.Mathlib.Omega.{arith}
use lib.ListN.{length, take, drop, get_or, set, replicate, length-append, length-replicate, length-set, length-drop, get_or-replicate, get_or-append}
use lib.Seq.{take_at, take-set-le, get_or-append-add, get_or-drop, get_or-set_same, get_or-set_other, length-take-le}
use Rattle.rules.specs.Lists.{any, Key, same, index_of, meet, overwritten}
use Rattle.lists.specs.Membership.{In}
use Rattle.lists.proofs.Tests.{false≢true, either}
use Rattle.lists.proofs.Keys.{same_refl, any_key, key_any}
use Rattle.lists.proofs.Distinct.{index_right, meet_known, meet_absent}
use Rattle.numbering.specs.Table.{words_for, keys, Met}
use Rattle.numbering.proofs.Entries.{table_empty, length_keys}
use Rattle.checks.specs.Tagged.{front, beside, Tagged, Agreed, Differed}

-- ---- the front is replaced, and what is behind stays

module _ (size : ℕ) (w ys : List ℕ) (l : length ys ≡ size) where
  front_is : take size (ys ++ drop size w) ≡ ys
  front_is = take_at ys (drop size w) size l

  behind_is : (e : ℕ) → get_or (ys ++ drop size w) (size + e) 0 ≡ get_or w (size + e) 0
  behind_is e =
      ap (λ (n : ℕ). get_or (ys ++ drop size w) (n + e) 0) (sym l)
      ∙ get_or-append-add ys (drop size w) e 0
      ∙ get_or-drop size w e 0

  whole_length : size ≤ length w → length (ys ++ drop size w) ≡ length w
  whole_length h = length-append ys (drop size w) ∙ omega (arith, length-drop size w)

-- ---- an empty table

zeros : ℕ → List ℕ
zeros n = replicate n 0

length_zeros : (n : ℕ) → length (zeros n) ≡ n
unfolding zeros
length_zeros n = length-replicate n 0

pub tagged_start : (c room : ℕ) (w ys : List ℕ) → words_for c room + room ≤ length w → room + 1 < 2 ^ 32
    → ys ≡ overwritten (take (words_for c room) w) (replicate (room + 1) 0)
    → Tagged c (ys ++ drop (words_for c room) w) room 0
unfolding overwritten zeros
tagged_start c room w ys h f e =
    let size = words_for c room in
    let z = zeros (room + 1) in
    let fl : length (take size w) ≡ size = length-take-le size w (omega arith) in
    let rest = drop (length z) (take size w) in
    let l : length ys ≡ size = ap length e ∙ length-append z rest
    ∙ omega (arith, fl, length_zeros (room + 1), length-drop (length z) (take size w)) in
    record {
      fits = rw (whole_length size w ys l (omega arith)) h;
      table =
          rw (front_is size w ys l)
          (table_empty c ys room (omega (arith, l)) f
          (λ s k. ap (λ (v : List ℕ). get_or v s 0) e ∙ get_or-append z rest 0 s (omega (arith, length_zeros (room + 1)))
          ∙ get_or-replicate (room + 1) s 0 0 k));
    }

-- ---- a key is met

module _ {c : ℕ} {w ys : List ℕ} {room n number count : ℕ} (k : Key) (t : ℕ) (tagged : Tagged c w room n)
    (met : Met c (front c room w) ys room n k number count) (l : length ys ≡ words_for c room) where
  abbrev old : List Key
  old = keys c (front c room w) room n

  abbrev new : List Key
  new = keys c ys room count

  abbrev after : List ℕ
  after = ys ++ drop (words_for c room) w

  counted : count ≡ length (meet old k)
  counted = sym (length_keys c ys room count) ∙ ap length met.keys_are

  -- the key was new
  absent : n < count → In k old → ⊥
  absent h i = omega (arith, counted ∙ ap length (meet_known k old i) ∙ length_keys c (front c room w) room n)

  last : n < count → number ≡ n
  unfolding index_of
  last h =
      met.number_is
      ∙ ap (index_of k) (met.keys_are ∙ meet_absent k old (absent h))
      ∙ index_right k old (k ∷ []) (absent h)
      ∙ rw (same_refl k) (omega (arith, length_keys c (front c room w) room n))

  -- the key was known
  known : count ≤ n → In k old
  known h = ⊎_elim (λ (e : any (same k) old ≡ true). any_key k old e) (λ (e : any (same k) old ≡ false). absurd (more e)) (either (any (same k) old))
    where
      more : any (same k) old ≡ false → ⊥
      more e =
          let longer = ap length (meet_absent k old (λ i. false≢true (sym e ∙ key_any k old i))) ∙ length-append old (k ∷ []) in
          omega (arith, counted, longer, length_keys c (front c room w) room n)

  kept : (h : count ≤ n) → new ≡ old
  kept h = met.keys_are ∙ meet_known k old (known h)

  size_le : words_for c room ≤ length w
  size_le = omega (arith, tagged.fits)

  -- where the key's tag stands is within the memory
  number_within : words_for c room + number < length after
  number_within = rw (whole_length (words_for c room) w ys l size_le) (omega (arith, met.known, met.table.used, tagged.fits))

  -- the key is new, and t becomes its tag
  agreed_new : n < count → Agreed c w (set after (words_for c room + number) t) room n count k t
  agreed_new h =
      let size = words_for c room in
      let same_front : front c room (set after (size + number) t) ≡ ys = take-set-le size after (size + number) t (omega arith)
      ∙ front_is size w ys l in
      record {
        tagged = record {
          fits = rw (length-set after (size + number) t, whole_length size w ys l size_le) tagged.fits;
          table = rw same_front met.table;
        };
        keys_are = rw same_front met.keys_are;
        own = rw (same_front, ← met.number_is) (get_or-set_same after (size + number) t 0 number_within);
        others = λ d i. get_or-set_other after (size + number) (size + d) t 0 (λ q. omega (arith, last h, q)) ∙ behind_is size w ys l d;
      }

  -- its tag is t already
  agreed_known : get_or after (words_for c room + number) 0 ≡ t → Agreed c w after room n count k t
  agreed_known e =
      let size = words_for c room in
      let same_front : front c room after ≡ ys = front_is size w ys l in
      record {
        tagged = record {
          fits = rw (whole_length size w ys l size_le) tagged.fits;
          table = rw same_front met.table;
        };
        keys_are = rw same_front met.keys_are;
        own = rw (same_front, ← met.number_is) e;
        others = λ d i. behind_is size w ys l d;
      }

  -- a key that was known leaves as many keys as there were
  tagged_known : count ≤ n → Tagged c after room n
  tagged_known h =
      let size = words_for c room in
      let same : count ≡ n = counted ∙ ap length (meet_known k old (known h)) ∙ length_keys c (front c room w) room n in
      record {
        fits = rw (whole_length size w ys l size_le) tagged.fits;
        table = rw (front_is size w ys l, ← same) met.table;
      }

  -- it has another tag
  differed : count ≤ n → (get_or after (words_for c room + number) 0 ≡ t → ⊥) → Differed c w room n k t
  differed h no-match = record {
    known = known h;
    other = λ q. no-match (behind_is (words_for c room) w ys l number
        ∙ ap (λ (e : ℕ). beside c room w e) (met.number_is ∙ ap (index_of k) (kept h)) ∙ q);
  }

-- ---- the same as the call says it: the front is `size` words, the key's length stands for c

module _ {c size room n number count : ℕ} {w ys : List ℕ} {k : Key} (t : ℕ) (tagged : Tagged c w room n) (size_is : size ≡ words_for c room)
    (key_is : length k ≡ c) (met : Met (length k) (take size w) ys room n k number count) (kept : length ys ≡ length (take size w)) where
  front_met : Met c (front c room w) ys room n k number count
  front_met = rw (key_is, size_is) at met

  front_kept : length ys ≡ words_for c room
  front_kept = kept ∙ rw size_is (length-take-le (words_for c room) w (omega (arith, tagged.fits)))

  pub meets_new : n < count → Agreed c w (set (ys ++ drop size w) (size + number) t) room n count k t
  meets_new h = rw size_is (agreed_new k t tagged front_met front_kept h)

  pub meets_known : get_or (ys ++ drop size w) (size + number) 0 ≡ t → Agreed c w (ys ++ drop size w) room n count k t
  meets_known e = rw size_is (agreed_known k t tagged front_met front_kept (rw size_is at e))

  pub stays_tagged : count ≤ n → Tagged c (ys ++ drop size w) room n
  stays_tagged h = rw size_is (tagged_known k t tagged front_met front_kept h)

  pub meets_other : count ≤ n → (get_or (ys ++ drop size w) (size + number) 0 ≡ t → ⊥) → Differed c w room n k t
  meets_other h e = differed k t tagged front_met front_kept h (rw size_is at e)
