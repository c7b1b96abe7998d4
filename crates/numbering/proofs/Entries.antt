-- The table in a list of numbers: what the code's reads and stores have to show, at any count c of numbers in a key. Assumes nothing.
use mathlib.Core.Path.{◌≡◌, sym, ap, ◌∙◌, subst}
use mathlib.Core.Logic.{inl}
use mathlib.Core.List.{List, [], ◌∷◌, ◌++◌}
use Prim.Native.Nat.{ℕ, suc, ◌+◌, ◌^◌, ◌≤◌, ◌<◌}
use native.Mathlib.Nat.{mul-le-mul_left, mod-lt}
use native.Mathlib.Numerals.{add-one}
use native.Mathlib.Omega.{arith}
use lib.ListN.{length, get_or, set, drop, replicate, length-set, length-append, length-drop, length-replicate, get_or-replicate, get_or-append}
use lib.Seq.{ext_get_or, sets, length-sets, get_or-set_same, get_or-set_other}
use Rattle.rules.specs.Lists.{overwritten, Key, index_of, meet}
use Rattle.lists.specs.Membership.{In}
use Rattle.lists.proofs.Keys.{same_refl}
use Rattle.lists.proofs.Distinct.{index_in, index_below, index_right, meet_known, meet_absent}
use Rattle.memory.proofs.Stores.{sets_other}
use Rattle.numbering.specs.Table.{firsts, run, slot_of, place, words_for, head_at, next_at, entry_key, keys, Table, Met}
use Rattle.numbering.specs.Meeting.{Found}
use Rattle.numbering.proofs.Firsts.{length_firsts, length_run, get_or_of_run, run_kept, run_sets}
use Rattle.std.proofs.Common.{Some, None}
use Rattle.numbering.proofs.Chains.{none_yet, Cursor, start, step, step_less, found, missing, fresh, Added, added, added_keys}

-- ---- the slot

pub slot_below : (room : ℕ) (k : Key) → slot_of room k < room + 1
unfolding slot_of
slot_below room k = mod-lt _ (omega arith)

-- ---- a key that is compared number by number

pub run_same : (w : List ℕ) (at : ℕ) (k : Key) → ((i : ℕ) → i < length k → get_or w (at + i) 0 ≡ get_or k i 0) → run w at (length k) ≡ k
run_same w at k h =
    ext_get_or 0 (run w at (length k)) k (length_run w at (length k))
    (λ i l. let u : i < length k = omega (arith, length_run w at (length k)) in get_or_of_run w at (length k) i u ∙ h i u)

pub run_differs : (w : List ℕ) (at : ℕ) (k : Key) (i : ℕ) → i < length k → (get_or w (at + i) 0 ≡ get_or k i 0 → ⊥) → run w at (length k) ≡ k → ⊥
run_differs w at k i l d e = d (sym (get_or_of_run w at (length k) i l) ∙ ap (λ (x : Key). get_or x i 0) e)

-- ---- the empty table

pub length_keys : (c : ℕ) (w : List ℕ) (room n : ℕ) → length (keys c w room n) ≡ n
unfolding keys
length_keys c w room n = length_firsts (entry_key c w room) n

-- heads of 0 make a table of no key
pub table_empty : (c : ℕ) (w : List ℕ) (room : ℕ) → words_for c room ≤ length w → room + 1 < 2 ^ 32 → ((h : ℕ) → h < room + 1 → get_or w h 0 ≡ 0) → Table c w room 0
unfolding head_at
table_empty c w room fits few z =
    record { fits = fits; few = few; used = omega arith; chains = none_yet (slot_of room) (room + 1) (entry_key c w room) (head_at w) (next_at c w room) z }

-- a slice that was prepared
pub table_prepared : (c : ℕ) (w : List ℕ) (room : ℕ) → words_for c room ≤ length w → room + 1 < 2 ^ 32 → Table c (overwritten w (replicate (room + 1) 0)) room 0
unfolding overwritten
table_prepared c w room fits few =
    let z : List ℕ = replicate (room + 1) 0 in
    let n : length z ≡ room + 1 = length-replicate (room + 1) 0 in
    let long : length (z ++ drop (length z) w) ≡ length w = length-append z (drop (length z) w) ∙ omega (arith, length-drop (length z) w) in
    table_empty c (z ++ drop (length z) w) room (rw long fits) few
    (λ h l. get_or-append z (drop (length z) w) 0 h (omega arith) ∙ get_or-replicate (room + 1) h 0 0 l)

-- entry n lies within the list
pub entry_ends : {c : ℕ} {w : List ℕ} {room n : ℕ} → Table c w room n → (e : ℕ) → e < room → place c room e + (c + 1) ≤ length w
entry_ends {c} t e l = omega (arith, t.fits, mul-le-mul_left (c + 1) l)

-- ---- a walk for k along its chain

abbrev pub Walk : ℕ → List ℕ → ℕ → ℕ → Key → ℕ → Type 0
Walk c w room n k x = Cursor (slot_of room) n (entry_key c w room) k x

module _ {c : ℕ} {w : List ℕ} {room n : ℕ} (t : Table c w room n) (k : Key) where
  -- it starts at the head of k's slot
  pub walk_start : (s x : ℕ) → s ≡ slot_of room k → x ≡ get_or w s 0 → Walk c w room n k x
  unfolding head_at
  walk_start s x p q = rw (q, p) (start t.chains k (slot_below room k))

  -- at the entry e, which starts at `at`
  module _ (x e at : ℕ) (u : x ≡ e + 1) (p : at ≡ place c room e) (v : Walk c w room n k x) where
    -- past an entry with another key the walk goes on to an older one
    walk_older : (run w (at + 1) c ≡ k → ⊥) → Walk c w room n k (get_or w at 0) × (get_or w at 0 < x)
    unfolding entry_key next_at
    walk_older other =
        let x-is : x ≡ suc e = u ∙ add-one e in
        let past = λ (h : run w (place c room e + 1) c ≡ k). other (rw p h) in
        rw p (step t.chains k e (rw x-is at v) past, omega (arith, step_less t.chains k e (omega (arith, v.within))))

    -- at its link, however its place is written
    module _ (link : ℕ) (same : link ≡ at) (other : run w (at + 1) c ≡ k → ⊥) where
      pub walk_on : Walk c w room n k (get_or w link 0)
      walk_on = rw same (walk_older other).0

      pub walk_less : get_or w link 0 < x
      walk_less = rw same (walk_older other).1

    -- an entry with the key: its place
    pub walk_hit : run w (at + 1) c ≡ k → (number : ℕ) → number ≡ e → Found (keys c w room n) k (Some number)
    unfolding entry_key keys
    walk_hit h number same =
        rw same (sym (found t.chains k e (omega (arith, v.within)) (rw p at h)), omega (arith, v.within, length_firsts (entry_key c w room) n))

  -- the chain's end: the key is not there
  pub walk_end : (x : ℕ) → x ≡ 0 → Walk c w room n k x → Found (keys c w room n) k None
  unfolding keys
  walk_end x l v =
      omega (arith, (missing (entry_key c w room) k (λ e u. v.past e (omega arith) u)).1, length_firsts (entry_key c w room) n)

-- ---- a new entry

-- what the stores of a new entry do to the list, number by number
record Stored (c : ℕ) (w w' : List ℕ) (room n : ℕ) (k : Key) : Type 0 where
  heads : (h : ℕ) → h < room + 1 → (h ≡ slot_of room k → ⊥) → get_or w' h 0 ≡ get_or w h 0
  head : get_or w' (slot_of room k) 0 ≡ suc n
  old : (i : ℕ) → room + 1 ≤ i → i < place c room n → get_or w' i 0 ≡ get_or w i 0
  link : get_or w' (place c room n) 0 ≡ get_or w (slot_of room k) 0
  numbers : run w' (place c room n + 1) c ≡ k

stored_added : {c : ℕ} {w w' : List ℕ} {room n : ℕ} {k : Key} → Stored c w w' room n k → Added (slot_of room) (room + 1) n (entry_key c w room) (head_at w) (next_at c w room) k (entry_key c w' room) (head_at w') (next_at c w' room)
unfolding entry_key head_at next_at
stored_added {c} {w} {w'} {room} {n} {k} s = record {
  key_old = λ e l.
      let h = mul-le-mul_left (c + 1) l in
      run_kept w w' (place c room e + 1) c (λ i l₁ l₂. s.old i (omega arith) (omega arith));
  key_new = s.numbers;
  next_old = λ e l.
      let h = mul-le-mul_left (c + 1) l in
      s.old (place c room e) (omega arith) (omega arith);
  next_new = s.link;
  head_old = s.heads;
  head_new = s.head;
}

-- the list with the new entry: the old head and the key behind the last entry, and the new head
unfoldable pub entered : List ℕ → ℕ → ℕ → Key → List ℕ
entered w room n k = set (sets w (place (length k) room n) (get_or w (slot_of room k) 0 ∷ k)) (slot_of room k) (n + 1)

index_last : (k : Key) → index_of k (k ∷ []) ≡ 0
unfolding index_of
index_last k = rw (same_refl k)

module _ (w : List ℕ) (room n : ℕ) (k : Key) (t : Table (length k) w room n) (below : n < room) where
  entered_length : length (entered w room n k) ≡ length w
  unfolding entered
  entered_length = simp (length-set, length-sets)

  entered_other : (i : ℕ) → (i ≡ slot_of room k → ⊥) → i < place (length k) room n → get_or (entered w room n k) i 0 ≡ get_or w i 0
  unfolding entered
  entered_other i d h =
      get_or-set_other (sets w (place (length k) room n) (get_or w (slot_of room k) 0 ∷ k)) (slot_of room k) i (n + 1) 0 d
      ∙ sets_other w (place (length k) room n) (get_or w (slot_of room k) 0 ∷ k) i 0 (inl h)

  entered_stored : Stored (length k) w (entered w room n k) room n k
  unfolding entered
  entered_stored =
      let s = slot_below room k in
      let x = get_or w (slot_of room k) 0 in
      let u = entry_ends t n below in
      record {
        heads = λ h l d. entered_other h d (omega arith);
        head = get_or-set_same (sets w (place (length k) room n) (x ∷ k)) (slot_of room k) (n + 1) 0 (rw length-sets (omega arith)) ∙ add-one n;
        old = λ i l₁ l₂. entered_other i (λ p. absurd (omega arith)) l₂;
        link =
            get_or-set_other (sets w (place (length k) room n) (x ∷ k)) (slot_of room k) (place (length k) room n) (n + 1) 0 (λ p. absurd (omega arith))
            ∙ sets_other (set w (place (length k) room n) x) (suc (place (length k) room n)) k (place (length k) room n) 0 (inl (omega arith))
            ∙ get_or-set_same w (place (length k) room n) x 0 (omega arith);
        numbers =
            run_kept (sets w (place (length k) room n) (x ∷ k)) _ (place (length k) room n + 1) (length k)
            (λ i l₁ l₂. get_or-set_other (sets w (place (length k) room n) (x ∷ k)) (slot_of room k) i (n + 1) 0 (λ p. absurd (omega arith)))
            ∙ rw (add-one (place (length k) room n)) (run_sets (set w (place (length k) room n) x) (suc (place (length k) room n)) k (rw length-set (omega arith)));
      }

  -- a new key, stored
  pub met_new : n ≤ index_of k (keys (length k) w room n) → Met (length k) w (entered w room n k) room n k n (n + 1)
  unfolding keys
  met_new l =
      let a = stored_added entered_stored in
      let ks = firsts (entry_key (length k) w room) n in
      let gone = fresh (entry_key (length k) w room) k l in
      let absent = (missing (entry_key (length k) w room) k gone).0 in
      let e : firsts (entry_key (length k) (entered w room n k) room) (suc n) ≡ ks ++ (k ∷ []) = added_keys t.chains a in
      subst (λ (count : ℕ). Met (length k) w (entered w room n k) room n k n count) (sym (add-one n))
      (record {
        table = record {
          fits = rw entered_length t.fits;
          few = t.few;
          used = below;
          chains = added t.chains a (slot_below room k) gone;
        };
        keys_are = e ∙ sym (meet_absent k ks absent);
        number_is = sym (ap (index_of k) e ∙ index_right k ks (k ∷ []) absent ∙ omega (arith, index_last k, length_firsts (entry_key (length k) w room) n));
        known = omega arith;
      })

  -- however the places and the numbers that are stored are written
  pub met_entered : n ≤ index_of k (keys (length k) w room n) → (at slot link head : ℕ) → at ≡ place (length k) room n → slot ≡ slot_of room k → link ≡ get_or w slot 0 → head ≡ n + 1 → Met (length k) w (set (sets (set w at link) (at + 1) k) slot head) room n k n (n + 1)
  unfolding entered
  met_entered l at slot link head p q e h = rw (h, e, q, p, add-one (place (length k) room n)) (met_new l)

-- a key that was there
pub met_known : (c : ℕ) (w : List ℕ) (room n : ℕ) (k : Key) → Table c w room n → (number : ℕ) → number ≡ index_of k (keys c w room n) → number < n → Met c w w room n k number n
met_known c w room n k t number p l = record {
  table = t;
  keys_are = sym (meet_known k (keys c w room n) (index_in k (keys c w room n) (omega (arith, length_keys c w room n))));
  number_is = p;
  known = l;
}

-- how many keys there are once a new key is met
pub grows : (c : ℕ) (w : List ℕ) (room n : ℕ) (k : Key) → n ≤ index_of k (keys c w room n) → length (meet (keys c w room n) k) ≡ n + 1
grows c w room n k l =
    let v = length_keys c w room n in
    let absent : In k (keys c w room n) → ⊥ = λ i. omega (arith, index_below k (keys c w room n) i) in
    rw (meet_absent k (keys c w room n) absent, length-append) (omega arith)
