-- Laws of the hash table of specs/Chains.antt: it starts empty, a walk along a chain finds a key or shows that it is absent, and an entry
-- is added. The hash, and where keys and links are stored, are parameters. Assumes nothing.
use mathlib.Core.Path.{◌≡◌, refl, sym, ap, ◌∙◌, subst}
use mathlib.Core.Logic.{◌⊎◌, inl, inr, ⊎_elim}
use mathlib.Core.List.{List, [], ◌∷◌, ◌++◌}
use Prim.Native.Nat.{ℕ, suc, ◌≤◌, ◌<◌, suc-le-suc}
use native.Mathlib.Nat.{not-suc-le-zero, le_of_suc-le-suc, eq-or-lt_of_le}
use native.Mathlib.Omega.{arith}
use lib.Dec.{leb, eqb}
use borrow.Author.Tests.{eqb-true, eqb-false, leb-true, leb-false}
use Rattle.rules.specs.Lists.{Key, index_of}
use Rattle.lists.specs.Membership.{In}
use Rattle.lists.proofs.Tests.{either}
use Rattle.lists.proofs.Membership.{get_or_in, in_get_or}
use Rattle.lists.proofs.Distinct.{index_first, index_absent, index_below}
use Rattle.numbering.specs.Chains.{Latest, Chains}
use Rattle.numbering.specs.Table.{firsts}
use Rattle.numbering.proofs.Firsts.{length_firsts, get_or_firsts, firsts_same, firsts_snoc}

pub le_or_lt : (a b : ℕ) → (a ≤ b) ⊎ (b < a)
le_or_lt a b = ⊎_elim (λ e. inl (leb-true a b e)) (λ e. inr (leb-false a b e)) (either (leb a b))

eq_or_ne : (a b : ℕ) → (a ≡ b) ⊎ (a ≡ b → ⊥)
eq_or_ne a b = ⊎_elim (λ e. inl (eqb-true a b e)) (λ e. inr (eqb-false a b e)) (either (eqb a b))

-- no entry, and every head 0
pub none_yet : (hash : Key → ℕ) (slots : ℕ) (key : ℕ → Key) (head next : ℕ → ℕ) → ((h : ℕ) → h < slots → head h ≡ 0) → Chains hash slots 0 key head next
none_yet hash slots key head next z = record {
  heads = λ h l. record {
    within = omega (arith, z h l);
    there = λ e p. absurd (omega (arith, z h l));
    none = λ e l₁ l₂ p. omega arith;
  };
  nexts = λ e l. absurd (not-suc-le-zero l);
  apart = λ d e l l₁ p. not-suc-le-zero l₁;
}

-- ---- the keys of the entries as a list

module _ {n : ℕ} (key : ℕ → Key) (k : Key) where
  listed : (e : ℕ) → e < n → key e ≡ k → In k (firsts key n)
  listed e l p =
      subst (λ (x : Key). In x (firsts key n)) (get_or_firsts key n e [] l ∙ p)
      (get_or_in (firsts key n) e [] (omega (arith, length_firsts key n)))

  entry_of : In k (firsts key n) → (e : ℕ) × (e < n) × (key e ≡ k)
  entry_of i =
      let g = in_get_or (firsts key n) k [] i in
      let l : g.0 < n = omega (arith, g.1, length_firsts key n) in
      (g.0, l, sym (get_or_firsts key n g.0 [] l) ∙ g.2)

  -- no entry has the key
  pub missing : ((e : ℕ) → e < n → key e ≡ k → ⊥) → (In k (firsts key n) → ⊥) × (index_of k (firsts key n) ≡ n)
  missing h =
      let none : In k (firsts key n) → ⊥ = λ i. let g = entry_of i in h g.0 g.1 g.2 in
      (none, index_absent k (firsts key n) none ∙ length_firsts key n)

  -- a place that is not below n says that no entry has the key
  pub fresh : n ≤ index_of k (firsts key n) → (e : ℕ) → e < n → key e ≡ k → ⊥
  fresh l e u p = omega (arith, index_below k (firsts key n) (listed e u p), length_firsts key n)

-- ---- a walk along a chain

-- A walk for the key k has come to the link x: no entry from x on, below n, has the key.
pub record Cursor (hash : Key → ℕ) (n : ℕ) (key : ℕ → Key) (k : Key) (x : ℕ) : Type 0 where
  pub within : x ≤ n
  pub there : (e : ℕ) → x ≡ suc e → hash (key e) ≡ hash k
  pub past : (e : ℕ) → x ≤ e → e < n → key e ≡ k → ⊥

module _ {hash : Key → ℕ} {slots n : ℕ} {key : ℕ → Key} {head next : ℕ → ℕ} (t : Chains hash slots n key head next) (k : Key) where
  pub start : hash k < slots → Cursor hash n key k (head (hash k))
  start l =
      let a = t.heads (hash k) l in
      record { within = a.within; there = a.there; past = λ e l₁ l₂ p. a.none e l₁ l₂ (ap hash p) }

  pub step : (e : ℕ) → Cursor hash n key k (suc e) → (key e ≡ k → ⊥) → Cursor hash n key k (next e)
  step e c other =
      let a = t.nexts e c.within in
      let s : hash (key e) ≡ hash k = c.there e refl in
      record {
        within = omega (arith, a.within, c.within);
        there = λ d p. a.there d p ∙ s;
        past = λ d l₁ l₂ p.
            ⊎_elim
            (λ (q : suc e ≤ d). c.past d q l₂ p)
            (λ (q : d < suc e).
            ⊎_elim
            (λ (u : d ≡ e). other (ap key (sym u) ∙ p))
            (λ (u : d < e). a.none d l₁ u (ap hash p ∙ sym s))
            (eq-or-lt_of_le (le_of_suc-le-suc q)))
            (le_or_lt (suc e) d);
      }

  -- links go to older entries, so the walk ends
  pub step_less : (e : ℕ) → e < n → next e < suc e
  step_less e l = suc-le-suc (t.nexts e l).within

  pub found : (e : ℕ) → e < n → key e ≡ k → index_of k (firsts key n) ≡ e
  found e l p =
      index_first k (firsts key n) e (omega (arith, length_firsts key n)) (get_or_firsts key n e [] l ∙ p)
      (λ d u q. t.apart d e u l (sym (get_or_firsts key n d [] (omega arith)) ∙ q ∙ sym p))

-- ---- a new entry

-- What storing entry n with the key k does: `key` and `next` gain an entry, and the head of k's slot links to it.
pub record Added (hash : Key → ℕ) (slots n : ℕ) (key : ℕ → Key) (head next : ℕ → ℕ) (k : Key) (key' : ℕ → Key) (head' next' : ℕ → ℕ) : Type 0 where
  pub key_old : (e : ℕ) → e < n → key' e ≡ key e
  pub key_new : key' n ≡ k
  pub next_old : (e : ℕ) → e < n → next' e ≡ next e
  pub next_new : next' n ≡ head (hash k)
  pub head_old : (h : ℕ) → h < slots → (h ≡ hash k → ⊥) → head' h ≡ head h
  pub head_new : head' (hash k) ≡ suc n

-- a link to the last entry stays one where the slots of the entries below stay
latest_kept : {slot slot' : ℕ → ℕ} {n h x : ℕ} → Latest slot n h x → ((e : ℕ) → e < n → slot' e ≡ slot e) → Latest slot' n h x
latest_kept a s = record {
  within = a.within;
  there = λ e p. s e (omega (arith, a.within)) ∙ a.there e p;
  none = λ e l₁ l₂ p. a.none e l₁ l₂ (sym (s e l₂) ∙ p);
}

-- and where an entry of another slot is added
latest_more : {slot : ℕ → ℕ} {n h x : ℕ} → Latest slot n h x → (slot n ≡ h → ⊥) → Latest slot (suc n) h x
latest_more {slot} {n} {h} {x} a s = record {
  within = omega (arith, a.within);
  there = a.there;
  none = λ e l₁ l₂ p.
      ⊎_elim (λ (q : e ≡ n). s (ap slot (sym q) ∙ p)) (λ (q : e < n). a.none e l₁ q p) (eq-or-lt_of_le (le_of_suc-le-suc l₂));
}

-- the entry that was added last is the last of its slot
latest_new : {slot : ℕ → ℕ} {n h : ℕ} → slot n ≡ h → Latest slot (suc n) h (suc n)
latest_new {slot} {n} {h} s = record {
  within = omega arith;
  there = λ e p. ap slot (omega arith) ∙ s;
  none = λ e l₁ l₂ p. omega arith;
}

module _ {hash : Key → ℕ} {slots n : ℕ} {key : ℕ → Key} {head next : ℕ → ℕ} {k : Key} {key' : ℕ → Key} {head' next' : ℕ → ℕ} (t : Chains hash slots n key head next) (a : Added hash slots n key head next k key' head' next') where
  slot_old : (e : ℕ) → e < n → hash (key' e) ≡ hash (key e)
  slot_old e l = ap hash (a.key_old e l)

  -- the table with the new entry
  pub added : hash k < slots → ((e : ℕ) → e < n → key e ≡ k → ⊥) → Chains hash slots (suc n) key' head' next'
  added hk gone = record {
    heads = λ h l.
        ⊎_elim
        (λ (q : h ≡ hash k).
        subst (λ (x : ℕ). Latest (λ (e : ℕ). hash (key' e)) (suc n) h x) (sym (ap head' q ∙ a.head_new))
        (latest_new (ap hash a.key_new ∙ sym q)))
        (λ (q : h ≡ hash k → ⊥).
        subst (λ (x : ℕ). Latest (λ (e : ℕ). hash (key' e)) (suc n) h x) (sym (a.head_old h l q))
        (latest_more (latest_kept (t.heads h l) slot_old) (λ p. q (sym p ∙ ap hash a.key_new))))
        (eq_or_ne h (hash k));
    nexts = λ e l.
        ⊎_elim
        (λ (q : e ≡ n).
        let s : hash (key' e) ≡ hash k = ap (λ (d : ℕ). hash (key' d)) q ∙ ap hash a.key_new in
        let x : next' e ≡ head (hash k) = ap next' q ∙ a.next_new in
        rw (x, s, q) (latest_kept (t.heads (hash k) hk) slot_old))
        (λ (q : e < n).
        rw (a.next_old e q, slot_old e q)
        (latest_kept (t.nexts e q) (λ d u. slot_old d (omega arith))))
        (eq-or-lt_of_le (le_of_suc-le-suc l));
    apart = λ d e l l₁ p.
        ⊎_elim
        (λ (q : e ≡ n). gone d (omega arith) (sym (a.key_old d (omega arith)) ∙ p ∙ ap key' q ∙ a.key_new))
        (λ (q : e < n). t.apart d e l q (sym (a.key_old d (omega arith)) ∙ p ∙ a.key_old e q))
        (eq-or-lt_of_le (le_of_suc-le-suc l₁));
  }

  -- and its list of keys
  pub added_keys : firsts key' (suc n) ≡ firsts key n ++ (k ∷ [])
  added_keys =
      firsts_snoc key' n
      ∙ ap (λ (l : List Key). l ++ (key' n ∷ [])) (firsts_same key' key n a.key_old)
      ∙ ap (λ (x : Key). firsts key n ++ (x ∷ [])) a.key_new
