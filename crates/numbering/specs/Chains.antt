-- Words of inner contracts: a hash table with chains, as functions on numbers: it says nothing of where they are stored.
-- Entries 0 .. n - 1 have keys. A link is one more than an entry's number, or 0 for none.
use Rattle.std.specs.Prelude.{◌≡◌, ℕ, suc, ◌≤◌, ◌<◌}
use Rattle.rules.specs.Lists.{Key}

-- x links to the last entry below n that is in slot h
pub record Latest (slot : ℕ → ℕ) (n h x : ℕ) : Type 0 where
  pub within : x ≤ n
  pub there : (e : ℕ) → x ≡ suc e → slot e ≡ h
  pub none : (e : ℕ) → x ≤ e → e < n → slot e ≡ h → ⊥

-- `head h` links to the last entry in slot h, `next e` to the last one before e in e's slot; no two entries have one key
pub record Chains (hash : Key → ℕ) (slots n : ℕ) (key : ℕ → Key) (head next : ℕ → ℕ) : Type 0 where
  pub heads : (h : ℕ) → h < slots → Latest (λ (e : ℕ). hash (key e)) n h (head h)
  pub nexts : (e : ℕ) → e < n → Latest (λ (d : ℕ). hash (key d)) e (hash (key e)) (next e)
  pub apart : (d e : ℕ) → d < e → e < n → key d ≡ key e → ⊥
