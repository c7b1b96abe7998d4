-- The library's `min` and `max` are the rules' lesser and greater.
use Rattle.std.proofs.Common.{ℕ, ◌≡◌, ◌<◌, ◌≤◌, ◌∙◌, min, max, List, arith}
use Rattle.std.proofs.lemmas.Bool.Decides.{nat_tests}
use borrow.Author.Tests.{lt-ltb, le-ltb}
use Rattle.soundness.specs.Sound.{corner}
use Rattle.soundness.specs.Across.{lesser, greater, across}
use Rattle.checks.proofs.faces.across.Goals as goal

min_lesser : (a b : ℕ) → min a b ≡ lesser a b
min_lesser a b = grind (arith, nat_tests)

max_greater : (a b : ℕ) → max a b ≡ greater a b
max_greater a b = grind (arith, nat_tests)

even : (f : List ℕ) → min (corner f 0) (corner f 2) < min (corner f 1) (corner f 3) → max (corner f 0) (corner f 2) ≡ across f
unfolding across
even f h = rw (← min_lesser (corner f 0) (corner f 2), ← min_lesser (corner f 1) (corner f 3), lt-ltb _ _ h) (max_greater (corner f 0) (corner f 2))

uneven : (f : List ℕ) → min (corner f 1) (corner f 3) ≤ min (corner f 0) (corner f 2) → max (corner f 1) (corner f 3) ≡ across f
unfolding across
uneven f h = rw (← min_lesser (corner f 0) (corner f 2), ← min_lesser (corner f 1) (corner f 3), le-ltb _ _ h) (max_greater (corner f 1) (corner f 3))

pub returns-then-min : goal.returns-then-min
returns-then-min c = c.max.ensures ∙ even c.args.f (rw (c.min.ensures, c.min-2.ensures) at c.if-min.true)

pub returns-else-min : goal.returns-else-min
returns-else-min c = c.max-else-min.ensures ∙ uneven c.args.f (rw (c.min.ensures, c.min-2.ensures) at c.if-min.false)
