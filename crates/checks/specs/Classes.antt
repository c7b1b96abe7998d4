-- Words of inner contracts: edges, faces or cells in classes: which class one is in, and what going over all of them finds.
use Rattle.std.specs.Prelude.{◌≡◌, Result, Ok, Err, Bool, true, false, List, [], ◌∷◌, map, ℕ, ◌+◌, ◌*◌, ◌/◌, ◌%◌, ◌^◌, ◌≤◌, ◌<◌, eqb, length}
use Rattle.rules.specs.Lists.{cut, key_of, distinct}
use Rattle.lists.specs.Membership.{In}
use Rattle.soundness.specs.Across.{across}
use Rattle.checks.specs.declared.tagged.TaggedKeys.{TaggedKeys}
use Rattle.checks.specs.declared.tagged.Stopped.{Stopped}
use Rattle.checks.specs.declared.tagged.Stopped.TheVariants.{Differs, Full}
use Rattle.checks.specs.declared.parts.Part.TheVariants.{Edge, Face}
use Rattle.checks.specs.declared.classes.Walk.{Walk}
use Rattle.checks.specs.declared.classes.Walk.TheVariants.{Edges, Faces, Cells}
use Rattle.checks.specs.Walk.{size_of, parts_met}
use Rattle.checks.specs.Tagged.{TagMet, counted}

-- ---- what is walked

-- the corners of the edges or of the faces of a mesh, or of the cells of a table, which have k corners each
abbrev pub walked : Walk → ℕ → List (List ℕ)
walked (Edges mesh) k = parts_met Edge mesh
walked (Faces mesh) k = parts_met Face mesh
walked (Cells cells) k = cut k cells.now

-- how many corners one has; cells are free to have any number
abbrev pub corners_of : Walk → ℕ → ℕ
corners_of (Edges mesh) k = size_of Edge
corners_of (Faces mesh) k = size_of Face
corners_of (Cells cells) k = k

-- each has k corners, and not too many to add up their squares
abbrev pub Size : Walk → ℕ → Type 0
Size of k = (k ≡ corners_of of k) × (0 < k) × (k ≤ 8)

-- what tells two apart that have one corner set: of faces that go round, the corner across the least
abbrev pub tag_for : Walk → List ℕ → ℕ
tag_for (Edges mesh) p = 0
tag_for (Faces mesh) p = across p
tag_for (Cells cells) p = 0

-- ---- the classes

abbrev pub squared : ℕ → ℕ
squared x = x * x % 2 ^ 32

unfoldable pub total : List ℕ → ℕ
total [] = 0
total (x ∷ xs) = squared x + total xs

-- The class among m: the sum of the corners' squares, which does not depend on their order, spread as the numbering spreads keys over slots.
-- Plain sums would not do: in a mesh with mirrored numbers all pairs of a vertex and its image have one.
unfoldable pub class_of : ℕ → List ℕ → ℕ
class_of m p = total p % 2 ^ 32 * 1640531527 % 2 ^ 32 * m / 2 ^ 32

-- the class of this number among m
abbrev pub in_class : ℕ → ℕ → List ℕ → Bool
in_class m number p = eqb (class_of m p) number

-- nothing is met
abbrev pub Skipped : List ℕ → List ℕ → ℕ → Result ℕ Stopped → Type 0
Skipped w w' n (Ok count) = (count ≡ n) × (w' ≡ w)
Skipped w w' n (Err e) = ⊥

-- corners p are met if they are in the class, and passed over if not
pub record ClassMet (class : List ℕ → Bool) (p : List ℕ) (c : ℕ) (w w' : List ℕ) (room n t : ℕ) (r : Result ℕ Stopped) : Type 0 where
  pub inside : class p ≡ true → TagMet c w w' room n (key_of p) t r
  pub outside : class p ≡ false → Skipped w w' n r

-- the same of a table as a value
abbrev pub CornersMet : {c : ℕ} → (List ℕ → Bool) → TaggedKeys c → TaggedKeys c → List ℕ → ℕ → Result (Unit {0}) Stopped → Type 0
CornersMet {c} class old new p t r = ClassMet class p c old.words.now new.words.now old.room old.known t (counted r new.known)

-- ---- what is found

-- n corner sets, and what has one corner set has one tag
pub record Agreeing (of : Walk) (ps : List (List ℕ)) (n : ℕ) : Type 0 where
  pub count_is : n ≡ length (distinct (map key_of ps))
  pub agree : (p q : List ℕ) → In p ps → In q ps → key_of p ≡ key_of q → tag_for of p ≡ tag_for of q

-- two with one corner set and different tags
pub record Apart (of : Walk) (ps : List (List ℕ)) : Type 0 where
  pub one : List ℕ
  pub other : List ℕ
  pub one_in : In one ps
  pub other_in : In other ps
  pub keys : key_of one ≡ key_of other
  pub tags : tag_for of one ≡ tag_for of other → ⊥

-- with too little memory the answer may stay open
abbrev pub Found : Walk → List (List ℕ) → Result ℕ Stopped → Type 0
Found of ps (Ok n) = Agreeing of ps n
Found of ps (Err Differs) = Apart of ps
Found of ps (Err Full) = Unit {0}
