-- Words of inner contracts: a sound topology, what checks 4 to 8 let through, as statements (rules 7.4 to 7.8 of docs/SPECIFICATION.md).
use Rattle.std.specs.Prelude.{◌≡◌, List, map, ℕ, ◌<◌, length, get_or}
use Rattle.rules.specs.Lists.{Key, key_of}
use Rattle.rules.specs.Mesh.{Kind, corners, whole, Topology, cells_of}
use Rattle.rules.specs.Split.{met}
use Rattle.rules.specs.Refusals.{ring}
use Rattle.lists.specs.Membership.{In, Once}

-- corner number j of a cell
abbrev pub corner : List ℕ → ℕ → ℕ
corner cell j = get_or cell j 0

-- vertex v is a corner of a cell
pub record Held (t : Topology) (v : ℕ) : Type 0 where
  pub kind : Kind
  pub cell : List ℕ
  pub place : ℕ
  pub listed : In cell (cells_of t kind)
  pub placed : In place (whole kind)
  pub is : v ≡ corner cell place

pub record Sound (t : Topology) : Type 0 where
  -- a cell has as many corners as its kind; so it is with the cells cut from a flat table
  pub sized : (κ : Kind) (cell : List ℕ) → In cell (cells_of t κ) → length cell ≡ corners κ
  -- 4: each corner is below the vertex count
  pub known : (κ : Kind) (cell : List ℕ) → In cell (cells_of t κ) → (j : ℕ) → In j (whole κ) → corner cell j < t.vertex_count
  -- 5: no cell names a corner twice
  pub corners_distinct : (κ : Kind) (cell : List ℕ) → In cell (cells_of t κ) → (i j : ℕ) → In i (whole κ) → In j (whole κ) → corner cell i ≡ corner cell j → i ≡ j
  -- 6: no two cells of one kind have one corner set
  pub cells_distinct : (κ : Kind) → Once (map key_of (cells_of t κ))
  -- 7: two faces with one corner set have the same neighbours in going round
  pub matched : (f g : List ℕ) → In f (met t 2) → In g (met t 2) → key_of f ≡ key_of g → (e : Key) → In e (ring f) → In e (ring g)
  -- 8: each vertex is in a cell
  pub held : (v : ℕ) → v < t.vertex_count → Held t v
