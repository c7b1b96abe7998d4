-- What a row of the table of samples says, and the statement that it holds.
use Rattle.std.specs.Prelude.{◌≡◌, List, [], ◌∷◌, ◌++◌, map, ℕ, ◌-◌, ◌*◌, length, take, drop, replicate, Bool, ℤ, pos, ◌*ℤ◌, Float}
use Rattle.rules.specs.declared.Counts.{Counts}
use Rattle.rules.specs.declared.Sizes.{Sizes}
use Rattle.rules.specs.declared.CountsAnswer.{CountsAnswer}
use Rattle.rules.specs.declared.CountAnswer.{CountAnswer}
use Rattle.rules.specs.declared.MillimetresAnswer.{MillimetresAnswer}
use Rattle.rules.specs.Lists.{concat_map, up_from}
use Rattle.rules.specs.Mesh.{Mesh, mesh, Topology, topology}
use Rattle.rules.specs.Means.{Draw, Mean, mean_of}
use Rattle.rules.specs.Averaging.{rank, valence, means, axis, refined, split_times, rounds_of}
use Rattle.rules.specs.Accuracy.{exact, exact_divisor, Division, feeding, left, Property3}
use Rattle.rules.specs.Counts.{counts_of, finished_counts}
use Rattle.rules.specs.EntryPoints.{refining_refusal, range_kept, irregular_count, in_millimetres}
use Rattle.rules.specs.StoredForm.{Layout, index_width, stored_form, stored_mesh, reading_refusal}
use Rattle.rules.specs.Viewer.{fixed_lent, viewer_answer}
use Rattle.rules.specs.Listing.{listing}

-- what a row says of its mesh after its rounds
pub data Claim : Type 0 where
  -- these coordinates stand from vertex v on
  vertices : ℕ → List ℤ → Claim
  -- these are the hexes, quads, segments and points
  cells : List ℕ → List ℕ → List ℕ → List ℕ → Claim
  -- the five counts, of the finished mesh and as worked out before any round
  counts : ℕ → ℕ → ℕ → ℕ → ℕ → Claim
  -- the ranks, and the valences, of the vertices
  ranks : List ℕ → Claim
  valences : List ℕ → Claim
  -- the exact coordinates on axis 1, each times n
  exactly : ℕ → List ℤ → Claim
  -- in the last round, the division of vertex v on axis a + 1 leaves a remainder of a divisor
  division : ℕ → ℕ → ℕ → ℕ → Claim
  -- the vertices whose divisions feed vertex v, its own first, by the rounds back from the last
  fed_by : ℕ → List ℕ → Claim
  -- the irregular count
  irregulars : ℕ → Claim
  -- the index width
  width : ℕ → Claim
  -- the stored form; and what is read back from it
  bytes : List ℕ → Claim
  read_back : Claim
  -- what the listing program prints
  prints : List ℕ → Claim
  -- the C viewer's call, with a result buffer of so many bytes, answers this
  answers : ℕ → ℤ → Claim
  -- a coordinate in millimetres
  millimetres : ℤ → Float → Claim
  -- refining, with the listing program's memory, is refused with this number; 0 is no refusal
  refused : ℕ → Claim
  -- whether every coordinate is in range, before any round and after each
  in_range : List Bool → Claim
  -- reading these bytes into tables of the given counts is refused with this number
  unread : List ℕ → Counts → ℕ → Claim
  -- a table of vertices has the third property, or lacks it
  accurate : List ℤ → Claim
  inaccurate : List ℤ → Claim
  -- what is computed, and what it is: numbers, lists of numbers, whole numbers, truth values, five tables, a position
  numbers : List ℕ → List ℕ → Claim
  lists : List (List ℕ) → List (List ℕ) → Claim
  wholes : List ℤ → List ℤ → Claim
  truths : List Bool → List Bool → Claim
  tables : Mesh → Mesh → Claim
  position : MillimetresAnswer → MillimetresAnswer → Claim

pub record Row : Type 0 where
  pub mesh : Mesh
  pub rounds : ℕ
  pub claim : Claim

-- ---- records as numbers

abbrev pub five : Counts → List ℕ
five c = c.vertices ∷ c.hexes ∷ c.quads ∷ c.segments ∷ c.points ∷ []

abbrev pub seven : Sizes → List ℕ
seven s = s.vertices ∷ s.edges ∷ s.faces ∷ s.hexes ∷ s.quads ∷ s.segments ∷ s.points ∷ []

abbrev pub answered : CountsAnswer → List ℕ
answered a = a.refusal ∷ five a.counts

abbrev pub counted : CountAnswer → List ℕ
counted a = a.refusal ∷ a.count ∷ []

abbrev pub laid_out : Layout → List ℕ
laid_out l = l.vertices ∷ l.hexes ∷ l.quads ∷ l.segments ∷ l.points ∷ l.end ∷ []

-- the divisor, and then vertex and weight of each draw
abbrev pub spelled_out : Mean → List ℕ
spelled_out m = m.divisor ∷ concat_map (λ (d : Draw). d.vertex ∷ d.weight ∷ []) m.draws

-- the count of vertices, and then the cells
abbrev pub flat : Topology → List (List ℕ)
flat t = (t.vertex_count ∷ []) ∷ (t.hexes ++ (t.quads ++ (t.segments ++ t.points)))

-- ---- what a claim says

-- the statement of a claim about a mesh m, which is f after k rounds
abbrev pub Says : Mesh → ℕ → Mesh → Claim → Type 0
Says m k f (vertices v xs) = take (length xs) (drop (3 * v) f.vertices) ≡ xs
Says m k f (cells hs qs ss ps) = f.hexes ∷ f.quads ∷ f.segments ∷ f.points ∷ [] ≡ hs ∷ qs ∷ ss ∷ ps ∷ []
Says m k f (counts v h q s p) =
    five (counts_of f) ∷ five (finished_counts k (topology m)) ∷ [] ≡ (v ∷ h ∷ q ∷ s ∷ p ∷ []) ∷ (v ∷ h ∷ q ∷ s ∷ p ∷ []) ∷ []
Says m k f (ranks rs) = let t = topology f in map (rank t) (up_from 0 t.vertex_count) ≡ rs
Says m k f (valences vs) = let t = topology f in map (valence t) (up_from 0 t.vertex_count) ≡ vs
Says m k f (exactly n xs) =
    let rs = rounds_of k (topology m) in map (λ (e : ℤ). pos n *ℤ e) (exact rs (axis 0 m.vertices)) ≡ map (λ (x : ℤ). pos (exact_divisor rs) *ℤ x) xs
Says m k f (division a v r d) =
    left m a (record { before = k - 1; vertex = v }) ∷ (mean_of (means (split_times (k - 1) (topology m))) v).divisor ∷ [] ≡ r ∷ d ∷ []
Says m k f (fed_by v us) = map (λ (d : Division). d.vertex) (feeding k (topology m) v) ≡ us
Says m k f (irregulars n) = irregular_count (topology f) ≡ n
Says m k f (width w) = index_width (counts_of f) ≡ w
Says m k f (bytes bs) = stored_form f ≡ bs
Says m k f read_back = stored_mesh (stored_form f) ≡ f
Says m k f (prints bs) = listing (k ∷ stored_form m) ≡ bs
Says m k f (answers room z) = viewer_answer (stored_form m) k (replicate room 0) ≡ z
Says m k f (millimetres z x) = in_millimetres z ≡ x
Says m k f (refused n) = refining_refusal m k fixed_lent ≡ n
Says m k f (in_range bs) = range_kept k m ≡ bs
Says m k f (unread bs room n) = reading_refusal bs room ≡ n
Says m k f (accurate table) = Property3 k m table
Says m k f (inaccurate table) = Property3 k m table → ⊥
Says m k f (numbers xs ys) = xs ≡ ys
Says m k f (lists xs ys) = xs ≡ ys
Says m k f (wholes xs ys) = xs ≡ ys
Says m k f (truths xs ys) = xs ≡ ys
Says m k f (tables a b) = a ≡ b
Says m k f (position a b) = a ≡ b

abbrev pub Holds : Row → Type 0
Holds r = Says r.mesh r.rounds (refined r.rounds r.mesh) r.claim

-- ---- rows

abbrev pub row : Mesh → ℕ → Claim → Row
row m k c = record { mesh = m; rounds = k; claim = c }

-- a row that speaks of no mesh
abbrev pub fact : Claim → Row
fact c = row (mesh [] [] [] [] []) 0 c
