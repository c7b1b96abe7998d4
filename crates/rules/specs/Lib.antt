-- docs/SPECIFICATION.md as definitions that compute: what a reader must believe, all of it. Each is stated once, with the number of its rule.
--
-- The notation. A definition has its type on one line and its equations on the next; the first equation that fits a call is taken.
-- `unfoldable`, `abbrev`: a definition that proofs open where they say so, or always. The difference matters to proofs alone.
-- ℕ: the numbers 0, 1, 2, ..; `zero` is 0 and `suc n` is n + 1; 1_000 is 1000; n - m is 0 where m is greater; / and % round down.
-- ℤ: the whole numbers; `pos n` is n and `negsuc n` is -(n + 1). ◌+ℤ◌ and ◌*ℤ◌ are their sum and product; lt_z and le_z are tests of < and ≤.
-- Bool: the truth values; `cond t a b` is a where t is true, else b. ltb, leb and eqb are tests of <, ≤ and = on ℕ.
-- List: [] is empty, x ∷ xs is x in front of xs, ++ joins; length, take n and drop n as their names say, `replicate n x` is x n times, `map f` f of
-- each; `get_or xs n d` is what stands at place n of xs, counted from 0, and d past its end.
-- λ (x : A). e is the function that takes x to e. `let x = a in e` is e with a for x. r.f is the field f of a record r.
-- a ≡ b: a and b are equal. A × B: both hold. A → B: from A follows B. ⊥: what never holds.
-- Float: `fin s m e` is m times 2 to the power e, below zero where s is true. `odd n s m a b` is m times 2^a over 2^b, with the sign s, as the `fin` whose m
-- is odd, or 0; n bounds how often m is halved. `nat_abs z` is z without its sign, `max` the greater of two, ^ a power.

-- Lists: the few functions on lists that the rules are written with; sets of corners.
pub mod Lists
-- Text: a text as its bytes.
pub mod Text
-- Mesh: the five tables, the kinds of cells, the parts of a cell.
pub mod Mesh
-- Split: edges and faces in the order first met, fine vertices, children.
pub mod Split
-- Means: one division, rounded down, and its remainder.
pub mod Means
-- Averaging: rank, valence, the means of a round, the round, several rounds.
pub mod Averaging
-- Accuracy: the third property: exact coordinates, feeding, the bounding box.
pub mod Accuracy
-- Counts: the counts of a round, the finished counts, the ranges.
pub mod Counts
-- Answers: refusals by name, and the answers that results lead to.
pub mod Answers
-- Refusals: the conditions 1 to 10.
pub mod Refusals
-- EntryPoints: refining, the finished counts, the irregular count, the millimetre report: refusal, answer, lent memory.
pub mod EntryPoints
-- Bits: bit fields in and out of bytes; the index width.
pub mod Bits
-- StoredForm: a mesh as bytes; reading, writing, the counts in a header.
pub mod StoredForm
-- Viewer: the calls of the C viewer, on tables of fixed sizes.
pub mod Viewer
-- Listing: what the listing program prints.
pub mod Listing
-- SampleMeshes: the meshes of the samples. SampleClaims: what a row says.
pub mod SampleMeshes
pub mod SampleClaims
-- Rows, by what they are of.
pub mod PartRows
pub mod RoundRows
pub mod AccuracyRows
pub mod RefusalRows
pub mod EntryRows
pub mod StoredRows
-- Samples: the table of all rows, under one claim.
pub mod Samples
