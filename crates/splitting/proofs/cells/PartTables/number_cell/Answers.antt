-- Corners, edges, faces and the own number, stored behind each other.
use Rattle.std.proofs.Common.{◌≡◌, ℕ, ◌+◌, ◌-◌, ◌/◌, ◌≤◌, List, [], ◌∷◌, ◌++◌, length, refl, sym, ap, ◌∙◌, zero-add, arith}
use lib.ListN.{set, take, drop, length-append, length-map}
use lib.Seq.{sets, length-sets}
use borrow.Rule.Slice.PartMut.{put_mid}
use Rattle.rules.specs.Lists.{Key, overwritten, meet_all}
use Rattle.numbering.specs.Parts.{part_keys, Numbered}
use Rattle.numbering.proofs.Places.{length_part_keys}
use Rattle.memory.proofs.Stores.{sets_append, sets_front, sets_rest}
use Rattle.splitting.specs.Kinds.{edges_of, faces_of}
use Rattle.splitting.specs.Cells.{numbers_in, cell_numbers}
use Rattle.splitting.specs.Words.{edges_in, faces_in}
use Rattle.splitting.proofs.KindParts.{edges_listed, faces_listed, edges_counted, faces_counted, few_fine}
use Rattle.splitting.proofs.cells.PartTables.number_cell.Goals as goal

-- four runs of stores behind each other
four_stores : (l xs ys zs : List ℕ) (d p q r : ℕ) → length xs ≡ p → p + length ys ≡ q → q + length zs ≡ r → set (sets (sets (sets l 0 xs) p ys) q zs) r d ≡ sets l 0 (xs ++ (ys ++ (zs ++ (d ∷ []))))
four_stores l xs ys zs d p q r e f g =
    rw (← g, ← f, ← e)
    (sym (sets_append l 0 xs (ys ++ (zs ++ (d ∷ [])))
    ∙ rw (zero-add (length xs))
    (sets_append (sets l 0 xs) (length xs) ys (zs ++ (d ∷ []))
    ∙ sets_append (sets (sets l 0 xs) (length xs) ys) (length xs + length ys) zs (d ∷ []))))

-- a number stored at a place that is written in another way
stored_at : (l : List ℕ) (p r d : ℕ) (new : List ℕ) → set l r d ≡ new → p ≡ r → set l p d ≡ new
stored_at l p r d new h e = rw e h

-- keys numbered from a base that is written in another way
counted_from : {c : ℕ} {w w' : List ℕ} {room n : ℕ} {ks : List Key} {base : ℕ} {old new : List ℕ} {count : ℕ} → Numbered c w w' room n ks base old new count → (same : ℕ) → base ≡ same → Numbered c w w' room n ks same old new count
counted_from m same e = rw e at m

-- numbers stored in the array from q on
rest : (q : ℕ) (l ds : List ℕ) → length l ≡ 27 → q + length ds ≤ 27 → put_mid q (27 - q) l (overwritten (take (27 - q) (drop q l)) ds) ≡ sets l q ds
rest q l ds n u = rw n at (sets_rest q l ds (omega arith))

pub number_parts-edges-requires-clause-keys_fit : goal.number_parts-edges-requires-clause-keys_fit
number_parts-edges-requires-clause-keys_fit c = rw (edges_listed c.args.given c.args.cell.now) c.requires.room.edges_fit

pub number_parts-faces-requires-clause-keys_fit : goal.number_parts-faces-requires-clause-keys_fit
number_parts-faces-requires-clause-keys_fit c = rw (faces_listed c.args.given c.args.cell.now) c.requires.room.faces_fit

pub returns-clause-both_met : goal.returns-clause-both_met
returns-clause-both_met c =
    let cell = c.args.cell.now in
    record {
      edges = (rw (edges_listed c.args.given cell) at c.number_parts-edges.ensures).met;
      faces = (rw (faces_listed c.args.given cell) at c.number_parts-faces.ensures).met;
    }

pub returns-clause-cell_numbered : goal.returns-clause-cell_numbered
unfolding cell_numbers
returns-clause-cell_numbered c es fs =
    let x = c.args in
    let b = x.given.base in
    let cell = x.cell.now in
    let e = rw (edges_listed c.args.given cell) at c.number_parts-edges.ensures in
    let f₀ = rw (faces_listed c.args.given cell) at c.number_parts-faces.ensures in
    let f = counted_from f₀ (b.vertices + b.edges) (omega arith) in
    let eks = part_keys (edges_of x.given.kind) cell in
    let fks = part_keys (faces_of x.given.kind) cell in
    let ds = numbers_in b.vertices eks (meet_all (edges_in b x.self.now) (eks ++ es)) in
    let gs = numbers_in (b.vertices + b.edges) fks (meet_all (faces_in b x.self.now) (fks ++ fs)) in
    let m : length ds ≡ length x.given.edges.now / 2 = length-map eks _ ∙ length_part_keys (edges_of x.given.kind) cell ∙ sym (edges_counted c.args.given) in
    let n : length gs ≡ length x.given.faces.now / 4 = length-map fks _ ∙ length_part_keys (faces_of x.given.kind) cell ∙ sym (faces_counted c.args.given) in
    let q = length cell + length x.given.edges.now / 2 in
    let r = q + length x.given.faces.now / 4 in
    let few = few_fine c.args.given cell c.requires.cell_len in
    let u : length (cell ++ (ds ++ (gs ++ (x.own ∷ [])))) ≤ length x.numbers.now = simp length-append (omega arith) in
    let l₁ = c.copy.new.dst in
    let l₂ = put_mid (length cell) (27 - length cell) l₁ c.number_parts-edges.new.numbers in
    let long : length l₁ ≡ 27 = omega arith in
    let s₁ : l₂ ≡ sets l₁ (length cell) ds =
    ap (λ (v : List ℕ). put_mid (length cell) (27 - length cell) l₁ v) (e.numbers_are es) ∙ rest (length cell) l₁ ds long (omega arith) in
    let long₂ : length l₂ ≡ 27 = ap length s₁ ∙ length-sets l₁ (length cell) ds ∙ long in
    let s₂ : put_mid q (27 - q) l₂ c.number_parts-faces.new.numbers ≡ sets l₂ q gs =
    ap (λ (v : List ℕ). put_mid q (27 - q) l₂ v) (f.numbers_are fs) ∙ rest q l₂ gs long₂ (omega arith) in
    let h = c.copy.ensures ∙ sym (sets_front x.numbers.now cell (omega arith)) in
    let stored : set (put_mid q (27 - q) l₂ c.number_parts-faces.new.numbers) r x.own ≡ overwritten x.numbers.now (cell ++ (ds ++ (gs ++ (x.own ∷ [])))) =
    ap (λ (l : List ℕ). set l r x.own) (s₂ ∙ ap (λ (l : List ℕ). sets l q gs) (s₁ ∙ ap (λ (l : List ℕ). sets l (length cell) ds) h))
    ∙ four_stores x.numbers.now cell ds gs x.own (length cell) q r refl (omega arith) (omega arith)
    ∙ sets_front x.numbers.now (cell ++ (ds ++ (gs ++ (x.own ∷ [])))) u in
    stored_at _ _ r _ _ stored (omega arith)
