-- The sum of the split positions of all corners of a child is that by the weights. Assumes nothing.
use mathlib.Core.Path.{◌≡◌, refl, sym, ap, ap₂, subst, ◌∙◌}
use mathlib.Core.Bool.{Bool, true, false, cond}
use mathlib.Core.Logic.{inl, inr}
use mathlib.Core.List.{List, [], ◌∷◌, map}
use Prim.Native.Nat.{ℕ, ◌+◌, ◌*◌, ◌/◌, ◌<◌, ◌≤◌}
use native.Mathlib.Omega.{arith}
use native.Mathlib.Nat.{zero-add}
use lib.ListN.{length, get_or, length-map}
use lib.Dec.{eqb, leb}
use borrow.Author.Tests.{eq-eqb, ne_eqb}
use Rattle.rules.specs.Lists.{Each, concat_map, up_from, Key, insert, key_of}
use Rattle.rules.specs.Mesh.{Kind, hex, quad, segment, point, corners, whole, smallest}
use Rattle.rules.specs.Split.{corners_at, key_at}
use Rattle.rules.specs.Means.{Draw}
use Rattle.rules.specs.Averaging.{eighths, cell_draws}
use Rattle.lists.specs.Membership.{In}
use Rattle.lists.proofs.Membership.{in_map, get_or_run}
use Rattle.lists.proofs.Each.{each_in, each_concat_map}
use Rattle.lists.proofs.Keys.{length_key}
use Rattle.rounding.proofs.Draws.{nat_total, nat_total_append}
use Rattle.soundness.proofs.CellParts.{placed, smallest_part}
use Rattle.soundness.proofs.Cells.{whole_below}
use Rattle.averaging.specs.Sums.{sum_to}
use Rattle.averaging.specs.Weights.{child_draws, weight_at, weight_rows}
use Rattle.averaging.specs.Pass.{weighed}
use Rattle.averaging.proofs.Sums.{sum_to_same, sum_to_plus, sum_to_single, sum_to_none}

-- ---- the weights by row and column

weights_at : (κ : Kind) (i u : ℕ) → i < corners κ → u < corners κ → get_or (get_or (weight_rows κ) i []) u 0 ≡ weight_at (child_draws κ i) u
unfolding weight_rows whole
weights_at κ i u h k =
    ap (λ (row : List ℕ). get_or row u 0) (get_or_run (λ (i : ℕ). map (weight_at (child_draws κ i)) (up_from 0 (corners κ))) [] 0 (corners κ) i h)
    ∙ get_or_run (weight_at (child_draws κ (0 + i))) 0 0 (corners κ) u k
    ∙ ap₂ (λ (i u : ℕ). weight_at (child_draws κ i) u) (zero-add i) (zero-add u)

-- ---- draws collected by place

pub collected : (n : ℕ) (e : ℕ → ℕ) (ts : List Draw) → Each (λ (t : Draw). t.vertex < n) ts → nat_total ts e ≡ sum_to n (λ (u : ℕ). weight_at ts u * e u)
unfolding weight_at
collected n e [] g = sym (sum_to_none n (λ (u : ℕ). 0 * e u) (λ u h. omega arith))
collected n e (t ∷ ts) g =
    let v = t.vertex in
    let w = t.weight in
    let one : ℕ → ℕ = λ u. cond (eqb u v) (w * e u) 0 in
    let rest : ℕ → ℕ = λ u. weight_at ts u * e u in
    let single : sum_to n one ≡ w * e v =
    sum_to_single n v one g.0 (λ u h d. ap (λ (b : Bool). cond b (w * e u) 0) (ne_eqb u v d)) ∙ ap (λ (b : Bool). cond b (w * e v) 0) (eq-eqb v v refl) in
    ap₂ ◌+◌ (sym single) (collected n e ts g.1)
    ∙ sym (sum_to_plus n one rest)
    ∙ sum_to_same n (λ (u : ℕ). one u + rest u) (λ (u : ℕ). cond (eqb u v) (w + weight_at ts u) (weight_at ts u) * e u) (λ u h. join (eqb u v) w (weight_at ts u) (e u))
  where
    join : (b : Bool) (w r x : ℕ) → cond b (w * x) 0 + r * x ≡ cond b (w + r) r * x
    join true w r x = omega arith
    join false w r x = omega arith

total_same : (n : ℕ) (e e' : ℕ → ℕ) (ts : List Draw) → Each (λ (t : Draw). t.vertex < n) ts → ((u : ℕ) → u < n → e u ≡ e' u) → nat_total ts e ≡ nat_total ts e'
total_same n e e' [] g h = refl
total_same n e e' (t ∷ ts) g h = ap₂ (λ (x y : ℕ). t.weight * x + y) (h t.vertex g.0) (total_same n e e' ts g.1 h)

-- ---- the split position of a part of a cell, by the places of the part's corners

abbrev shares : ℕ → List ℕ → List Draw
shares w p = map (λ (u : ℕ). record { vertex = u; weight = w }) p

insert_total : (w : ℕ) (e : ℕ → ℕ) (x : ℕ) (xs : List ℕ) → nat_total (shares w (insert x xs)) e ≡ w * e x + nat_total (shares w xs) e
unfolding insert
insert_total w e x [] = refl
insert_total w e x (y ∷ ys) = go (leb x y) (insert_total w e x ys)
  where
    go : (b : Bool) → nat_total (shares w (insert x ys)) e ≡ w * e x + nat_total (shares w ys) e → nat_total (shares w (cond b (x ∷ y ∷ ys) (y ∷ insert x ys))) e ≡ w * e x + (w * e y + nat_total (shares w ys) e)
    go true h = refl
    go false h = omega arith

key_total : (w : ℕ) (e : ℕ → ℕ) (xs : List ℕ) → nat_total (shares w (key_of xs)) e ≡ nat_total (shares w xs) e
unfolding key_of
key_total w e [] = refl
key_total w e (x ∷ xs) = insert_total w e x (key_of xs) ∙ ap (λ (n : ℕ). w * e x + n) (key_total w e xs)

place_total : (w : ℕ) (e at : ℕ → ℕ) (p : List ℕ) → nat_total (shares w (map at p)) e ≡ nat_total (shares w p) (λ (q : ℕ). e (at q))
place_total w e at [] = refl
place_total w e at (i ∷ p) = ap (λ (n : ℕ). w * e (at i) + n) (place_total w e at p)

part_total : (e : ℕ → ℕ) (cell p : List ℕ) → nat_total (eighths (key_at cell p)) e ≡ nat_total (eighths p) (λ (q : ℕ). e (get_or cell q 0))
unfolding eighths key_at corners_at
part_total e cell p =
    let at : ℕ → ℕ = λ i. get_or cell i 0 in
    ap (λ (n : ℕ). nat_total (shares (8 / n) (key_of (map at p))) e) (length_key (map at p) ∙ length-map p at)
    ∙ key_total (8 / length p) e (map at p)
    ∙ place_total (8 / length p) e at p

-- ---- a child: from the parts that its corners stand for, its total is that by the weights

-- the corners at the places js: number j is that of the part at the places part j
corners_total : (e : ℕ → ℕ) (numbered : List Key) (cell : List ℕ) (number : ℕ → ℕ) (part : ℕ → List ℕ) (js : List ℕ) → ((j : ℕ) → In j js → get_or numbered (number j) [] ≡ key_at cell (part j))
    → nat_total (cell_draws numbered (map number js)) e ≡ nat_total (concat_map (λ (j : ℕ). eighths (part j)) js) (λ (q : ℕ). e (get_or cell q 0))
unfolding cell_draws concat_map
corners_total e numbered cell number part [] g = refl
corners_total e numbered cell number part (j ∷ js) g =
    nat_total_append e (eighths (get_or numbered (number j) [])) (cell_draws numbered (map number js))
    ∙ ap₂ ◌+◌ (ap (λ (k : Key). nat_total (eighths k) e) (g j (inl refl)) ∙ part_total e cell (part j)) (corners_total e numbered cell number part js (λ j i. g j (inr i)))
    ∙ sym (nat_total_append (λ (q : ℕ). e (get_or cell q 0)) (eighths (part j)) (concat_map (λ (j : ℕ). eighths (part j)) js))

-- a child draws on its parent's corners
draws_inside : (κ : Kind) (i : ℕ) → In i (whole κ) → Each (λ (t : Draw). t.vertex < corners κ) (child_draws κ i)
unfolding child_draws eighths
draws_inside κ i h =
    let Below : Draw → Type 0 = λ t. t.vertex < corners κ in
    (each_concat_map Below (λ (j : ℕ). eighths (smallest κ i j)) (whole κ)).1 ((each_in (λ (j : ℕ). Each Below (eighths (smallest κ i j))) (whole κ)).1 (λ j k.
    let p = smallest κ i j in
    (each_in Below (eighths p)).1 (λ t m.
    let q = in_map (λ (u : ℕ). record { vertex = u; weight = 8 / length p }) p t m in
    subst Below (sym q.2) (whole_below κ q.0 (placed κ p (smallest_part κ i h j k) q.0 q.1)))))

pub corners_some : (κ : Kind) → 0 < corners κ
corners_some hex = omega arith
corners_some quad = omega arith
corners_some segment = omega arith
corners_some point = omega arith

pub corners_most : (κ : Kind) → corners κ ≤ 8
corners_most hex = omega arith
corners_most quad = omega arith
corners_most segment = omega arith
corners_most point = omega arith

-- at: the corners' coordinates by their places
pub child_total : (κ : Kind) (e at : ℕ → ℕ) (numbered : List Key) (cell : List ℕ) (number : ℕ → ℕ) (i : ℕ) → In i (whole κ)
    → ((j : ℕ) → In j (whole κ) → get_or numbered (number j) [] ≡ key_at cell (smallest κ i j))
    → ((u : ℕ) → u < corners κ → e (get_or cell u 0) ≡ at u)
    → nat_total (cell_draws numbered (map number (whole κ))) e ≡ weighed (corners κ) (get_or (weight_rows κ) i []) at
unfolding child_draws weighed
child_total κ e at numbered cell number i h numbers placed_at =
    let inside = draws_inside κ i h in
    corners_total e numbered cell number (smallest κ i) (whole κ) numbers
    ∙ total_same (corners κ) (λ (q : ℕ). e (get_or cell q 0)) at (child_draws κ i) inside placed_at
    ∙ collected (corners κ) at (child_draws κ i) inside
    ∙ sum_to_same (corners κ) (λ (u : ℕ). weight_at (child_draws κ i) u * at u) (λ (u : ℕ). get_or (get_or (weight_rows κ) i []) u 0 * at u) (λ u l. ap (λ (w : ℕ). w * at u) (sym (weights_at κ i u (whole_below κ i h) l)))
