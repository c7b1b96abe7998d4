-- The tables of a mesh that is ready for averaging are such as the pass takes, and there is room for all its cells. Assumes nothing.
use mathlib.Core.Path.{◌≡◌, sym, ap, subst, ◌∙◌}
use mathlib.Core.List.{List, []}
use Prim.Native.Nat.{ℕ, ◌+◌, ◌*◌, ◌/◌, ◌^◌, ◌≤◌, ◌<◌}
use native.Mathlib.Omega.{arith}
use native.Mathlib.Nat.{mul-le-mul_left}
use lib.ListN.{length, length-map}
use lib.IntN.{ℤ, pos}
use Rattle.rules.specs.Lists.{cut}
use Rattle.rules.specs.Mesh.{Mesh, Kind, hex, quad, segment, point, dimension, corners, topology, cells_of}
use Rattle.rules.specs.Split.{parts, split_by, split, children}
use Rattle.lists.proofs.Membership.{get_or_in}
use Rattle.lists.proofs.Tables.{length_cut, cut_at, cut_concat}
use Rattle.soundness.proofs.Cells.{below_whole}
use Rattle.soundness.proofs.SplitSizes.{length_cells}
use Rattle.soundness.proofs.SplitSound.{split_sound}
use Rattle.accuracy.proofs.Range.{all_in_range}
use Rattle.averaging.specs.declared.tallies.Tallies.{Tallies}
use Rattle.averaging.specs.Tally.{Tally, tally_at, nothing, Room, Spare, Tallied}
use Rattle.averaging.specs.Pass.{table_step, cell_count, Near, Families}
use Rattle.averaging.specs.Ready.{table, Ready}
use Rattle.averaging.proofs.Steps.{tallied_by, spare_less}
use Rattle.averaging.specs.Weights.{weight_rows}
use Rattle.averaging.proofs.ChildSums.{corners_some, corners_most}
use Rattle.averaging.proofs.Passed.{passed}
use Rattle.averaging.proofs.Children.{value, count_cells, cells_cut, families, born_at, born_listed, corner_known, table_is}

-- nothing is counted yet
abbrev pub Cleared : ℕ → Tallies → Type 0
Cleared count t = (a f : ℕ) → a < 3 → f < count → tally_at t a f ≡ nothing

pub start : (k count : ℕ) (t : Tallies) → k ≤ 2 ^ 22 → length t.ranks.now ≡ count → length t.totals.now ≡ count → Cleared count t → Spare k t
start k count t h e e' s = record {
  same = e' ∙ sym e;
  room = λ a f b i. subst (Room k) (sym (s a f b (omega arith))) (record { few = omega arith; small = omega arith });
}

module _ {m fine : Mesh} {count words longs out : ℕ} (r : Ready m fine count words longs out) where
  -- the coordinates of the vertices are in range
  pub near : Near (cut 3 m.vertices)
  near v a h k =
      let inside : v < length m.vertices / 3 = rw (length_cut 3 m.vertices) at h in
      rw (cut_at 3 v a m.vertices [] (pos 0) inside k) ((all_in_range m).0 r.near (3 * v + a) (omega arith))

  -- the fine cells of the flat table
  fine_cut : (κ : Kind) → cut (corners κ) (table fine κ) ≡ cells_of (split (topology m)) κ
  fine_cut κ = ap (cut (corners κ)) (r.cells κ) ∙ cut_concat (corners κ) (cells_of (split (topology m)) κ) (corners_some κ) ((split_sound (topology m) r.sound).sized κ)

  -- the cells of a kind and their children
  pub tables : (κ : Kind) → Families (corners κ) (length (cut 3 m.vertices)) count (cut (corners κ) (table m κ)) (cut (corners κ) (cut (corners κ) (table fine κ)))
  unfolding split split_by
  tables κ =
      let n = corners κ in
      let t = topology m in
      let p = split_sound t r.sound in
      rw (← cells_cut m κ, fine_cut κ) (record {
        all = ap length (families m r.sound κ) ∙ length-map (cells_of t κ) (children (parts t) κ);
        old = λ c h u l. rw (length_cut 3 m.vertices) (corner_known m r.sound κ c u h (omega (arith, l, r.sound.sized κ _ (get_or_in (cells_of t κ) c [] h))));
        new = λ c i h l u k.
            let b = born_listed m r.sound κ c i h l in
            let e = born_at m r.sound κ c i h l in
            rw (e, r.counted) (p.known κ _ b u (below_whole κ u (omega (arith, rw e at k, p.sized κ _ b))));
      })

  -- how many corners the fine cells have
  abbrev pub load : Kind → ℕ
  load κ = corners κ * corners κ * cell_count (corners κ) (table m κ)

  light : (κ : Kind) → load κ ≤ corners κ * 250_000
  light κ =
      let n = corners κ in
      let count : length (cells_of (split (topology m)) κ) ≡ n * cell_count n (table m κ) = length_cells (topology m) κ ∙ ap (λ (x : ℕ). n * x) (count_cells m r.sound κ) in
      omega (arith, mul-le-mul_left n (r.few κ), ap (λ (x : ℕ). n * x) count)

  -- there is room for all
  pub light_all : load point + (load segment + (load quad + load hex)) ≤ 2 ^ 22
  light_all = omega (arith, light point, light segment, light quad, light hex)

  -- what the pass over the table of a kind asks
  pub takes : (κ : Kind) (k : ℕ) {vertices : List (List ℤ)} {t : Tallies} → load κ ≤ k → vertices ≡ cut 3 m.vertices → length t.ranks.now ≡ count → Spare k t
      → ((0 < corners κ) × (corners κ ≤ 8)) × (Families (corners κ) (length vertices) (length t.ranks.now) (cut (corners κ) (table m κ)) (cut (corners κ) (cut (corners κ) (table fine κ))) × (Near vertices × Spare (load κ) t))
  takes κ k l e e' s = ((corners_some κ, corners_most κ), (rw (e, e') (tables κ), (rw e near, spare_less l s)))

  -- ---- the pass over the table of a kind is that over its fine cells

  abbrev pub kind_step : Kind → ℕ → ℕ → Tally → Tally
  kind_step κ a f = passed (value m a) f (dimension κ) (cells_of (split (topology m)) κ)

  pub by_kind : (κ : Kind) {k : ℕ} {weights : List (List ℕ)} {vertices : List (List ℤ)} {t t' : Tallies} → weights ≡ weight_rows κ → vertices ≡ cut 3 m.vertices
      → Tallied k (table_step (corners κ) (dimension κ) weights vertices (cut (corners κ) (table m κ)) (cut (corners κ) (cut (corners κ) (table fine κ)))) t t'
      → Tallied k (kind_step κ) t t'
  by_kind κ {vertices = vertices} w e s =
      let n = corners κ in
      let step = λ (vertices : List (List ℤ)) (cells fines : List (List ℕ)) (a f : ℕ) (t : Tally). table_step n (dimension κ) (weight_rows κ) vertices cells (cut n fines) a f t in
      tallied_by (kind_step κ) (λ a f h t.
      ap (λ (rows : List (List ℕ)). table_step n (dimension κ) rows vertices (cut n (table m κ)) (cut n (cut n (table fine κ))) a f t) w
      ∙ ap (λ (vertices : List (List ℤ)). step vertices (cut n (table m κ)) (cut n (table fine κ)) a f t) e
      ∙ ap (λ (cells : List (List ℕ)). step (cut 3 m.vertices) cells (cut n (table fine κ)) a f t) (sym (cells_cut m κ))
      ∙ ap (λ (fines : List (List ℕ)). step (cut 3 m.vertices) (cells_of (topology m) κ) fines a f t) (fine_cut κ)
      ∙ table_is m r.sound κ a f h (dimension κ) t) s
