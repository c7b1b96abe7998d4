-- The refusals one after the other, and the sizes of a mesh that passes.
use Rattle.std.proofs.Common.{sym, subst, ◌^◌, ◌∙◌}
use Rattle.std.proofs.lemmas.Result.{err_from_is_err_and}
use Rattle.rules.specs.declared.Sizes.{Sizes}
use Rattle.soundness.proofs.Checks.{checks_accept, no_repeated_corner, no_duplicate_cell}
use Rattle.counting.specs.Bounded.{Bounded}
use Rattle.plan.proofs.Sizes.{accepted_bounded}
use Rattle.plan.proofs.Plans.{planned_mesh, planned_rounds, planned_large, planned}
use Rattle.plan.proofs.plan.Goals as goal

pub returns-in_err-faces : goal.returns-in_err-faces
returns-in_err-faces c =
    let p = err_from_is_err_and c.from_residual.result c.from_residual.ensures.1 in
    rw (p.1, p.2) (planned_mesh _ _ _ c.in_err-faces.ensures)

pub returns-then-rounds-gt8 : goal.returns-then-rounds-gt8
returns-then-rounds-gt8 c = planned_rounds _ _ (checks_accept _ c.in_ok-faces.ensures.0) c.if-rounds-gt8.true

pub mesh_sizes-start-requires-clause-no_repeated_corner : goal.mesh_sizes-start-requires-clause-no_repeated_corner
mesh_sizes-start-requires-clause-no_repeated_corner c = no_repeated_corner _ (checks_accept _ c.in_ok-faces.ensures.0).sound

pub mesh_sizes-start-requires-clause-no_duplicate_cell : goal.mesh_sizes-start-requires-clause-no_duplicate_cell
mesh_sizes-start-requires-clause-no_duplicate_cell c = no_duplicate_cell _ (checks_accept _ c.in_ok-faces.ensures.0).sound

pub sizes_after-finished-requires-clause-bounded : goal.sizes_after-finished-requires-clause-bounded
sizes_after-finished-requires-clause-bounded c =
    subst (λ (s : Sizes). Bounded (2 ^ 23) s) (sym c.mesh_sizes-start.ensures) (accepted_bounded _ (checks_accept _ c.in_ok-faces.ensures.0))

pub returns-then-out_of_range : goal.returns-then-out_of_range
returns-then-out_of_range c =
    planned_large _ _ (checks_accept _ c.in_ok-faces.ensures.0) c.if-rounds-gt8.false _ _ c.mesh_sizes-start.ensures c.sizes_after-finished.ensures
    (sym c.out_of_range.ensures ∙ c.if-out_of_range.true)

pub returns : goal.returns
returns c =
    planned _ _ (checks_accept _ c.in_ok-faces.ensures.0) c.if-rounds-gt8.false _ _ c.mesh_sizes-start.ensures c.sizes_after-finished.ensures
    (sym c.out_of_range.ensures ∙ c.if-out_of_range.false)
