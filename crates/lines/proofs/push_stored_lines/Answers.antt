-- The lines of the refusal, or of the refined mesh.
use Rattle.std.proofs.Common.{ℕ, List, refl, sym, ap, ◌∙◌, subst}
use Rattle.rules.specs.Mesh.{Mesh}
use Rattle.rules.specs.Listing.{mesh_lines}
use Rattle.plan.proofs.Refusals.{not_zero}
use Rattle.fixed.proofs.Finished.{refining, refining_accepted, finished_mesh, finished_room}
use Rattle.lines.specs.Appended.{Printed}
use Rattle.lines.specs.Fitting.{Fitting}
use Rattle.lines.proofs.Listed.{listed_refused, listed_accepted, finished_fits}
use Rattle.lines.proofs.push_stored_lines.Goals as goal

pub refine_stored-requires : goal.refine_stored-requires
refine_stored-requires c = c.lend-tables.ensures.sizes

pub front-requires : goal.front-requires
front-requires c = let r = c.in-Ok.ensures in finished_room (refining r.answer r.output) refl c.as_mesh.ensures

pub invariant_of-finished : goal.invariant_of-finished
invariant_of-finished c =
    let r = c.in-Ok.ensures in
    let d = refining r.answer r.output in
    record { fits = subst (λ (m : Mesh). Fitting m) (sym (finished_mesh d refl c.as_mesh.ensures c.front.ensures)) (finished_fits _ _ (refining_accepted d refl)) }

pub returns-in-Ok : goal.returns-in-Ok
returns-in-Ok c =
    let r = c.in-Ok.ensures in
    let d = refining r.answer r.output in
    subst (λ (bytes : List ℕ). Printed c.args.out.now c.push_mesh_lines.new.out bytes)
    (ap mesh_lines (finished_mesh d refl c.as_mesh.ensures c.front.ensures) ∙ listed_accepted d refl) c.push_mesh_lines.ensures

pub returns-in-Err : goal.returns-in-Err
returns-in-Err c =
    let r = c.in-Err.ensures in
    subst (λ (bytes : List ℕ). Printed c.args.out.now c.push_refused_line.new.out bytes)
    (listed_refused (refining r.answer r.output) (not_zero _)) (rw c.from.ensures at c.push_refused_line.ensures)
