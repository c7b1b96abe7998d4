-- The front of the output tables is copied to the working tables, and refined from there.
use Rattle.std.proofs.Common.{◌≡◌, sym, ap, subst, ◌∙◌}
use Rattle.rules.specs.Mesh.{Mesh}
use Rattle.rules.specs.EntryPoints.{result_tables}
use Rattle.rules.specs.Averaging.{round}
use Rattle.tables.specs.Lent.{mesh_in, mesh_at, Fits, Room as CountsRoom}
use Rattle.rounds.specs.Front.{sized_front}
use Rattle.rounds.specs.Ready.{Ready}
use Rattle.rounds.proofs.Fronts.{room_copied}
use Rattle.rounds.proofs.Narrowed.{narrow, fronted, refronted, room_by_counts, front_fits}
use Rattle.rounds.proofs.turn.turn.Goals as goal

pub counts_in-counts-requires : goal.counts_in-counts-requires
counts_in-counts-requires c = narrow c.requires.ready.1

pub front-requires : goal.front-requires
front-requires c =
    subst (λ (m : Mesh). CountsRoom c.counts_in-counts.result m) (sym c.as_mesh.ensures)
    (room_by_counts _ _ c.counts_in-counts.ensures _ c.requires.ready.0)

pub copy_from-requires : goal.copy_from-requires
copy_from-requires c =
    subst (λ (m : Mesh). Fits m (mesh_at c.args.working.now))
    (sym (fronted c.args.sizes c.counts_in-counts.result c.counts_in-counts.ensures c.front.ensures c.as_mesh.ensures))
    (front_fits c.args.sizes (mesh_at c.args.output.now) _ c.requires.room)

pub front-requires-2 : goal.front-requires-2
front-requires-2 c =
    let s = c.args.sizes in
    let out = mesh_at c.args.output.now in
    let work = mesh_at c.args.working.now in
    let e = fronted s c.counts_in-counts.result c.counts_in-counts.ensures c.front.ensures c.as_mesh.ensures in
    let copied : mesh_in c.as_mesh-2.result ≡ result_tables 0 work (sized_front s out) = c.as_mesh-2.ensures ∙ c.copy_from.ensures.after ∙ ap (result_tables 0 work) e in
    subst (λ (m : Mesh). CountsRoom c.counts_in-counts.result m) (sym copied)
    (room_by_counts s _ c.counts_in-counts.ensures _ (room_copied s work out c.requires.room))

pub round_tables-requires : goal.round_tables-requires
round_tables-requires c =
    let a = c.args in
    let e = refronted a.sizes c.counts_in-counts.result c.counts_in-counts.ensures (mesh_at a.output.now) (mesh_at a.working.now) c.requires.ready.0 c.front.ensures c.as_mesh.ensures c.copy_from.ensures.after c.front-2.ensures c.as_mesh-2.ensures in
    subst (λ (m : Mesh). Ready m a.sizes (mesh_at a.output.now) a.numbers.now.words.now a.numbers.now.longs.now) (sym e) c.requires.ready.1

pub returns-clause-refined : goal.returns-clause-refined
returns-clause-refined c =
    let a = c.args in
    let e = refronted a.sizes c.counts_in-counts.result c.counts_in-counts.ensures (mesh_at a.output.now) (mesh_at a.working.now) c.requires.ready.0 c.front.ensures c.as_mesh.ensures c.copy_from.ensures.after c.front-2.ensures c.as_mesh-2.ensures in
    c.round_tables.ensures.refined ∙ ap (λ (m : Mesh). result_tables 0 (mesh_at a.output.now) (round m)) e
