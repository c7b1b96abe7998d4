-- Vertex v is the one of that number.
use Rattle.std.proofs.Common.{◌≡◌, ℕ, ◌/◌, ◌<◌, ◌∙◌, length, get_or}
use Rattle.std.proofs.Math.Nat.{zero-add}
use Rattle.rules.specs.Lists.{up_from}
use Rattle.rules.specs.Mesh.{topology}
use Rattle.rules.specs.Listing.{vertex_line}
use Rattle.tables.specs.Lent.{mesh_in}
use Rattle.lists.proofs.Membership.{length_up_from, get_or_up_from}
use Rattle.lines.proofs.Runs.{print_start, print_room, print_turn, print_end}
use Rattle.lines.proofs.rows.push_vertex_lines.Goals as goal

numbered : (n v : ℕ) → v < n → get_or (up_from 0 n) v 0 ≡ v
numbered n v h = get_or_up_from 0 n v 0 h ∙ zero-add v

listed : (n v : ℕ) → v < n → v < length (up_from 0 n)
listed n v h = rw (length_up_from 0 n) h

pub loop-v-init : goal.loop-v-init
loop-v-init c = let m = mesh_in c.args.fitting.tables in print_start (vertex_line m (topology m)) (up_from 0 (length m.vertices / 3)) _

pub push_vertex_line-requires-clause-room : goal.push_vertex_line-requires-clause-room
push_vertex_line-requires-clause-room c =
    let m = mesh_in c.args.fitting.tables in
    let n = length m.vertices / 3 in
    let h = c.loop-v-test.true in
    rw (numbered n c.loop-v.v h) at (print_room (vertex_line m (topology m)) (up_from 0 n) c.loop-v.v c.loop-v.invariant (listed n c.loop-v.v h) 0 c.requires)

pub loop-v-preserved : goal.loop-v-preserved
loop-v-preserved c =
    let m = mesh_in c.args.fitting.tables in
    let n = length m.vertices / 3 in
    let h = c.loop-v-test.true in
    print_turn (vertex_line m (topology m)) (up_from 0 n) c.loop-v.v c.loop-v.invariant (listed n c.loop-v.v h) 0
    (rw (numbered n c.loop-v.v h) c.push_vertex_line.ensures)

pub returns : goal.returns
returns c =
    let m = mesh_in c.args.fitting.tables in
    let n = length m.vertices / 3 in
    print_end (vertex_line m (topology m)) (up_from 0 n) c.loop-v.v c.loop-v.invariant (rw (length_up_from 0 n) c.loop-v-test.false)
