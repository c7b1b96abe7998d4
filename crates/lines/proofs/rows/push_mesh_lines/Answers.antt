-- The output has room for the longest mesh.
use Rattle.std.proofs.Common.{arith}
use Rattle.rules.specs.Mesh.{topology}
use Rattle.rules.specs.Listing.{mesh_lines}
use Rattle.tables.specs.Lent.{mesh_in}
use Rattle.lines.proofs.Runs.{◌then◌, append_length}
use Rattle.lines.proofs.Longest.{first_length, vertices_length, cells_room}
use Rattle.lines.proofs.rows.push_mesh_lines.Goals as goal

pub push_mesh_line-requires : goal.push_mesh_line-requires
push_mesh_line-requires c = record { fits = omega (arith, first_length (mesh_in c.args.fitting.tables) c.args.fitting.fits) }

pub push_vertex_lines-requires : goal.push_vertex_lines-requires
push_vertex_lines-requires c =
    let m = mesh_in c.args.fitting.tables in
    let f = c.args.fitting.fits in
    record { fits = omega (arith, first_length m f, vertices_length m f, append_length c.push_mesh_line.ensures) }

pub push_cell_lines-requires : goal.push_cell_lines-requires
push_cell_lines-requires c =
    let room = cells_room _ c.args.fitting.fits c.requires c.push_mesh_line.ensures c.push_vertex_lines.ensures in
    omega (arith, room)

pub push_cell_lines-requires-2 : goal.push_cell_lines-requires-2
push_cell_lines-requires-2 c =
    let room = cells_room _ c.args.fitting.fits c.requires c.push_mesh_line.ensures c.push_vertex_lines.ensures in
    omega (arith, room, append_length c.push_cell_lines.ensures.lines)

pub push_cell_lines-requires-3 : goal.push_cell_lines-requires-3
push_cell_lines-requires-3 c =
    let room = cells_room _ c.args.fitting.fits c.requires c.push_mesh_line.ensures c.push_vertex_lines.ensures in
    omega (arith, room, append_length c.push_cell_lines.ensures.lines, append_length c.push_cell_lines-2.ensures.lines)

pub push_cell_lines-requires-4 : goal.push_cell_lines-requires-4
push_cell_lines-requires-4 c =
    let room = cells_room _ c.args.fitting.fits c.requires c.push_mesh_line.ensures c.push_vertex_lines.ensures in
    let all = c.push_cell_lines.ensures.lines then c.push_cell_lines-2.ensures.lines then c.push_cell_lines-3.ensures.lines in
    omega (arith, room, append_length all)

pub returns : goal.returns
unfolding mesh_lines topology
returns c =
    let m = mesh_in c.args.fitting.tables in
    let f = c.args.fitting.fits in
    let all = c.push_mesh_line.ensures then c.push_vertex_lines.ensures then c.push_cell_lines.ensures.lines then c.push_cell_lines-2.ensures.lines then c.push_cell_lines-3.ensures.lines then c.push_cell_lines-4.ensures.lines in
    record { room = record { fits = omega (arith, first_length m f, vertices_length m f, all.behind) }; appended = all }
