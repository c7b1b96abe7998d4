-- Three tables, met one after the other (proofs/Round.antt), and the points.
use Rattle.std.proofs.Common.{sym, ap, ◌∙◌, arith}
use Rattle.rules.specs.Lists.{overwritten}
use Rattle.rules.specs.Mesh.{Mesh}
use Rattle.tables.specs.Lent.{mesh_in}
use Rattle.splitting.proofs.Fine.{points_split}
use Rattle.splitting.proofs.Round.{room_hexes, stored_hexes, room_quads, stored_quads, room_segments, stored_segments}
use Rattle.splitting.proofs.split.Goals as goal

pub split_cells-requires-clause-room : goal.split_cells-requires-clause-room
split_cells-requires-clause-room c = room_hexes c.requires.ready c.new-parts.ensures.none_met

pub split_cells-requires-2-clause-room : goal.split_cells-requires-2-clause-room
split_cells-requires-2-clause-room c = room_quads c.requires.ready c.new-parts.ensures.none_met c.split_cells.ensures.both_met

pub split_cells-requires-3-clause-room : goal.split_cells-requires-3-clause-room
split_cells-requires-3-clause-room c = room_segments c.requires.ready c.new-parts.ensures.none_met c.split_cells.ensures.both_met c.split_cells-2.ensures.both_met

pub returns-clause-out_hexes_after : goal.returns-clause-out_hexes_after
returns-clause-out_hexes_after c = stored_hexes c.requires.ready c.new-parts.ensures.none_met _ _ _ c.split_cells.ensures.table_split (omega arith)

pub returns-clause-out_quads_after : goal.returns-clause-out_quads_after
returns-clause-out_quads_after c =
    stored_quads c.requires.ready c.new-parts.ensures.none_met c.split_cells.ensures.both_met _ _ c.split_cells-2.ensures.table_split

pub returns-clause-out_segments_after : goal.returns-clause-out_segments_after
returns-clause-out_segments_after c =
    stored_segments c.requires.ready c.new-parts.ensures.none_met c.split_cells.ensures.both_met c.split_cells-2.ensures.both_met _ _
    c.split_cells-3.ensures.table_split

pub returns-clause-out_points_after : goal.returns-clause-out_points_after
returns-clause-out_points_after c =
    let x = c.args in
    let m : Mesh = mesh_in x.mesh in
    c.copy.ensures ∙ ap (overwritten x.out_points.now) (sym (points_split m c.requires.ready.sound))
