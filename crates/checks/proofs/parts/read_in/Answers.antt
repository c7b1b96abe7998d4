use Rattle.std.proofs.Common.{[], arith, get_or, refl}
use Rattle.std.proofs.lemmas.Grind.{common_steps}
use lib.ListN.{length-take, length-drop}
use lib.Seq.{ext_get_or}
use Rattle.checks.specs.Walk.{parts_in}
use Rattle.checks.proofs.WalkLaws.{length_part_in, located}
use Rattle.checks.proofs.parts.read_in.Goals as goal

pub offset_bounds-cell-place : goal.offset_bounds-cell-place
offset_bounds-cell-place g c =
    let a = located c.args.of c.args.cells.now c.args.i c.loop-j.j c.requires.i_in_bounds c.requires.size c.loop-j-test.true c.count-n.ensures c.cell_corners-k.ensures refl c.place.ensures in
    omega (arith, simp (length-take, length-drop) at a.within)

pub bounds-cell-place : goal.bounds-cell-place
bounds-cell-place g c =
    let a = located c.args.of c.args.cells.now c.args.i c.loop-j.j c.requires.i_in_bounds c.requires.size c.loop-j-test.true c.count-n.ensures c.cell_corners-k.ensures refl c.place.ensures in
    a.within

pub loop-j-preserved : goal.loop-j-preserved
loop-j-preserved g c =
    let a = located c.args.of c.args.cells.now c.args.i c.loop-j.j c.requires.i_in_bounds c.requires.size c.loop-j-test.true c.count-n.ensures c.cell_corners-k.ensures refl c.place.ensures in
    let l = c.loop-j.invariant.long in
    record {
      long = grind (arith, common_steps);
      so_far = λ q h. grind (arith, common_steps, a.is, c.loop-j.invariant.so_far q);
    }

pub returns : goal.returns
returns g c =
    ext_get_or 0 c.loop-j.corner-items (get_or (parts_in c.args.of c.args.cells.now) c.args.i [])
    (omega (arith, c.requires.size, length_part_in c.args.of c.args.cells.now c.args.i c.requires.i_in_bounds))
    (λ q h. c.loop-j.invariant.so_far q (omega arith))
