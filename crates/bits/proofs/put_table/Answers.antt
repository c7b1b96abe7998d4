-- The entries are put one behind another (`Putting`), each as its field.
use Rattle.std.proofs.Common.{◌≡◌, map, length, get_or, sym, ap, ◌∙◌, arith, rules}
use Rattle.std.proofs.lemmas.List.{get_or-map, length-map}
use Rattle.bits.proofs.Waiting.{put_start, put_turn}
use Rattle.bits.proofs.Writing.{put_empty}
use Rattle.bits.proofs.put_table.Goals as goal

pub returns-then-is_empty : goal.returns-then-is_empty
returns-then-is_empty g c =
    let a = c.args in
    let f = g.T.Entry.field in
    let none : length a.t.now ≡ 0 = search rules in
    put_empty a.d.now f a.t.now a.at a.w none

pub loop-x-init : goal.loop-x-init
loop-x-init g c =
    let a = c.args in
    let e = c.before-p.ensures in
    put_start a.d.now a.at a.w (map g.T.Entry.field a.t.now) c.before-p.result e.0 e.1

pub loop-x-preserved : goal.loop-x-preserved
loop-x-preserved g c =
    let f = g.T.Entry.field in
    let t = c.args.t.now in
    let e = c.put-p.ensures in
    let entry : c.to_field.result ≡ get_or (map f t) c.loop-x.x-index 0 =
    c.to_field.ensures ∙ ap f c.x-item.is ∙ sym (get_or-map f t c.loop-x.x-index c.x-item.result 0 c.loop-x-test.true) in
    put_turn _ c.loop-x.invariant (omega (arith, length-map t f)) entry e.0 e.1 c.put-p.auto.d
