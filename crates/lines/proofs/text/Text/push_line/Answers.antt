-- The word, a field for each number, the line feed.
use Rattle.lines.proofs.Runs.{◌then◌, room_first, room_rest, print_start, print_room, print_turn, print_end}
use Rattle.lines.proofs.Fields.{field, line_runs}
use Rattle.lines.proofs.text.Text.push_line.Goals as goal

pub push_word-requires : goal.push_word-requires
push_word-requires g c = room_first _ _ (rw (line_runs g.I.Integer.text c.args.word.now c.args.numbers.now) at c.requires)

pub loop-number-init : goal.loop-number-init
loop-number-init g c = print_start (field g.I.Integer.text) c.args.numbers.now _

pub push_field-requires : goal.push_field-requires
push_field-requires g c =
    let print = g.I.Integer.text in
    let ns = c.args.numbers.now in
    let room = room_first _ _ (room_rest _ c.push_word.ensures (rw (line_runs print c.args.word.now ns) at c.requires)) in
    rw c.number-item.is (print_room (field print) ns c.loop-number.number-index c.loop-number.invariant c.loop-number-test.true c.number-item.result room)

pub loop-number-preserved : goal.loop-number-preserved
loop-number-preserved g c =
    print_turn (field g.I.Integer.text) c.args.numbers.now c.loop-number.number-index c.loop-number.invariant c.loop-number-test.true c.number-item.result
    (rw c.number-item.is at c.push_field.ensures)

pub push_byte-requires : goal.push_byte-requires
push_byte-requires g c =
    let print = g.I.Integer.text in
    let ns = c.args.numbers.now in
    room_rest _ (print_end (field print) ns _ c.loop-number.invariant c.loop-number-test.false)
    (room_rest _ c.push_word.ensures (rw (line_runs print c.args.word.now ns) at c.requires))

pub returns : goal.returns
returns g c =
    let print = g.I.Integer.text in
    let ns = c.args.numbers.now in
    rw (line_runs print c.args.word.now ns)
    (c.push_word.ensures then (print_end (field print) ns _ c.loop-number.invariant c.loop-number-test.false) then c.push_byte.ensures)
