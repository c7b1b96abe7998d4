-- Too long, empty, or a stored mesh behind its rounds.
use Rattle.std.proofs.Common.{refl, sym, ◌∙◌}
use borrow.Author.Tests.{eqb-true, eqb-false}
use Rattle.lines.proofs.Runs.{print_front}
use Rattle.lines.proofs.Listed.{over_limit, no_byte, some_bytes}
use Rattle.lines.proofs.lines.Goals as goal
use Rattle.lines.proofs.lines.Goals.{then-input-gt-LIMIT, else-input-gt-LIMIT+then-is_empty, else-input-gt-LIMIT+else-is_empty}

pub returns : goal.returns
returns c =
    let input = c.args.input.now in
    elim c.if-input-gt-LIMIT.branch [
      | then-input-gt-LIMIT w ↦
          let p = print_front refl (rw w.from.ensures at w.push_refused_line.ensures) in
          rw (w.text-is, ← over_limit input w.if-input-gt-LIMIT.true) (record { count = p.count; output = p.output })
      | else-input-gt-LIMIT+then-is_empty w ↦
          let p = print_front refl (rw w.from-then-is_empty.ensures at w.push_refused_line-then-is_empty.ensures) in
          let empty = eqb-true _ _ (sym w.is_empty.ensures ∙ w.if-is_empty.true) in
          rw (w.text-is, ← no_byte input empty) (record { count = p.count; output = p.output })
      | else-input-gt-LIMIT+else-is_empty w ↦
          let p = print_front refl (rw w.from-else-is_empty.ensures at w.push_stored_lines.ensures) in
          let some = eqb-false _ _ (sym w.is_empty.ensures ∙ w.if-is_empty.false) in
          rw (w.text-is, ← some_bytes input w.if-input-gt-LIMIT.false some) (record { count = p.count; output = p.output })
    ]
