-- Each return is a case of the header's checks, by the fields that are read.
use mathlib.Core.Path.{sym, ap, ◌∙◌}
use Rattle.std.specs.Prelude.{Ok}
use Rattle.rules.specs.declared.Counts.{Counts}
use Rattle.rules.specs.Answers.{counts_answer_of}
use Rattle.rules.specs.Counts.{out_of_range}
use Rattle.stored.proofs.HeaderChecks.{counts_same, header_short, header_form, header_range, header_passed}
use Rattle.stored.proofs.header.read_counts.Goals as goal

pub returns-then-s-lt-HEADER_BYTES : goal.returns-then-s-lt-HEADER_BYTES
returns-then-s-lt-HEADER_BYTES c = header_short c.args.s.now c.if-s-lt-HEADER_BYTES.true

pub returns-then-form-ne1 : goal.returns-then-form-ne1
returns-then-form-ne1 c =
    header_form c.args.s.now c.if-s-lt-HEADER_BYTES.false (λ e. c.if-form-ne1.true (c.get_field-form.ensures ∙ e))

pub returns-then-out_of_range : goal.returns-then-out_of_range
returns-then-out_of_range c =
    let s = c.args.s.now in
    let same = counts_same s c.get_field.ensures c.get_field-2.ensures c.get_field-3.ensures c.get_field-4.ensures c.get_field-5.ensures in
    header_range s c.if-s-lt-HEADER_BYTES.false (sym c.get_field-form.ensures ∙ c.if-form-ne1.false)
    (ap out_of_range (sym (c.from.ensures.0 ∙ same)) ∙ sym c.out_of_range.ensures ∙ c.if-out_of_range.true)

pub returns : goal.returns
returns c =
    let s = c.args.s.now in
    let same = counts_same s c.get_field.ensures c.get_field-2.ensures c.get_field-3.ensures c.get_field-4.ensures c.get_field-5.ensures in
    ap (λ (x : Counts). counts_answer_of (Ok x)) same
    ∙ header_passed s c.if-s-lt-HEADER_BYTES.false (sym c.get_field-form.ensures ∙ c.if-form-ne1.false)
    (ap out_of_range (sym (c.from.ensures.0 ∙ same)) ∙ sym c.out_of_range.ensures ∙ c.if-out_of_range.false)
