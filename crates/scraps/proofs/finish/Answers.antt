-- `finish`: what is kept, and then whether a line is not whole. Assumes nothing.
use Rattle.std.proofs.Common.{sym, ◌∙◌, arith, rules}
use Rattle.scraps.specs.Laws.{few_taken, end_refused, end_whole, end_part}
use Rattle.scraps.proofs.finish.Goals as goal

pub returns-then-radio-eq0 : goal.returns-then-radio-eq0
returns-then-radio-eq0 c =
    let a = c.args in
    end_whole a.plant a.fair.now a.label.now a.next.now a.rule a.live a.radio c.check_kept.ensures c.in_ok-check_kept.was c.if-radio-eq0.true

pub overflow_add-radio : goal.overflow_add-radio
overflow_add-radio c =
    let a = c.args in
    record { fits = omega (arith, few_taken a.plant a.fair.now a.label.now a.next.now a.rule a.live a.radio (sym c.check_kept.ensures ∙ c.in_ok-check_kept.was)) }

pub returns-in_err-check_kept : goal.returns-in_err-check_kept
returns-in_err-check_kept c =
    let a = c.args in
    let refused =
    end_refused a.plant a.fair.now a.label.now a.next.now a.rule a.live a.radio c.check_kept.ensures c.in_err-check_kept.was in
    search rules

pub returns-else-radio-eq0 : goal.returns-else-radio-eq0
returns-else-radio-eq0 c =
    let a = c.args in
    end_part a.plant a.fair.now a.label.now a.next.now a.rule a.live a.radio c.check_kept.ensures c.in_ok-check_kept.was c.if-radio-eq0.false c.at.ensures
