-- `turns`: line after line as the definition goes (`Gone`). Assumes nothing.
use Rattle.std.proofs.Common.{ℕ, ◌/◌, zero-le, sym, ap, ◌∙◌, div-le_self, arith, length}
use Rattle.course.proofs.TurnsLaws.{starts, goes_on, stops, accepted_number}
use Rattle.std.proofs.lemmas.Grind.{common_steps}
use Rattle.course.proofs.turns.Goals as goal

pub loop-n-init : goal.loop-n-init
loop-n-init c =
    let told = c.line_bytes in
    let long = length c.args.text.now in
    (zero-le, omega (arith, div-le_self long told.result), ap (λ (n : ℕ). long / n) told.ensures, starts _ _ _ _ _ _ _ _ _ _)

pub returns-in-Err : goal.returns-in-Err
returns-in-Err c =
    let inv = c.loop-n.invariant in
    stops _ _ _ _ _ _ _ _ _ _ inv.3 c.event_at-event.ensures _ (sym c.check_event.ensures ∙ c.in-Err.is) (omega (arith, c.loop-n-test.true, inv.2))

pub take_lent-number-requires : goal.take_lent-number-requires
take_lent-number-requires c =
    let start = c.before.before in
    (start.requires.0, start.requires.1, accepted_number _ _ _ _ (sym c.check_event.ensures ∙ c.in_default.is))

pub loop-n-preserved : goal.loop-n-preserved
loop-n-preserved c = grind (arith, common_steps, goes_on)
