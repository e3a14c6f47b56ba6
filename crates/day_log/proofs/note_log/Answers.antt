-- `note_log`: line after line as the definition goes (`Gone`). Assumes nothing.
use Rattle.std.proofs.Common.{ℕ, ◌/◌, zero-le, ap, div-le_self, arith, length}
use Rattle.day_log.specs.Turns.{starts, goes_on, stops}
use Rattle.day_log.proofs.note_log.Goals as goal

pub loop-n-init : goal.loop-n-init
loop-n-init c =
    let told = c.line_bytes in
    let long = length c.args.text.now in
    (zero-le, omega (arith, div-le_self long told.result), ap (λ (n : ℕ). long / n) told.ensures, starts _ _ _ _)

pub returns-in-Err : goal.returns-in-Err
returns-in-Err c =
    let inv = c.loop-n.invariant in
    stops _ _ _ _ inv.3 c.event_at-event.ensures c.note-noted.ensures _ c.in-Err.is (omega (arith, c.loop-n-test.true, inv.2))

pub loop-n-preserved : goal.loop-n-preserved
loop-n-preserved c =
    let inv = c.loop-n.invariant in (
      omega (arith, c.loop-n-test.true),
      inv.1,
      inv.2,
      goes_on _ _ _ _ inv.3 c.event_at-event.ensures c.note-noted.ensures c.in-Ok.is,
    )
