-- `report::run::put_state` meets its contract: a number, or a comma and a number (`puts`); at most four bytes (`short_state`).
-- Assumes nothing.
use Rattle.std.proofs.Common.{arith, true, false}
use Rattle.report.proofs.Puts.{puts}
use Rattle.report.proofs.Places.{short_state}
use Rattle.report.proofs.run.put_state.Goals as goal

pub returns-then-first : goal.returns-then-first
returns-then-first c =
    let text = rw c.from.ensures at c.put_decimal.ensures.text in
    rw c.if-first.true (record { text = text; bound = omega (arith, text.len, short_state true c.args.state c.ranges.state.fits) })

pub returns : goal.returns
returns c =
    let text = puts c.put_text-behind.ensures (rw c.from-2.ensures at c.put_decimal-2.ensures.text) in
    rw c.if-first.false (record { text = text; bound = omega (arith, text.len, short_state false c.args.state c.ranges.state.fits) })
