-- `behind::unseen`: as many events noted as turns were gone. Assumes nothing.
use Rattle.day_sheet.specs.Code.{unseen_none, unseen_turn, sheet_none, sheet_turn}
use Rattle.day_sheet.proofs.behind.unseen.Goals as goal

pub loop-k-init : goal.loop-k-init
loop-k-init c = (unseen_none _ _ _ _ _, sheet_none _ _ _ _ _ _ _)

pub loop-k-preserved : goal.loop-k-preserved
loop-k-preserved c =
    let inv = c.loop-k.invariant in
    let now = unseen_turn _ _ _ _ _ c.loop-k.k inv.0 c.advance-now.ensures in
    (now, sheet_turn _ _ _ _ _ _ _ c.loop-k.k inv.1 now c.lamp.ensures c.noted-day.ensures)
