-- `report::run::put_states` meets its contract: state by state (`put_more`).
-- Assumes nothing.
use Rattle.std.proofs.Common.{arith}
use Rattle.report.proofs.Puts.{put_none, put_more}
use Rattle.report.proofs.run.put_states.Goals as goal

pub loop-i-init : goal.loop-i-init
loop-i-init c = (omega arith, put_none _ _ _ (omega arith))

pub loop-i-preserved : goal.loop-i-preserved
loop-i-preserved c =
    (omega (arith, c.loop-i.invariant.0, c.put_state-end.ensures.bound), put_more _ _ c.loop-i.invariant.1 c.put_state-end.ensures.text)
