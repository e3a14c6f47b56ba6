-- `put_lamps`: line by line. Assumes nothing.
use Rattle.std.proofs.Common.{arith}
use Rattle.lamp_lines.proofs.Putting.{none_put, more_put}
use Rattle.lamp_lines.proofs.put_lamps.Goals as goal

pub loop-n-init : goal.loop-n-init
loop-n-init c = (omega arith, none_put _ _ _ _ _ (omega (arith, c.requires.3)))

pub loop-n-preserved : goal.loop-n-preserved
loop-n-preserved c =
    let inv = c.loop-n.invariant in
    (omega (arith, inv.0, c.put_lamp-end.ensures.bound), more_put _ _ _ _ inv.1 c.put_lamp-end.ensures.text)
