-- `legs::write_leg`: the way down to y is written, and the rank of y is what is left of it.
use Rattle.std.proofs.Common.{arith}
use Rattle.walk.specs.Written.{written_start, written_on}
use Rattle.walk.proofs.legs.write_leg.Goals as goal

pub loop-y-init : goal.loop-y-init
loop-y-init c =
    let p = c.requires in
    (p.count_bound.1, p.inside, written_start _ _ p.inside, omega arith)

pub loop-y-preserved : goal.loop-y-preserved
loop-y-preserved c =
    let i = c.loop-y.invariant in
    let d = c.downhill-y.ensures in
    (d.small, d.inside, written_on i.2 d.moves d.inside (omega (arith, i.2.size, i.3, c.requires.count_bound.2, d.less)), omega (arith, d.less, i.3))
