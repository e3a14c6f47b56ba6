-- `turns`: event after event as the definition goes (`Gone`). Assumes nothing.
use Rattle.std.proofs.Common.{refl, arith}
use Rattle.machine_events.specs.Turns.{found_of, starts, goes_on, stops}
use Rattle.machine_events.proofs.turns.Goals as goal

pub loop-n-init : goal.loop-n-init
loop-n-init c = starts _ _ _ _ _

pub returns-in-Err : goal.returns-in-Err
returns-in-Err c =
    let loop = c.loop-n in
    let a = c.args in
    stops _ _ _ _ _ loop.invariant _ (found_of a.machine.now a.props a.events.now loop.n loop.at c.event_of.ensures c.look_in.ensures c.in-Err.is) (omega arith)

pub loop-n-preserved : goal.loop-n-preserved
loop-n-preserved c =
    let loop = c.loop-n in
    let a = c.args in
    goes_on _ _ _ _ _ loop.invariant (found_of a.machine.now a.props a.events.now loop.n loop.at c.event_of.ensures c.look_in.ensures c.in-Ok.is) (omega (arith, c.requires.1)) refl refl
