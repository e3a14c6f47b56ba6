-- `prepare`: the checks, and behind them the live set.
use Rattle.std.proofs.Common.{rules}
use Rattle.checks.proofs.Given.{accepted}
use Rattle.live.proofs.Given.{in_order, refused, prepared}
use Rattle.live.proofs.prepare.Goals as goal

pub live_pairs-requires : goal.live_pairs-requires
live_pairs-requires c =
    let a = c.args in
    in_order a.plant a.fair.now a.label.now a.next.now a.rule
    (accepted a.plant a.fair.now a.label.now a.next.now a.rule (search rules)
    c.check_input-outcome.ensures c.in-Ok.is)

pub returns-in-Err : goal.returns-in-Err
returns-in-Err c =
    let a = c.args in
    refused a.plant a.fair.now a.label.now a.next.now a.rule c.check_input-outcome.ensures c.in-Err.is c.empty.ensures

pub returns-in-Ok : goal.returns-in-Ok
returns-in-Ok c =
    let a = c.args in
    prepared a.plant a.fair.now a.label.now a.next.now a.rule (search rules)
    c.check_input-outcome.ensures c.in-Ok.is c.live_pairs.ensures
