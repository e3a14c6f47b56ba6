-- `open`: the checks, and then the monitor with its lamp. Assumes nothing.
use Rattle.std.proofs.Common.{ap, Ok, rules}
use Rattle.checks.proofs.Given.{ready}
use Rattle.monitor.proofs.Words.{words_of}
use Rattle.monitor.proofs.Given.{open_input, not_opened, is_opened}
use Rattle.monitor.proofs.open.Goals as goal

pub opened-monitor-requires : goal.opened-monitor-requires
opened-monitor-requires c =
    let a = c.args in
    ready (open_input a.plant a.fair.now a.label.now a.next.now a.rule (search rules)
    a.live (words_of a.live.words c.well_formed.1.1.1.1.1.0.1.1.0) c.check_held.ensures c.in-Ok.is)

pub returns-in-Err : goal.returns-in-Err
returns-in-Err c =
    let a = c.args in
    not_opened a.plant a.fair.now a.label.now a.next.now a.rule (search rules)
    a.live (words_of a.live.words c.well_formed.1.1.1.1.1.0.1.1.0) c.check_held.ensures c.in-Err.is

pub returns-in-Ok : goal.returns-in-Ok
returns-in-Ok c =
    let a = c.args in
    is_opened a.plant a.fair.now a.label.now a.next.now a.rule (search rules)
    a.live (words_of a.live.words c.well_formed.1.1.1.1.1.0.1.1.0) c.check_held.ensures c.in-Ok.is c.opened-monitor.ensures (ap Ok c.lamp.ensures)
