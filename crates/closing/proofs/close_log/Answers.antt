-- `close_log`: where the log ends, and then the edition. Assumes nothing.
use Rattle.std.proofs.Common.{refl}
use Rattle.controller.proofs.Cases.{end_short}
use Rattle.closing.proofs.Cases.{end_closed}
use Rattle.closing.proofs.close_log.Goals as goal

pub at_end-requires : goal.at_end-requires
at_end-requires c =
    let a = c.args in
    end_short a.table.now a.rule.now a.log.now c.to_end-end.ensures

pub returns-in-Refused : goal.returns-in-Refused
returns-in-Refused c =
    let a = c.args in
    end_closed a.table.now a.rule.now a.log.now a.edition c.to_end-end.ensures c.in-Refused.is refl

pub returns-in-Stopped : goal.returns-in-Stopped
returns-in-Stopped c =
    let a = c.args in
    end_closed a.table.now a.rule.now a.log.now a.edition c.to_end-end.ensures c.in-Stopped.is refl

pub returns-in-Watched : goal.returns-in-Watched
returns-in-Watched c =
    let a = c.args in
    end_closed a.table.now a.rule.now a.log.now a.edition c.to_end-end.ensures c.in-Watched.is c.at_end.ensures
