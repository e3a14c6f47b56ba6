-- `judge_runs`: where the log ends, and then the runs.
use Rattle.std.proofs.Common.{refl}
use Rattle.controller.proofs.Cases.{end_lent, end_short}
use Rattle.neighbour.proofs.Cases.{end_judged}
use Rattle.neighbour.proofs.judge_runs.Goals as goal

pub at_end-requires : goal.at_end-requires
at_end-requires c =
    let a = c.args in
    (end_lent a.table.now a.rule.now a.log.now c.to_end-end.ensures, end_short a.table.now a.rule.now a.log.now c.to_end-end.ensures, c.requires)

pub returns-in-Refused : goal.returns-in-Refused
returns-in-Refused c =
    let a = c.args in
    end_judged a.table.now a.rule.now a.log.now a.report c.to_end-end.ensures c.in-Refused.is refl

pub returns-in-Stopped : goal.returns-in-Stopped
returns-in-Stopped c =
    let a = c.args in
    end_judged a.table.now a.rule.now a.log.now a.report c.to_end-end.ensures c.in-Stopped.is refl

pub returns-in-Watched : goal.returns-in-Watched
returns-in-Watched c =
    let a = c.args in
    end_judged a.table.now a.rule.now a.log.now a.report c.to_end-end.ensures c.in-Watched.is c.at_end.ensures
