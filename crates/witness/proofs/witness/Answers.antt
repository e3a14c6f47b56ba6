-- `witness`: the checks in turn, and behind them the run.
use Rattle.std.proofs.Common.{rules}
use Rattle.witness.proofs.Given.{not_asked, in_order, answered}
use Rattle.witness.proofs.witness.Goals as goal

pub write_run-requires : goal.write_run-requires
write_run-requires c =
    let a = c.args in
    in_order a.plant a.fair.now a.label.now a.next.now a.rule a.monitor (search rules) a.keeps a.buffer.now
    c.check_asked.ensures c.in_ok-check_asked.was

pub returns-in_err-check_asked : goal.returns-in_err-check_asked
returns-in_err-check_asked c =
    let a = c.args in
    let refused =
    not_asked a.plant a.fair.now a.label.now a.next.now a.rule a.monitor (search rules) a.keeps a.buffer.now
    c.check_asked.ensures c.in_err-check_asked.was in
    search rules

pub returns : goal.returns
returns c =
    let a = c.args in
    answered a.plant a.fair.now a.label.now a.next.now a.rule a.monitor (search rules) a.keeps a.buffer.now
    c.check_asked.ensures c.in_ok-check_asked.was _ _ c.side-asked.ensures c.write_run.ensures
