-- `at_end`: by the edition. Assumes nothing.
use Rattle.text.specs.Number.{width_of}
use Rattle.event_log.specs.Read.{event_at, whole_lines}
use Rattle.closing.proofs.Cases.{by_first, by_second, by_none}
use Rattle.closing.proofs.at_end.Goals as goal

pub returns-then-edition-eq1 : goal.returns-then-edition-eq1
returns-then-edition-eq1 c =
    let a = c.args in
    by_first a.rule (event_at (width_of a.props) a.log.now) (whole_lines (width_of a.props) a.log.now) a.last a.edition c.lamp-verdict.ensures c.if-edition-eq1.true c.of.ensures

pub returns-then-edition-eq2 : goal.returns-then-edition-eq2
returns-then-edition-eq2 c =
    let a = c.args in
    by_second a.rule (event_at (width_of a.props) a.log.now) (whole_lines (width_of a.props) a.log.now) a.last a.edition c.lamp-verdict.ensures c.if-edition-eq2.true c.second.ensures

pub returns : goal.returns
returns c =
    let a = c.args in
    by_none a.rule (event_at (width_of a.props) a.log.now) (whole_lines (width_of a.props) a.log.now) a.last a.edition c.lamp-verdict.ensures c.if-edition-eq1.false c.if-edition-eq2.false c.at.ensures
