-- `judge_both`: both runs at the last restart, and then the verdict.
use Rattle.text.specs.Number.{width_of}
use Rattle.event_log.specs.Read.{event_at, whole_lines}
use Rattle.neighbour.proofs.Cases.{both_by}
use Rattle.neighbour.proofs.judge_both.Goals as goal

pub returns : goal.returns
returns c = let a = c.args in both_by a.plant a.fair.now a.label.now a.next.now a.rule (event_at (width_of a.plant.props) a.log.now) (whole_lines (width_of a.plant.props) a.log.now) a.verdict a.report c.mark_of-mark.ensures c.look_at-first.ensures c.look_at-second.ensures c.decide.ensures
