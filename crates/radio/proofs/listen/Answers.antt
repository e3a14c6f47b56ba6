-- `listen`: a scrap that ends no line is one piece, and any other is heard by its lines. Assumes nothing.
use Rattle.std.proofs.Common.{◌<◌, rules, length}
use Rattle.text.specs.Number.{width_of, width_between}
use Rattle.monitor.specs.Calls.{step_call}
use Rattle.radio.proofs.Ending.{clean_fit}
use Rattle.radio.proofs.Quiet.{quiet_none, quiet_piece}
use Rattle.radio.proofs.listen.Goals as goal

pub returns-then-is_empty : goal.returns-then-is_empty
returns-then-is_empty c =
    let a = c.args in
    quiet_none (width_of a.plant.props) (step_call a.plant a.fair.now a.label.now a.next.now a.rule a.live) (width_between a.plant.props).1 a.scrap.now
    c.requires.1 c.clean-clean.ensures a.verdicts.now (search rules)

pub piece-first-requires : goal.piece-first-requires
piece-first-requires c =
    let some : 0 < length c.args.scrap.now = search rules in
    (clean_fit _ c.requires.1 c.clean-clean.ensures, some)

pub returns : goal.returns
returns c =
    let a = c.args in
    let some : 0 < length a.scrap.now = search rules in
    quiet_piece (width_of a.plant.props) (step_call a.plant a.fair.now a.label.now a.next.now a.rule a.live) (width_between a.plant.props).1 a.scrap.now
    c.requires.1 c.clean-clean.ensures a.verdicts.now some c.piece-first.ensures c.if-first-scrap.false
