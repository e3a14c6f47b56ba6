-- `hear_lines`: what the rule says, worked out once, and then the pieces. Assumes nothing.
use Rattle.std.proofs.Common.{rules}
use Rattle.ways.specs.Ways.{few_ways}
use Rattle.text.specs.Number.{width_of}
use Rattle.course.proofs.CourseRight.{fitting_ready}
use Rattle.radio.proofs.Ending.{clean_ear, clean_clean, clean_fit, listened}
use Rattle.radio.proofs.hear_lines.Goals as goal

pub ways_of-ways-requires : goal.ways_of-ways-requires
ways_of-ways-requires c =
    let a = c.args in
    fitting_ready a.plant a.fair.now a.label.now a.next.now a.rule (search rules) c.requires.0

pub pieces-requires : goal.pieces-requires
pieces-requires c =
    let a = c.args in
    let ok = fitting_ready a.plant a.fair.now a.label.now a.next.now a.rule (search rules) c.requires.0 in
    (ok.labels, rw c.ways_of-ways.ensures (few_ways ok), clean_fit _ c.requires.1 c.clean-clean.ensures, clean_clean _ c.requires.1 c.clean-clean.ensures)

pub returns : goal.returns
returns c =
    let a = c.args in
    listened a.plant a.fair.now a.label.now a.next.now a.rule (search rules) a.radio c.requires.0
    c.ways_of-ways.ensures (width_of a.plant.props) c.clean-clean.result (clean_ear _ c.requires.1 c.clean-clean.ensures) a.scrap.now c.pieces.ensures
