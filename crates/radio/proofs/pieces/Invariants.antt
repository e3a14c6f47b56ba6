-- `pieces`: piece after piece as the definition goes (`Going`). Assumes nothing.
use Rattle.std.proofs.Common.{◌-◌, length}
use Rattle.text.specs.Number.{width_of, width_between}
use Rattle.course.specs.Course.{turn}
use Rattle.radio.proofs.Turning.{Going}
use Rattle.radio.proofs.pieces.Given as goal

abbrev pub invariant-loop-at : goal.invariant-loop-at
invariant-loop-at l =
    Going (width_of l.plant.props) (turn l.plant l.label l.next l.ways l.live) (width_between l.plant.props).1 l.initial.now l.scrap l.initial.verdicts l.now l.at l.done l.verdicts

abbrev pub decreases-loop-at : goal.decreases-loop-at
decreases-loop-at l = length l.scrap - l.at
