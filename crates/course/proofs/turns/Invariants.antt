-- `turns`: line after line as the definition goes (`Gone`). Assumes nothing.
use Rattle.std.proofs.Common.{◌-◌, ◌^◌, ◌≤◌, ◌<◌, ◌≡◌}
use Rattle.text.specs.Number.{width_of}
use Rattle.event_log.specs.Read.{whole_lines}
use Rattle.course.proofs.TurnsLaws.{Gone}
use Rattle.course.proofs.turns.Given as goal

abbrev pub invariant-loop-n : goal.invariant-loop-n
invariant-loop-n l =
    (l.n ≤ l.lines) × (l.lines < 2 ^ 64) × (l.lines ≡ whole_lines (width_of l.plant.props) l.text)
    × Gone l.plant l.label l.next l.ways l.live l.fn.monitor l.text l.initial.verdicts l.initial.lefts l.initial.numbers l.n l.now l.verdicts l.lefts l.numbers

abbrev pub decreases-loop-n : goal.decreases-loop-n
decreases-loop-n l = l.lines - l.n
