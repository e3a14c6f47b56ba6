-- `event_log::read_lines`. The lines passed fit.
use Rattle.std.proofs.Common.{◌-◌, ◌≤◌, ◌≡◌, length}
use Rattle.text.specs.Lines.{line_start}
use Rattle.text.specs.LinesRead.{Fit}
use Rattle.event_log.specs.Line.{line, line_bytes}
use Rattle.event_log.proofs.read_lines.Given as goal

abbrev pub invariant-loop-at : goal.invariant-loop-at
invariant-loop-at l =
    (l.bytes ≡ line_bytes l.numbered l.width) × (l.at ≡ line_start (line_bytes l.numbered l.width) l.lines) × (l.at ≤ length l.text) × Fit (line l.numbered l.width) (line_bytes l.numbered l.width) l.text l.lines

abbrev pub decreases-loop-at : goal.decreases-loop-at
decreases-loop-at l = length l.text - l.at
