-- `note_log`: line after line as the definition goes (`Gone`). Assumes nothing.
use Rattle.std.proofs.Common.{◌^◌, ◌≤◌, ◌<◌, ◌≡◌}
use Rattle.text.specs.Number.{width_of}
use Rattle.event_log.specs.Read.{event_at, whole_lines}
use Rattle.day_sheet.specs.Calls.{noted_of}
use Rattle.day_log.specs.Turns.{Gone}
use Rattle.day_log.proofs.note_log.Given as goal

abbrev pub invariant-loop-n : goal.invariant-loop-n
invariant-loop-n l =
    (l.n ≤ l.lines) × (l.lines < 2 ^ 64) × (l.lines ≡ whole_lines (width_of l.plant.props) l.text)
    × Gone (noted_of l.plant l.fair l.label l.next l.rule l.live) l.initial.now l.initial.day (event_at (width_of l.plant.props) l.text) l.n l.now l.day
