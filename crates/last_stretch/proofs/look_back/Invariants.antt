-- `stretch::look_back`: from the last line back to where the stretch begins (`Looked`). Assumes nothing.
use Rattle.std.proofs.Common.{◌≡◌, true}
use Rattle.text.specs.Number.{width_of}
use Rattle.event_log.specs.Read.{event_at, whole_lines}
use Rattle.last_stretch.proofs.Turns.{Looked}
use Rattle.last_stretch.proofs.look_back.Given as goal

abbrev pub invariant-loop-line : goal.invariant-loop-line
invariant-loop-line l =
    (l.lines ≡ whole_lines (width_of l.props) l.log) × Looked l.rule l.used (event_at (width_of l.props) l.log) l.lines l.back l.line × (l.back.going ≡ true)
