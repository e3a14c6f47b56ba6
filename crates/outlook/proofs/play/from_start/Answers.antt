-- `from_start`: the log may be followed from what was opened, and its lines' places are within it. Assumes nothing.
use Rattle.std.proofs.Common.{arith, rules}
use Rattle.text.specs.Number.{width_of}
use Rattle.event_log.specs.Read.{event_at, whole_lines}
use Rattle.course.specs.Lamps.{counted}
use Rattle.transcript.proofs.Cases.{fits_opened, done_few, line_inside}
use Rattle.outlook.proofs.play.from_start.Goals as goal

pub follow-went-requires : goal.follow-went-requires
follow-went-requires c = search (rules, fits_opened)

pub overflow_mul-offset : goal.overflow_mul-offset
overflow_mul-offset c =
    let a = c.args in
    let k = counted a.plant a.fair.now a.label.now a.next.now a.rule a.live c.open-opened.result.monitor (event_at (width_of a.plant.props) a.text.now) (whole_lines (width_of a.plant.props) a.text.now) in
    record { fits = omega (arith, line_inside a.plant.props a.text.now c.line_bytes.ensures (done_few k c.follow-went.ensures)) }
