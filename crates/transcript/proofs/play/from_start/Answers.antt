-- `from_start`: the lamp at the start, and the log's behind it. Assumes nothing.
use Rattle.std.proofs.Common.{rules}
use Rattle.sides.specs.declared.Monitor.{Monitor}
use Rattle.course.specs.Course.{course_of}
use Rattle.text.specs.Number.{width_of}
use Rattle.event_log.specs.Read.{bytes_in}
use Rattle.report.proofs.Puts.{put_length}
use Rattle.transcript.proofs.Cases.{opened_said, fits_opened}
use Rattle.transcript.proofs.play.from_start.Goals as goal

pub behind_start-requires : goal.behind_start-requires
behind_start-requires c = search (rules, put_length, fits_opened)

pub returns-in-Ok : goal.returns-in-Ok
returns-in-Ok c =
    let a = c.args in
    opened_said (bytes_in (width_of a.plant.props) a.log.now) (λ (m : Monitor). course_of a.plant a.fair.now a.label.now a.next.now a.rule a.live m a.log.now) c.open-opened.ensures
    c.in-Ok.is c.put_start-at.ensures.text
    c.behind_start.ensures
