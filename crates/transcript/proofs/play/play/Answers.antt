-- `play`: prepared, and then from the start. Assumes nothing.
use Rattle.live.specs.declared.Prepared.{Prepared}
use Rattle.monitor.specs.Calls.{open_call}
use Rattle.course.specs.Course.{course_of}
use Rattle.text.specs.Number.{width_of}
use Rattle.event_log.specs.Read.{bytes_in}
use Rattle.transcript.specs.Said.{opened_text, played_text}
use Rattle.transcript.proofs.Cases.{refused_said, accepted_said}
use Rattle.transcript.proofs.play.play.Goals as goal

pub returns-in-Err : goal.returns-in-Err
unfolding played_text
returns-in-Err c =
    let a = c.args in
    refused_said (λ (r : Prepared). r.outcome)
    (λ (r : Prepared). opened_text (bytes_in (width_of a.plant.props) a.log.now) (open_call a.plant a.fair.now a.label.now a.next.now a.rule r.live).answer
    (course_of a.plant a.fair.now a.label.now a.next.now a.rule r.live (open_call a.plant a.fair.now a.label.now a.next.now a.rule r.live).monitor a.log.now))
    c.prepare-prepared.ensures c.in-Err.is c.put_refused.ensures

pub returns : goal.returns
unfolding played_text
returns c =
    let a = c.args in
    accepted_said (λ (r : Prepared). r.outcome)
    (λ (r : Prepared). opened_text (bytes_in (width_of a.plant.props) a.log.now) (open_call a.plant a.fair.now a.label.now a.next.now a.rule r.live).answer
    (course_of a.plant a.fair.now a.label.now a.next.now a.rule r.live (open_call a.plant a.fair.now a.label.now a.next.now a.rule r.live).monitor a.log.now))
    c.prepare-prepared.ensures c.in_default.is c.from_start.ensures
