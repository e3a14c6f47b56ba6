-- `ended`: its event is refused, or taken. Assumes nothing.
use Rattle.std.proofs.Common.{sym, ◌∙◌}
use Rattle.course.proofs.TurnsLaws.{accepted_number}
use Rattle.radio.proofs.Ending.{end_refused, end_taken}
use Rattle.radio.proofs.ends.ended.Goals as goal

pub moved-now-requires : goal.moved-now-requires
moved-now-requires c =
    (c.requires.0, c.requires.1, accepted_number _ _ _ _ (sym c.check_event.ensures ∙ c.in-Ok.is))

pub returns-in-Err : goal.returns-in-Err
returns-in-Err c =
    end_refused c.args.plant _ _ _ _ _ _ _ c.args.radio _ c.event_at-event.ensures c.check_event.ensures c.in-Err.is c.at.ensures c.stopped.ensures

pub returns-in-Ok : goal.returns-in-Ok
returns-in-Ok c =
    end_taken c.args.plant _ _ _ _ _ _ _ c.args.radio _ c.event_at-event.ensures c.check_event.ensures c.in-Ok.is c.moved-now.ensures
    c.lamp-shown.ensures c.number.ensures c.form_of.ensures
