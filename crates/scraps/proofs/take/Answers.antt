-- `take`: the checks, and then the bytes. Assumes nothing.
use Rattle.std.proofs.Common.{rules, sym, ap, ◌∙◌, length}
use Rattle.course.specs.Laid.{laid}
use Rattle.scraps.specs.Calls.{Took}
use Rattle.scraps.specs.Laws.{take_parts, fitting, fit, took_none, took_some}
use Rattle.scraps.proofs.take.Goals as goal

pub listen-went-requires : goal.listen-went-requires
listen-went-requires c =
    let a = c.args in
    let (kept, room) = take_parts a.plant a.fair.now a.label.now a.next.now a.rule a.live a.radio a.scrap.now (length a.verdicts.now) (sym c.check_take-outcome.ensures ∙ c.in-Ok.is) in
    (fitting a.plant a.fair.now a.label.now a.next.now a.rule a.live a.radio kept, fit a.plant a.fair.now a.label.now a.next.now a.rule a.live a.radio kept (search rules) a.scrap.now (length a.verdicts.now) room)

pub returns-in-Err : goal.returns-in-Err
unfolding laid
returns-in-Err c =
    let a = c.args in
    let none = took_none a.plant a.fair.now a.label.now a.next.now a.rule a.live a.radio a.scrap.now (length a.verdicts.now) c.check_take-outcome.ensures c.in-Err.is in
    record { taken = ap (λ (t : Took). t.taken) none; verdicts = ap (λ (t : Took). laid t.verdicts a.verdicts.now) none }

pub returns-in-Ok : goal.returns-in-Ok
returns-in-Ok c =
    let a = c.args in
    let some = took_some a.plant a.fair.now a.label.now a.next.now a.rule a.live a.radio a.scrap.now (length a.verdicts.now) c.check_take-outcome.ensures c.in-Ok.is c.listen-went.ensures c.answer_of.ensures in
    record { taken = some.0; verdicts = some.1 }
