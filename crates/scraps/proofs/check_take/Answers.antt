-- `check_take`: what is kept, and then the room. Assumes nothing.
use Rattle.std.proofs.Common.{sym, ◌∙◌, arith, rules}
use Rattle.scraps.specs.Laws.{few_taken, take_refused, take_passes}
use Rattle.scraps.proofs.check_take.Goals as goal

pub overflow_add-radio : goal.overflow_add-radio
overflow_add-radio c =
    let a = c.args in
    record { fits = omega (arith, few_taken a.plant a.fair.now a.label.now a.next.now a.rule a.live a.radio (sym c.check_kept.ensures ∙ c.in_ok-check_kept.was)) }

pub check_room-requires : goal.check_room-requires
check_room-requires c =
    let a = c.args in
    few_taken a.plant a.fair.now a.label.now a.next.now a.rule a.live a.radio (sym c.check_kept.ensures ∙ c.in_ok-check_kept.was)

pub returns-in_err-check_kept : goal.returns-in_err-check_kept
returns-in_err-check_kept c =
    let a = c.args in
    let refused =
    take_refused a.plant a.fair.now a.label.now a.next.now a.rule a.live a.radio a.scrap.now a.room c.check_kept.ensures c.in_err-check_kept.was in
    search rules

pub returns : goal.returns
returns c =
    let a = c.args in
    take_passes a.plant a.fair.now a.label.now a.next.now a.rule a.live a.radio a.scrap.now a.room c.check_kept.ensures c.in_ok-check_kept.was c.check_room.ensures
