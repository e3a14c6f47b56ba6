-- `note`: a sheet that counts too many, or what stands behind the step. Assumes nothing.
use Rattle.std.proofs.Common.{rules}
use Rattle.day_sheet.specs.Right.{shows_ready, note_overfull, note_behind}
use Rattle.day_sheet.proofs.note.Goals as goal

pub returns-then-sheet-gt-STRETCHES : goal.returns-then-sheet-gt-STRETCHES
returns-then-sheet-gt-STRETCHES c =
    let a = c.args in
    note_overfull a.plant a.fair.now a.label.now a.next.now a.rule (search rules) a.live a.monitor a.event a.sheet
    c.if-sheet-gt-STRETCHES.true c.overfull-refusal.ensures

pub after_step-requires : goal.after_step-requires
after_step-requires c =
    let a = c.args in
    shows_ready a.plant a.fair.now a.label.now a.next.now a.rule (search rules) a.live a.monitor a.event c.step-stepped.ensures

pub returns : goal.returns
returns c =
    let a = c.args in
    note_behind a.plant a.fair.now a.label.now a.next.now a.rule (search rules) a.live a.monitor a.event a.sheet
    c.if-sheet-gt-STRETCHES.false c.step-stepped.ensures c.after_step.ensures
