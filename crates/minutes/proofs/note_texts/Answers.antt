-- `note_texts`: the table and the rule, and then the log. Assumes nothing.
use Rattle.minutes.proofs.Cases.{lent_by, opened_by_lem}
use Rattle.minutes.proofs.note_texts.Goals as goal

pub with_opened-requires : goal.with_opened-requires
with_opened-requires c =
    let a = c.args in
    lent_by a.table.now a.rule.now c.open_texts-opened.ensures

pub returns-in-Err : goal.returns-in-Err
returns-in-Err c =
    let a = c.args in
    opened_by_lem a.table.now a.rule.now c.open_texts-opened.ensures a.log.now c.in-Err.is c.refused.ensures

pub returns-in-Ok : goal.returns-in-Ok
returns-in-Ok c =
    let a = c.args in
    opened_by_lem a.table.now a.rule.now c.open_texts-opened.ensures a.log.now c.in-Ok.is c.with_opened.ensures
