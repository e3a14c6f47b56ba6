-- `watch_log`: what was opened may be followed. Assumes nothing.
use Rattle.controller.proofs.Cases.{lent_by, fits_by}
use Rattle.controller.proofs.watch_log.Goals as goal

pub with_opened-requires : goal.with_opened-requires
with_opened-requires c =
    let a = c.args in
    (lent_by a.table.now a.rule.now c.open_texts-opened.ensures, fits_by a.table.now a.rule.now c.open_texts-opened.ensures c.in-Ok.is)
