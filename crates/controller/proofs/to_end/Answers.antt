-- `to_end`: what was opened may be followed. Assumes nothing.
use Rattle.controller.proofs.Cases.{lent_by, fits_by}
use Rattle.controller.proofs.to_end.Goals as goal

pub end_of-requires : goal.end_of-requires
end_of-requires c =
    let a = c.args in
    (lent_by a.table.now a.rule.now c.open_texts-opened.ensures, fits_by a.table.now a.rule.now c.open_texts-opened.ensures c.in-Ok.is)
