-- `report_text::read_report`: call by call.
use Rattle.report_text.proofs.Whole.{read_is}
use Rattle.report_text.proofs.read_report.Goals as goal

pub returns-then-end-text : goal.returns-then-end-text
returns-then-end-text c =
    read_is _ _ _ _ _ c.claim-claimed.ensures c.run-keeps.ensures c.run-breaks.ensures c.if-end-text.true

pub returns : goal.returns
returns c =
    read_is _ _ _ _ _ c.claim-claimed.ensures c.run-keeps.ensures c.run-breaks.ensures c.if-end-text.false
