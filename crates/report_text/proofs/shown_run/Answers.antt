-- `report_text::shown_run`: call by call.
use Rattle.report_text.proofs.Whole.{shown_is}
use Rattle.report_text.proofs.shown_run.Goals as goal

pub returns : goal.returns
returns c =
    shown_is _ _ _ _ _ _ _ c.word-a.ensures c.list-b.ensures c.word-d.ensures c.list-e.ensures c.word-next.ensures
