-- `report_text::states::read_states`: what is kept, and the states of the rest behind it, are those of the list (`Kept`).
use Rattle.std.proofs.Common.{refl, sym, ◌∙◌}
use borrow.Author.Tests.{eqb-true, eqb-false}
use Rattle.report_text.proofs.Kept.{kept_turn, kept_end, none_read}
use Rattle.report_text.proofs.states.read_states.Goals as goal

pub returns-then-is_empty : goal.returns-then-is_empty
returns-then-is_empty c = none_read _ _ (eqb-true _ 0 (sym c.is_empty.ensures ∙ c.if-is_empty.true))

pub loop-b-preserved : goal.loop-b-preserved
loop-b-preserved c =
    rw c.grow-n.ensures (kept_turn _ _ c.loop-b.invariant c.loop-b-test.true refl c.is_comma.ensures c.keep-count.ensures)

pub returns : goal.returns
returns c =
    kept_end c.loop-b.invariant (eqb-false _ 0 (sym c.is_empty.ensures ∙ c.if-is_empty.false)) c.loop-b-test.false c.keep.ensures
