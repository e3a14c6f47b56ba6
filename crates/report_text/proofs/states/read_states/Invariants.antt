-- `report_text::states::read_states`: what is kept, and the states of the rest behind it, are those of the list (`Kept`).
use Rattle.report_text.proofs.Kept.{Kept}
use Rattle.report_text.proofs.states.read_states.Given as goal

abbrev pub invariant-loop-b : goal.invariant-loop-b
invariant-loop-b l = Kept l.list l.initial.states l.states l.count l.n l.b-index
