-- `turns`: event after event as the definition goes (`Gone`). Assumes nothing.
use Rattle.machine_events.specs.Turns.{Gone}
use Rattle.machine_events.proofs.turns.Given as goal

abbrev pub invariant-loop-n : goal.invariant-loop-n
invariant-loop-n l = Gone l.machine l.props l.row l.events l.initial.shown l.n l.at l.shown
