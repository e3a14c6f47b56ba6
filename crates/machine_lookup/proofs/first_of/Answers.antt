-- `first_of`: not seen, not given, or there.
use Rattle.std.proofs.Common.{arith}
use Rattle.machine_lookup.specs.Shape.{first_unseen, first_ungiven, first_there}
use Rattle.machine_lookup.proofs.first_of.Goals.{then-event-gt7-via-then-event-gt7, then-event-gt7-via-else-event-gt7+then-event-gt7-2}
use Rattle.machine_lookup.proofs.first_of.Goals as goal

pub returns-then-event-gt7 : goal.returns-then-event-gt7
returns-then-event-gt7 c = elim c.then-event-gt7.branch [
  | then-event-gt7-via-then-event-gt7 w ↦ (first_unseen _ _ w.if-event-gt7.true, omega arith)
  | then-event-gt7-via-else-event-gt7+then-event-gt7-2 w ↦ (first_ungiven _ _ w.if-event-gt7.false w.if-event-gt7-2.true, omega arith)
]

pub returns : goal.returns
returns c = (first_there _ _ c.if-event-gt7.false c.if-event-gt7-2.false c.firsts_of.ensures, omega arith)
