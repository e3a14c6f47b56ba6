-- `knots::before`: state by state, and for each by the words that it goes into.
use Rattle.std.proofs.Common.{◌≤◌}
use Rattle.walk.specs.Before.{Entered, Entering}
use Rattle.walk.proofs.knots.before.Given as goal

abbrev pub invariant-loop-t : goal.invariant-loop-t
invariant-loop-t l = Entering l.next l.s l.t-iterator.0 l.words

abbrev pub invariant-loop-s : goal.invariant-loop-s
invariant-loop-s l = (l.s ≤ 64) × Entered l.next l.s l.words
