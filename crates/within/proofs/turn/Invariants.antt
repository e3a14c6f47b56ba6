-- `turn`: the stack behind the nodes passed, and what they hand on.
use Rattle.std.proofs.Common.{◌≡◌, ◌≤◌}
use Rattle.within.specs.Turn.{stack_after, carries_after}
use Rattle.within.proofs.turn.Given as goal

abbrev pub invariant-loop-at : goal.invariant-loop-at
invariant-loop-at l = (l.at ≤ l.fn.rule.len) × (l.stack ≡ stack_after l.fn.rule.nodes l.label l.ahead l.at) × (l.carries ≡ carries_after l.fn.rule.nodes l.label l.ahead l.at)
