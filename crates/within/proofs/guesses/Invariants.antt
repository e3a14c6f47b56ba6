-- `guesses`: `found` has what the nodes passed hand on.
use Rattle.std.proofs.Common.{◌≡◌, ◌≤◌}
use Rattle.within.specs.Turn.{guesses_of}
use Rattle.within.proofs.guesses.Given as goal

abbrev pub invariant-loop-at : goal.invariant-loop-at
invariant-loop-at l = (l.at ≤ l.fn.rule.len) × (l.found ≡ guesses_of l.fn.rule.nodes l.at)
