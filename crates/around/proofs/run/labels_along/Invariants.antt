-- `run::labels_along`: the labels passed are found, the others still 0.
use Rattle.std.proofs.Common.{length, ◌≡◌, ◌≤◌}
use Rattle.around.specs.Along.{labels_up_to}
use Rattle.around.proofs.run.labels_along.Given as goal

abbrev pub invariant-loop-i : goal.invariant-loop-i
invariant-loop-i l = (l.i ≤ length l.run) × (l.labels ≡ labels_up_to l.label l.run l.i)
