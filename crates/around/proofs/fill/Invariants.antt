-- `fill`: what position i hands on, and the stacks with the values from i on put on.
use Rattle.std.proofs.Common.{◌≤◌, ◌-◌, length, ◌≡◌}
use Rattle.around.specs.Fill.{handed_from, filled_from}
use Rattle.around.proofs.fill.Given as goal

abbrev pub invariant-loop-i : goal.invariant-loop-i
invariant-loop-i l = (l.i ≤ length l.labels) × (l.ahead ≡ handed_from l.op l.labels l.initial.words l.end (length l.labels - l.i) l.i) × (l.words ≡ filled_from l.op l.labels l.initial.words l.end (length l.labels - l.i) l.i)
