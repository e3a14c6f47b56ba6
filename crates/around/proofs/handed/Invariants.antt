-- `handed`: what position i hands on.
use Rattle.std.proofs.Common.{◌≤◌, ◌-◌, length, ◌≡◌}
use Rattle.around.specs.Fill.{handed_from}
use Rattle.around.proofs.handed.Given as goal

abbrev pub invariant-loop-i : goal.invariant-loop-i
invariant-loop-i l = (l.i ≤ length l.labels) × (l.from ≤ l.i) × (l.ahead ≡ handed_from l.op l.labels l.words l.end (length l.labels - l.i) l.i)
