-- `begins_of`: `at` is what the nodes passed make.
use mathlib.Core.Path.{◌≡◌}
use Prim.Native.Nat.{◌≤◌}
use Rattle.shape.specs.Shape.{begins_of}
use Rattle.shape.proofs.begins_of.Given as goal

abbrev pub invariant-loop-i : goal.invariant-loop-i
invariant-loop-i l = (l.i ≤ l.rule.len) × (l.at ≡ begins_of l.rule.nodes l.i)
