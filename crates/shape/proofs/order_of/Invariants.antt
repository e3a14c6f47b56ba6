-- `order_of`: `order` is what the nodes passed make.
use mathlib.Core.Path.{◌≡◌}
use Prim.Native.Nat.{◌≤◌}
use Rattle.shape.specs.Shape.{order_of}
use Rattle.shape.proofs.order_of.Given as goal

abbrev pub invariant-loop-i : goal.invariant-loop-i
invariant-loop-i l =
    (l.i ≤ l.rule.len) × (l.order ≡ order_of l.rule.nodes l.begins l.counts l.i)
