-- `counts_of`: `at` is what the nodes passed make, and `count` is how many of them are parts.
use mathlib.Core.Path.{◌≡◌}
use Prim.Native.Nat.{◌≤◌}
use Rattle.shape.specs.Shape.{parts_before, counts_of}
use Rattle.shape.proofs.counts_of.Given as goal

abbrev pub invariant-loop-i : goal.invariant-loop-i
invariant-loop-i l =
    (l.i ≤ l.rule.len) × (l.count ≡ parts_before l.rule.nodes l.i) × (l.at ≡ counts_of l.rule.nodes l.i)
