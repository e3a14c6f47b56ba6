-- A node has two operands at most.
use Rattle.std.specs.Prelude.{◌≤◌}
use Rattle.std.proofs.Common.{arith}
use Rattle.syntax.specs.declared.Op.{Op}
use Rattle.syntax.specs.declared.Op.TheVariants.{False, True, Prop, Not, Next, Finally, Globally, Until, Release, And, Or, Implies}
use Rattle.syntax.specs.Postfix.{sides}

pub sides_few : (op : Op) → sides op ≤ 2
sides_few False = omega arith
sides_few True = omega arith
sides_few (Prop p) = omega arith
sides_few Not = omega arith
sides_few Next = omega arith
sides_few Finally = omega arith
sides_few Globally = omega arith
sides_few Until = omega arith
sides_few Release = omega arith
sides_few And = omega arith
sides_few Or = omega arith
sides_few Implies = omega arith
