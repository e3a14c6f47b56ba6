-- What a node of a rule is.
use Rattle.std.specs.Prelude.{Bool, true, false}
use Rattle.syntax.specs.declared.Op.{Op}
use Rattle.syntax.specs.declared.Op.TheVariants.{False, True, Prop, Not, Next, Finally, Globally, Until, Release, And, Or, Implies}
pub use Rattle.syntax.specs.Value.{op_at, is_part}

-- whether it is an X
abbrev pub is_step : Op → Bool
is_step False = false
is_step True = false
is_step (Prop p) = false
is_step Not = false
is_step Next = true
is_step Finally = false
is_step Globally = false
is_step Until = false
is_step Release = false
is_step And = false
is_step Or = false
is_step Implies = false
