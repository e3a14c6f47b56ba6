-- A node of a rule at one position, by what its operands are there and by what lies ahead of it.
use Rattle.std.specs.Prelude.{ℕ, ◌*◌, ◌/◌, ◌%◌, ◌^◌, Bool, true, false, ◌&&◌, ◌||◌, not, cond}
use Rattle.std.specs.Int.Bits.{bit_or}
use Rattle.meaning.specs.Bit.{bit}
use Rattle.syntax.specs.declared.Op.{Op}
use Rattle.syntax.specs.declared.Op.TheVariants.{False, True, Prop, Not, Next, Finally, Globally, Until, Release, And, Or, Implies}
use Rattle.syntax.specs.Postfix.{sides}
use Rattle.words.specs.Word.{only_of}
use Rattle.shape.specs.Ops.{is_step}

-- a node's value at the label l: x is the value of the first of two operands, y of the last, and `ahead` what the next position hands on
-- (01, The monitor's state)
abbrev pub value_of : Op → ℕ → Bool → Bool → Bool → Bool
value_of False l x y ahead = false
value_of True l x y ahead = true
value_of (Prop p) l x y ahead = bit l p
value_of Not l x y ahead = not y
value_of Next l x y ahead = ahead
value_of Finally l x y ahead = y || ahead
value_of Globally l x y ahead = y && ahead
value_of Until l x y ahead = y || (x && ahead)
value_of Release l x y ahead = y && (x || ahead)
value_of And l x y ahead = x && y
value_of Or l x y ahead = x || y
value_of Implies l x y ahead = not x || y

-- what it hands on to the position before: X its operand, any other node its own value
abbrev pub carry_of : Op → Bool → Bool → Bool
carry_of op y value = cond (is_step op) y value

-- what is handed on where nothing lies ahead: nothing is met there, and nothing is broken
abbrev pub guess_of : Op → Bool
guess_of False = false
guess_of True = false
guess_of (Prop p) = false
guess_of Not = false
guess_of Next = false
guess_of Finally = false
guess_of Globally = true
guess_of Until = false
guess_of Release = true
guess_of And = false
guess_of Or = false
guess_of Implies = false

-- the values not yet used are a stack: a word whose member 0 is the top. A node takes its operands off and puts its value on.
unfoldable pub pushed_of : ℕ → Op → Bool → ℕ
pushed_of stack op value = bit_or (stack / 2 ^ sides op * 2 % 2 ^ 64) (only_of value 1)

-- the value of a node, with its operands on the stack, and what it hands on
unfoldable pub value_at : Op → ℕ → ℕ → Bool → Bool
value_at op l stack ahead = value_of op l (bit stack 1) (bit stack 0) ahead

unfoldable pub carry_at : Op → ℕ → ℕ → Bool → Bool
unfolding value_at
carry_at op l stack ahead = carry_of op (bit stack 0) (value_at op l stack ahead)
