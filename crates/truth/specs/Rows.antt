-- The tables of the parts, from the words of their operands.
use Rattle.std.specs.Prelude.{ℕ, ◌-◌, ◌/◌, ◌%◌, ◌^◌, cond, List, get_or}
use Rattle.std.specs.Int.Bits.{bit_and, bit_or}
use Rattle.syntax.specs.declared.Op.{Op}
use Rattle.syntax.specs.declared.Op.TheVariants.{False, True, Prop, Not, Next, Finally, Globally, Until, Release, And, Or, Implies}
use Rattle.syntax.specs.declared.Node.{Node}
use Rattle.words.specs.Below.{list_below}
use Rattle.shape.specs.Ops.{op_at, is_step}
use Rattle.truth.specs.Nodes.{own_of, word_at}
use Rattle.truth.specs.Asked.{Asked, Low, High, Operand, Settled}

abbrev pub low_of : Op → ℕ → ℕ → ℕ → ℕ
low_of False x y own = 0
low_of True x y own = 0
low_of (Prop p) x y own = 0
low_of Not x y own = 0
low_of Next x y own = own
low_of Finally x y own = y
low_of Globally x y own = 0
low_of Until x y own = y
low_of Release x y own = bit_and y x
low_of And x y own = 0
low_of Or x y own = 0
low_of Implies x y own = 0

abbrev pub high_of : Op → ℕ → ℕ → ℕ → ℕ
high_of False x y own = 0
high_of True x y own = 0
high_of (Prop p) x y own = 0
high_of Not x y own = 0
high_of Next x y own = own
high_of Finally x y own = 2 ^ 64 - 1
high_of Globally x y own = y
high_of Until x y own = bit_or y x
high_of Release x y own = y
high_of And x y own = 0
high_of Or x y own = 0
high_of Implies x y own = 0

abbrev pub operand_of : Op → ℕ → ℕ
operand_of op y = cond (is_step op) y (2 ^ 64 - 1)

abbrev pub settled_of : Op → ℕ → ℕ → ℕ
settled_of False y own = 0
settled_of True y own = 0
settled_of (Prop p) y own = 0
settled_of Not y own = 0
settled_of Next y own = 2 ^ 64 - 1
settled_of Finally y own = bit_or (2 ^ 64 - 1 - own) y
settled_of Globally y own = bit_or own (2 ^ 64 - 1 - y)
settled_of Until y own = bit_or (2 ^ 64 - 1 - own) y
settled_of Release y own = bit_or own (2 ^ 64 - 1 - y)
settled_of And y own = 0
settled_of Or y own = 0
settled_of Implies y own = 0

abbrev pub told_of : Asked → Op → ℕ → ℕ → ℕ → ℕ
told_of Low op x y own = low_of op x y own
told_of High op x y own = high_of op x y own
told_of Operand op x y own = operand_of op y
told_of Settled op x y own = settled_of op y own

-- part k at v: the word of the first of two operands is that of the place `first`, of the last that of `last`
unfoldable pub part_at : Asked → Op → ℕ → ℕ → List ℕ → ℕ → ℕ → ℕ
part_at asked op first last words k v = told_of asked op (word_at words first v) (word_at words last v) (own_of v k)

unfoldable pub row_at : Asked → List Node → List ℕ → List ℕ → List ℕ → ℕ → ℕ → ℕ
row_at asked kinds begins order words v k = part_at asked (op_at kinds k) (get_or begins (get_or order k 0) 0) (get_or order k 0) words k v

unfoldable pub rows_from : Asked → List Node → List ℕ → List ℕ → List ℕ → List ℕ
rows_from asked kinds begins order words = list_below 384 (λ i. row_at asked kinds begins order words (i / 6) (i % 6))
