-- The scanner: two modes and a depth of open parentheses, with a mode inside `p3`, one behind `p1`, which may go on, and one inside `->`.
use Rattle.std.specs.Prelude.{ℕ, zero, suc, ◌+◌, List, [], ◌∷◌, Bool, true, false, cond, eqb, Result, Ok, Err}
use Rattle.syntax.specs.declared.Sign.{Sign}
use Rattle.syntax.specs.declared.Sign.TheVariants.{Blank, Digit, Letter, Before, Between, Dash, Angle, Left, Right, Other}
use Rattle.syntax.specs.declared.Mode.{Mode}
use Rattle.syntax.specs.declared.Mode.TheVariants.{Operand, Number, Teen, Operator, Arrow, Stuck}
use Rattle.syntax.specs.declared.Move.{Move}
use Rattle.syntax.specs.declared.Move.TheVariants.{ToOperand, ToNumber, ToTeen, ToOperator, ToArrow, Opens, Closes, Stops}
use Rattle.syntax.specs.declared.State.{State}
use Rattle.syntax.specs.Bytes.{sign_of, goes_on}

abbrev pub at : Mode → ℕ → State
at m d = record { mode = m; depth = d }

abbrev pub stuck : ℕ → State
stuck d = at Stuck d

-- a digit that stands alone is 0 or 1
abbrev pub lone : ℕ → Move
lone zero = ToOperator
lone (suc zero) = ToOperator
lone (suc (suc k)) = Stops

-- an operand is to come
abbrev pub operand : Sign → Move
operand Blank = ToOperand
operand (Digit k) = lone k
operand Letter = ToNumber
operand (Before o) = ToOperand
operand (Between o) = Stops
operand Dash = Stops
operand Angle = Stops
operand Left = Opens
operand Right = Stops
operand Other = Stops

-- the first digit of a name is to come: 1 may be followed by another
unfoldable pub named : ℕ → Move
named k = cond (eqb k 1) ToTeen ToOperator

abbrev pub digit : Sign → Move
digit Blank = Stops
digit (Digit k) = named k
digit Letter = Stops
digit (Before o) = Stops
digit (Between o) = Stops
digit Dash = Stops
digit Angle = Stops
digit Left = Stops
digit Right = Stops
digit Other = Stops

-- an operator is to come, or a closing parenthesis, or the end
abbrev pub operator : Sign → Move
operator Blank = ToOperator
operator (Digit k) = Stops
operator Letter = Stops
operator (Before o) = Stops
operator (Between o) = ToOperand
operator Dash = ToArrow
operator Angle = Stops
operator Left = Stops
operator Right = Closes
operator Other = Stops

-- behind `p1`: the second digit of a name, or what follows a name
unfoldable pub teen : Sign → Move
teen k = cond (goes_on k) ToOperator (operator k)

-- the `>` of an arrow is to come
abbrev pub angle : Sign → Move
angle Blank = Stops
angle (Digit k) = Stops
angle Letter = Stops
angle (Before o) = Stops
angle (Between o) = Stops
angle Dash = Stops
angle Angle = ToOperand
angle Left = Stops
angle Right = Stops
angle Other = Stops

abbrev pub move : Mode → Sign → Move
move Operand k = operand k
move Number k = digit k
move Teen k = teen k
move Operator k = operator k
move Arrow k = angle k
move Stuck k = Stops

unfoldable pub closes : ℕ → State
closes zero = stuck 0
closes (suc d) = at Operator d

-- the state after a move, where d parentheses are open
abbrev pub moved : ℕ → Move → State
moved d ToOperand = at Operand d
moved d ToNumber = at Number d
moved d ToTeen = at Teen d
moved d ToOperator = at Operator d
moved d ToArrow = at Arrow d
moved d Opens = at Operand (d + 1)
moved d Closes = closes d
moved d Stops = stuck d

abbrev pub step : Mode → ℕ → Sign → State
step m d k = moved d (move m k)

unfoldable pub run : State → List ℕ → State
run st [] = st
run st (b ∷ s) = run (step st.mode st.depth (sign_of b)) s

abbrev pub start : State
start = at Operand 0

-- whether the text may end here
abbrev pub ends : Mode → ℕ → Bool
ends Operator d = eqb d 0
ends Teen d = eqb d 0
ends Operand d = false
ends Number d = false
ends Arrow d = false
ends Stuck d = false

-- whether nothing may come any more
abbrev pub dead : Mode → Bool
dead Stuck = true
dead Operand = false
dead Number = false
dead Teen = false
dead Operator = false
dead Arrow = false

-- the text s stands from place i on, and the scanner is in the state st
unfoldable pub scan_from : State → ℕ → List ℕ → Result (Unit {0}) ℕ
scan_from st i [] = cond (ends st.mode st.depth) (Ok tt) (Err i)
scan_from st i (b ∷ s) =
    cond (dead (step st.mode st.depth (sign_of b)).mode) (Err i) (scan_from (step st.mode st.depth (sign_of b)) (i + 1) s)

unfoldable pub scan : List ℕ → Result (Unit {0}) ℕ
scan s = scan_from start 0 s
