-- The machine that reads a sheet byte by byte.
use Rattle.std.specs.Prelude.{ℕ, ◌+◌, ◌*◌, ◌-◌, Bool, true, false, cond, List, [], ◌∷◌, eqb, ltb, leb, length, get_or, Result, Ok, Err}
use Rattle.sheet.specs.declared.Lines.{Lines}
use Rattle.sheet.specs.declared.State.{State}
use Rattle.sheet.specs.declared.State.TheVariants.{Before, Name, Value, Stuck}
use Rattle.std.specs.Prelude.{Option, Some, None}
use Rattle.sheet.specs.Sheet.{edition_key, rule_key, closing_key}

-- ---- a line begins

-- the line whose key begins with the byte, and 3 where none does
unfoldable pub line_by : ℕ → ℕ
line_by b = cond (eqb b 101) 0 (cond (eqb b 114) 1 (cond (eqb b 99) 2 3))

unfoldable pub begun : ℕ → ℕ → State
begun k j = cond (ltb j k) Stuck (cond (ltb j 3) (Name j 1) Stuck)

-- ---- a key

unfoldable pub key_byte : ℕ → ℕ → ℕ
key_byte k i = cond (eqb k 0) (get_or edition_key i 0) (cond (eqb k 1) (get_or rule_key i 0) (get_or closing_key i 0))

unfoldable pub key_size : ℕ → ℕ
key_size k = cond (eqb k 1) 5 8

unfoldable pub named : ℕ → ℕ → State
named k i = cond (eqb i (key_size k)) (Value k 0 0) (Name k i)

-- ---- a value

unfoldable pub lead_zero : ℕ → ℕ → Bool
lead_zero at n = cond (eqb at 0) false (eqb n 0)

unfoldable pub ranged : ℕ → ℕ → ℕ → Option ℕ
ranged lo hi n = cond (ltb n lo) None (cond (ltb hi n) None (Some n))

unfoldable pub digit_grown : ℕ → ℕ → ℕ → ℕ → ℕ → Option ℕ
digit_grown lo hi at n b =
    cond (ltb b 48) None (cond (ltb 57 b) None (cond (ltb 6553 n) None (cond (lead_zero at n) None (ranged lo hi (n * 10 + (b - 48))))))

unfoldable pub byte_grown : ℕ → ℕ → Option ℕ
byte_grown at b = cond (ltb b 32) None (cond (ltb 126 b) None (cond (leb 512 at) None (Some 0)))

unfoldable pub value_grown : ℕ → ℕ → ℕ → ℕ → Option ℕ
value_grown k at n b = cond (eqb k 0) (digit_grown 1 65535 at n b) (cond (eqb k 1) (byte_grown at b) (digit_grown 0 99 at n b))

abbrev pub further : ℕ → ℕ → Option ℕ → State
further k at (Some n) = Value k (at + 1) n
further k at None = Stuck

unfoldable pub ended : ℕ → ℕ → State
ended k at = cond (eqb at 0) Stuck (Before (k + 1))

-- ---- a byte

unfoldable pub state_after : State → ℕ → State
state_after (Before k) b = begun k (line_by b)
state_after (Name k i) b = cond (eqb b (key_byte k i)) (named k (i + 1)) Stuck
state_after (Value k at n) b = cond (eqb b 10) (ended k at) (further k at (value_grown k at n b))
state_after Stuck b = Stuck

-- no number in a state is greater
abbrev pub size_of : State → ℕ
size_of (Before k) = k
size_of (Name k i) = k + i
size_of (Value k at n) = k + at
size_of Stuck = 0

abbrev pub stuck : State → Bool
stuck (Before k) = false
stuck (Name k i) = false
stuck (Value k at n) = false
stuck Stuck = true

-- the text may end here
abbrev pub may : State → Bool
may (Before k) = true
may (Name k i) = false
may (Value k at n) = false
may Stuck = false

-- ---- what is known of the lines

abbrev pub lines_as : ℕ → ℕ → ℕ → ℕ → Lines
lines_as e r c n = record { edition = e; rule = r; closing = c; number = n }

unfoldable pub file_as : Lines → ℕ → ℕ → ℕ → Lines
file_as l k at n = cond (eqb k 0) (lines_as at l.rule l.closing n) (cond (eqb k 1) (lines_as l.edition at l.closing l.number) (lines_as l.edition l.rule at l.number))

unfoldable pub filed : Lines → State → ℕ → Lines
filed l (Before k) b = l
filed l (Name k i) b = l
filed l (Value k at n) b = cond (eqb b 10) (file_as l k at n) l
filed l Stuck b = l

-- ---- a text

-- the text s stands from place i on, the lines read are l, and the machine is in the state st
unfoldable pub scan_from : Lines → State → ℕ → List ℕ → Result Lines ℕ
scan_from l st i [] = cond (may st) (Ok l) (Err i)
scan_from l st i (b ∷ s) = cond (stuck (state_after st b)) (Err i) (scan_from (filed l st b) (state_after st b) (i + 1) s)

abbrev pub begin : List ℕ → Result Lines ℕ
begin s = scan_from (lines_as 0 0 0 0) (Before 0) 0 s

unfoldable pub scan_of : List ℕ → Result Lines ℕ
scan_of s = cond (ltb 1024 (length s)) (Err 1024) (begin s)
