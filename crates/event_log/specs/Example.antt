-- The line that 01 shows (Log and program), one with a capital digit, one with four digits and one with a number, by computing.
use Rattle.std.specs.Prelude.{◌≡◌, refl, true, false, [], ◌∷◌}
use Rattle.text.specs.Slot.{written, digit_byte, digit_value}
use Rattle.text.specs.Number.{hex_slots, lead_of, next_of, last_of, count_slots}
use Rattle.text.specs.Written.{small, small_of}
use Rattle.event_log.specs.declared.Num.TheVariants.{Expected, Given}
use Rattle.event_log.specs.Promises.{log_slots, log_text}

-- `see=03 val=01 new=0` and LF
pub line_text_lem : log_text 2 (record { num = Expected; see = 3; val = 1; new = false } ∷ []) ≡ 115 ∷ 101 ∷ 101 ∷ 61 ∷ 48 ∷ 51 ∷ 32 ∷ 118 ∷ 97 ∷ 108 ∷ 61 ∷ 48 ∷ 49 ∷ 32 ∷ 110 ∷ 101 ∷ 119 ∷ 61 ∷ 48 ∷ 10 ∷ []
unfolding written digit_byte hex_slots lead_of next_of last_of count_slots log_slots
line_text_lem = refl

-- `see=aF val=0A new=1` and LF, its digits made small, is the line of what it says
pub capital_line : small_of (log_slots 2 (record { num = Expected; see = 175; val = 10; new = true } ∷ [])) (115 ∷ 101 ∷ 101 ∷ 61 ∷ 97 ∷ 70 ∷ 32 ∷ 118 ∷ 97 ∷ 108 ∷ 61 ∷ 48 ∷ 65 ∷ 32 ∷ 110 ∷ 101 ∷ 119 ∷ 61 ∷ 49 ∷ 10 ∷ []) ≡ log_text 2 (record { num = Expected; see = 175; val = 10; new = true } ∷ [])
unfolding written digit_byte digit_value small small_of hex_slots lead_of next_of last_of count_slots log_slots
capital_line = refl

-- with four digits, `see=0003 val=8001 new=1` and LF
pub wide_line : log_text 4 (record { num = Expected; see = 3; val = 32769; new = true } ∷ []) ≡ 115 ∷ 101 ∷ 101 ∷ 61 ∷ 48 ∷ 48 ∷ 48 ∷ 51 ∷ 32 ∷ 118 ∷ 97 ∷ 108 ∷ 61 ∷ 56 ∷ 48 ∷ 48 ∷ 49 ∷ 32 ∷ 110 ∷ 101 ∷ 119 ∷ 61 ∷ 49 ∷ 10 ∷ []
unfolding written digit_byte hex_slots lead_of next_of last_of count_slots log_slots
wide_line = refl

-- with its number, `num=0000002a see=03 val=01 new=0` and LF
pub numbered_line : log_text 2 (record { num = Given 42; see = 3; val = 1; new = false } ∷ []) ≡ 110 ∷ 117 ∷ 109 ∷ 61 ∷ 48 ∷ 48 ∷ 48 ∷ 48 ∷ 48 ∷ 48 ∷ 50 ∷ 97 ∷ 32 ∷ 115 ∷ 101 ∷ 101 ∷ 61 ∷ 48 ∷ 51 ∷ 32 ∷ 118 ∷ 97 ∷ 108 ∷ 61 ∷ 48 ∷ 49 ∷ 32 ∷ 110 ∷ 101 ∷ 119 ∷ 61 ∷ 48 ∷ 10 ∷ []
unfolding written digit_byte hex_slots lead_of next_of last_of count_slots log_slots
numbered_line = refl
