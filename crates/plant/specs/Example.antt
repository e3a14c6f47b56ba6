-- Plant W, and its text (01, The plant table), by computing.
use Rattle.std.specs.Prelude.{◌≡◌, refl, List, [], ◌∷◌, ◌++◌, ℕ}
use Rattle.meaning.specs.Run.{Plant}
use Rattle.text.specs.Slot.{written, digit_byte}
use Rattle.text.specs.Number.{width_of, hex_slots, lead_of, next_of, last_of, count_slots}
use Rattle.plant.specs.Written.{table_text, lines_below}

abbrev pub plant_w : Plant
plant_w = record { props = 2; states = 3; start = 1; fair = []; label = 0 ∷ 1 ∷ 2 ∷ []; next = 3 ∷ 6 ∷ 5 ∷ [] }

-- its ten lines
abbrev pub text_w : List ℕ
text_w =
    (112 ∷ 114 ∷ 111 ∷ 112 ∷ 115 ∷ 61 ∷ 50 ∷ 10 ∷ [])
    ++ (115 ∷ 116 ∷ 97 ∷ 116 ∷ 101 ∷ 115 ∷ 61 ∷ 51 ∷ 10 ∷ [])
    ++ (115 ∷ 116 ∷ 97 ∷ 114 ∷ 116 ∷ 61 ∷ 48 ∷ 48 ∷ 48 ∷ 48 ∷ 48 ∷ 48 ∷ 48 ∷ 48 ∷ 48 ∷ 48 ∷ 48 ∷ 48 ∷ 48 ∷ 48 ∷ 48 ∷ 49 ∷ 10 ∷ [])
    ++ (106 ∷ 117 ∷ 115 ∷ 116 ∷ 61 ∷ 48 ∷ 10 ∷ [])
    ++ (108 ∷ 97 ∷ 98 ∷ 101 ∷ 108 ∷ 48 ∷ 61 ∷ 48 ∷ 48 ∷ 10 ∷ [])
    ++ (110 ∷ 101 ∷ 120 ∷ 116 ∷ 48 ∷ 61 ∷ 48 ∷ 48 ∷ 48 ∷ 48 ∷ 48 ∷ 48 ∷ 48 ∷ 48 ∷ 48 ∷ 48 ∷ 48 ∷ 48 ∷ 48 ∷ 48 ∷ 48 ∷ 51 ∷ 10 ∷ [])
    ++ (108 ∷ 97 ∷ 98 ∷ 101 ∷ 108 ∷ 49 ∷ 61 ∷ 48 ∷ 49 ∷ 10 ∷ [])
    ++ (110 ∷ 101 ∷ 120 ∷ 116 ∷ 49 ∷ 61 ∷ 48 ∷ 48 ∷ 48 ∷ 48 ∷ 48 ∷ 48 ∷ 48 ∷ 48 ∷ 48 ∷ 48 ∷ 48 ∷ 48 ∷ 48 ∷ 48 ∷ 48 ∷ 54 ∷ 10 ∷ [])
    ++ (108 ∷ 97 ∷ 98 ∷ 101 ∷ 108 ∷ 50 ∷ 61 ∷ 48 ∷ 50 ∷ 10 ∷ [])
    ++ (110 ∷ 101 ∷ 120 ∷ 116 ∷ 50 ∷ 61 ∷ 48 ∷ 48 ∷ 48 ∷ 48 ∷ 48 ∷ 48 ∷ 48 ∷ 48 ∷ 48 ∷ 48 ∷ 48 ∷ 48 ∷ 48 ∷ 48 ∷ 48 ∷ 53 ∷ 10 ∷ [])

pub w_text : table_text plant_w ≡ text_w
unfolding written digit_byte hex_slots lead_of next_of last_of count_slots lines_below width_of
w_text = refl
