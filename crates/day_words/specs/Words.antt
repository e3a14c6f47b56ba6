-- A day sheet in words of 64 bits: what any words say, and the words for a sheet. First the count, then the first numbers of 64 stretches, their counts of events, their
-- verdicts and the numbers at which they were decided; the last three words say nothing.
use Rattle.std.specs.Prelude.{ℕ, ◌+◌, ◌-◌, Bool, cond, List, eqb, ltb, get_or}
use Rattle.words.specs.Below.{all_below, list_below}
use Rattle.answers.specs.declared.Verdict.{Verdict}
use Rattle.answers.specs.declared.Verdict.TheVariants.{Inconclusive, True, False, OutOfModel}
use Rattle.answers.specs.Paper.{number_of}
use Rattle.stretches.specs.declared.Stretch.{Stretch}
use Rattle.stretches.specs.declared.DaySheet.{DaySheet}
use Rattle.stretches.specs.Sheet.{blank}

-- ---- reading

-- the verdict of a number
unfoldable pub verdict_of : ℕ → Verdict
verdict_of c = cond (eqb c 0) Inconclusive (cond (eqb c 1) True (cond (eqb c 2) False OutOfModel))

abbrev pub is_verdict : ℕ → Bool
is_verdict x = ltb x 4

-- each word of a verdict is one
unfoldable pub fits_in : List ℕ → Bool
fits_in w = all_below 64 (λ k. is_verdict (get_or w (129 + k) 0))

abbrev pub line_in : List ℕ → ℕ → Stretch
line_in w k = record { first = get_or w (1 + k) 0; events = get_or w (65 + k) 0; verdict = verdict_of (get_or w (129 + k) 0); decided = get_or w (193 + k) 0 }

unfoldable pub lines_in : List ℕ → List Stretch
lines_in w = list_below 64 (line_in w)

-- more stretches than there can be where a word is no verdict
unfoldable pub count_in : List ℕ → ℕ
count_in w = cond (fits_in w) (get_or w 0 0) 65

-- THE SHEET THAT WORDS HOLD, whatever they are
unfoldable pub sheet_in : List ℕ → DaySheet
sheet_in w = record { count = count_in w; lines = lines_in w }

-- ---- writing

-- word p of a sheet
unfoldable pub sheet_word : DaySheet → ℕ → ℕ
sheet_word s p =
    cond (eqb p 0) s.count (cond (ltb p 65) (get_or s.lines (p - 1) blank).first (cond (ltb p 129) (get_or s.lines (p - 65) blank).events
    (cond (ltb p 193) (number_of (get_or s.lines (p - 129) blank).verdict) (get_or s.lines (p - 193) blank).decided)))

-- the words behind stay
unfoldable pub changed_word : List ℕ → DaySheet → ℕ → ℕ
changed_word w s p = cond (ltb p 257) (sheet_word s p) (get_or w p 0)

-- WORDS THAT HOLD A SHEET
unfoldable pub with_sheet : List ℕ → DaySheet → List ℕ
with_sheet w s = list_below 260 (changed_word w s)
