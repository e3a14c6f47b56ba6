-- THE TEXT OF A DAY SHEET. What must be believed of it is here, and in report/specs/Text the words of the verdicts and the decimal numbers.
use Rattle.std.specs.Prelude.{ℕ, zero, suc, ◌+◌, ◌^◌, cond, List, [], ◌∷◌, ◌++◌, ltb, get_or}
use Rattle.std.proofs.Common.{arith, add-one}
use Rattle.answers.specs.declared.Verdict.{Verdict}
use Rattle.writing.specs.Put.{Put, puts, put_none}
use Rattle.report.specs.Text.{decimal, word, verdict_key, lf}
use Rattle.stretches.specs.declared.Stretch.{Stretch}
use Rattle.stretches.specs.declared.DaySheet.{DaySheet}
use Rattle.stretches.specs.Sheet.{blank}

-- `first=`, ` events=`, ` decided=` and `-`
abbrev pub first_key : List ℕ
first_key = 102 ∷ 105 ∷ 114 ∷ 115 ∷ 116 ∷ 61 ∷ []

abbrev pub events_key : List ℕ
events_key = 32 ∷ 101 ∷ 118 ∷ 101 ∷ 110 ∷ 116 ∷ 115 ∷ 61 ∷ []

abbrev pub decided_key : List ℕ
decided_key = 32 ∷ 100 ∷ 101 ∷ 99 ∷ 105 ∷ 100 ∷ 101 ∷ 100 ∷ 61 ∷ []

abbrev pub dash : List ℕ
dash = 45 ∷ []

-- a number of 32 bits; any other is none
unfoldable pub decided_text : ℕ → List ℕ
decided_text d = cond (ltb d (2 ^ 32)) (decimal d) dash

abbrev pub field_text : List ℕ → ℕ → List ℕ
field_text key n = key ++ decimal n

abbrev pub end_text : Verdict → ℕ → List ℕ
end_text v d = verdict_key ++ word v ++ decided_key ++ decided_text d ++ lf

-- `first=N events=N verdict=WORD decided=N` and LF
abbrev pub line_text : Stretch → List ℕ
line_text l = field_text first_key l.first ++ field_text events_key l.events ++ end_text l.verdict l.decided

-- the first k lines
unfoldable pub lines_text : List Stretch → ℕ → List ℕ
lines_text ls zero = []
lines_text ls (suc k) = lines_text ls k ++ line_text (get_or ls k blank)

-- THE TEXT: a line for each stretch that the sheet counts
abbrev pub sheet_text : DaySheet → List ℕ
sheet_text s = lines_text s.lines s.count

-- ---- for code

pub put_nothing : (ls : List Stretch) (b : List ℕ) → Put b 0 (lines_text ls 0) b 0
unfolding lines_text
put_nothing ls b = put_none b 0 (omega arith)

pub put_more : (ls : List Stretch) (k : ℕ) {before now last : List ℕ} {mid end : ℕ} → Put before 0 (lines_text ls k) now mid → Put now mid (line_text (get_or ls k blank)) last end → Put before 0 (lines_text ls (k + 1)) last end
unfolding lines_text
put_more ls k p q = rw add-one (puts p q)
