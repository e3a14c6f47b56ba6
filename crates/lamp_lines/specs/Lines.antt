-- A line for each lamp, with the number of its event, and the same from the bytes of verdicts and `left`.
use Prim.Native.Nat.{ℕ, zero, suc, ◌<◌}
use Rattle.std.proofs.Common.{arith}
use Rattle.std.specs.Prelude.{◌≡◌, cond, eqb, length, get_or}
use Rattle.std.proofs.Math.Path.{refl, ap₂}
use mathlib.Core.List.{List, [], ◌++◌}
use Rattle.answers.specs.declared.Verdict.{Verdict}
use Rattle.answers.specs.declared.Verdict.TheVariants.{Inconclusive, True, False, OutOfModel}
use Rattle.answers.specs.declared.Lamp.{Lamp}
use Rattle.answers.specs.Paper.{number_of}
use Rattle.report.specs.Text.{lamp_text}

-- what stands beyond the last lamp
abbrev pub dark : Lamp
dark = record { verdict = Inconclusive; left = 0 }

-- the first k lines
unfoldable pub lines_to : ℕ → (ℕ → ℕ) → List Lamp → List ℕ
lines_to zero number lamps = []
lines_to (suc k) number lamps = lines_to k number lamps ++ lamp_text (number k) (get_or lamps k dark)

-- a line for each lamp, by the number of its event
abbrev pub lines_text : (ℕ → ℕ) → List Lamp → List ℕ
lines_text number lamps = lines_to (length lamps) number lamps

-- other numbers play no part
pub lines_same : (k : ℕ) (m n : ℕ → ℕ) (lamps : List Lamp) → ((j : ℕ) → j < k → m j ≡ n j) → lines_to k m lamps ≡ lines_to k n lamps
unfolding lines_to
lines_same zero m n lamps same = refl
lines_same (suc k) m n lamps same = ap₂ (λ (s : List ℕ) (j : ℕ). s ++ lamp_text j (get_or lamps k dark)) (lines_same k m n lamps (λ j l. same j (omega arith))) (same k (omega arith))

-- ---- from bytes

abbrev pub numbered : ℕ → Verdict
numbered n = cond (eqb n 0) Inconclusive (cond (eqb n 1) True (cond (eqb n 2) False OutOfModel))

abbrev pub lamp_of : ℕ → ℕ → Lamp
lamp_of verdict left = record { verdict = numbered verdict; left = left }

unfoldable pub byte_lines : ℕ → List ℕ → List ℕ → List ℕ → List ℕ
byte_lines zero verdicts lefts numbers = []
byte_lines (suc k) verdicts lefts numbers = byte_lines k verdicts lefts numbers ++ lamp_text (get_or numbers k 0) (lamp_of (get_or verdicts k 0) (get_or lefts k 0))

pub number_back : (v : Verdict) → numbered (number_of v) ≡ v
number_back Inconclusive = refl
number_back True = refl
number_back False = refl
number_back OutOfModel = refl
