-- THE DAY SHEET WORKED OUT AFRESH (02, n). What must be believed of day sheets is here.
use Rattle.std.specs.Prelude.{ℕ, ◌^◌, Bool, cond, length}
use mathlib.Core.List.{List, [], ◌∷◌, map, foldl}
use Rattle.answers.specs.declared.Verdict.{Verdict}
use Rattle.answers.specs.declared.Verdict.TheVariants.{Inconclusive}
use Rattle.stretches.specs.declared.Stretch.{Stretch}
use Rattle.stretches.specs.Sheet.{decides}

-- an event, one that was lost too: its number, whether it is a restart, and the verdict that the lamp then shows
pub record Shown : Type 0 where
  pub number : ℕ
  pub new : Bool
  pub verdict : Verdict

-- an event before stretches belongs to the first of them
abbrev pub before : Shown → List (List Shown) → List (List Shown)
before x [] = (x ∷ []) ∷ []
before x (g ∷ gs) = (x ∷ g) ∷ gs

-- THE STRETCHES of an event and those behind it: each restart begins another. Whether the first event is one plays no part
unfoldable pub stretches_from : Shown → List Shown → List (List Shown)
stretches_from x [] = (x ∷ []) ∷ []
stretches_from x (y ∷ ys) = cond y.new ((x ∷ []) ∷ stretches_from y ys) (before x (stretches_from y ys))

abbrev pub stretches : List Shown → List (List Shown)
stretches [] = []
stretches (x ∷ xs) = stretches_from x xs

-- ---- the line of a stretch

abbrev pub first_number : List Shown → ℕ
first_number [] = 0
first_number (x ∷ xs) = x.number

abbrev pub last_verdict : List Shown → Verdict
last_verdict g = foldl (λ v (x : Shown). x.verdict) Inconclusive g

-- the number of the first event at which the verdict is true or false; 2 ^ 32, which no event has, where there is none
abbrev pub decided_in : List Shown → ℕ
decided_in [] = 2 ^ 32
decided_in (x ∷ xs) = cond (decides x.verdict) x.number (decided_in xs)

abbrev pub line_of : List Shown → Stretch
line_of g = record { first = first_number g; events = length g; verdict = last_verdict g; decided = decided_in g }

-- THE LINES of a day, one for each stretch
abbrev pub lines_of : List Shown → List Stretch
lines_of xs = map line_of (stretches xs)
