-- The rules of the check as tests, as the loops work them out.
use Rattle.std.specs.Prelude.{ℕ, ◌+◌, Bool, ◌&&◌, cond, not, List, ltb, leb, length, get_or, Result, Ok, Err}
use Rattle.meaning.specs.Bit.{bit}
use Rattle.plant.specs.declared.Plant.{Plant}
use Rattle.syntax.specs.declared.Rule.{Rule}
use Rattle.words.specs.Below.{any_below, all_below}
use Rattle.event_log.specs.declared.Event.{Event}
use Rattle.labels.specs.Labels.{agrees}
use Rattle.around.specs.Around.{place}
use Rattle.around.specs.Along.{labels_of}
use Rattle.around.specs.Fill.{around_of}
use Rattle.shown.specs.declared.Failing.{Failing}
use Rattle.shown.specs.declared.Failing.TheVariants.{Start, Moves, Fairness, Agreement, Value}
use Rattle.shown.specs.Positions.{position_at}

unfoldable pub starts_of : ℕ → ℕ → List ℕ → Bool
starts_of start states run = (ltb 0 (length run) && ltb (get_or run 0 0) states) && bit start (get_or run 0 0)

-- the move from position i
abbrev pub move_at : List ℕ → ℕ → List ℕ → ℕ → ℕ → Bool
move_at next states run s i = ltb (get_or run i 0) states && bit (get_or next (get_or run i 0) 0) (get_or run (place s (length run) (i + 1)) 0)

unfoldable pub moves_of : List ℕ → ℕ → List ℕ → ℕ → Bool
moves_of next states run s = ltb s (length run) && all_below (length run) (move_at next states run s)

-- the loop meets the set
unfoldable pub meets_of : ℕ → List ℕ → ℕ → Bool
meets_of set run s = any_below (length run) (λ i. leb s i && bit set (get_or run i 0))

unfoldable pub fair_of : List ℕ → List ℕ → ℕ → Bool
fair_of fair run s = all_below (length fair) (λ j. meets_of (get_or fair j 0) run s)

-- the state at position i agrees with an event
abbrev pub agrees_at : List ℕ → List ℕ → ℕ → ℕ → ℕ → ℕ → Bool
agrees_at label run s i see val = agrees see val (get_or label (get_or run (place s (length run) i) 0) 0)

-- with the event of line i, at its position
abbrev pub agree_at : List ℕ → List ℕ → ℕ → (ℕ → Event) → ℕ → Bool
agree_at label run s event i = agrees_at label run s (position_at event i) (event i).see (event i).val

-- with n events
unfoldable pub agree_of : List ℕ → List ℕ → ℕ → (ℕ → Event) → ℕ → Bool
agree_of label run s event n = all_below n (agree_at label run s event)

-- the value asked
abbrev pub kept_of : Bool → Bool → Bool
kept_of asked value = cond asked value (not value)

-- the first that fails
unfoldable pub first_of : Bool → Bool → Bool → Bool → Bool → Result (Unit {0}) Failing
first_of starts moves fair agree kept =
    cond starts (cond moves (cond fair (cond agree (cond kept (Ok tt) (Err Value)) (Err Agreement)) (Err Fairness)) (Err Moves)) (Err Start)

-- what the check finds, of n events
unfoldable pub checked_of : Plant → List ℕ → List ℕ → List ℕ → Rule → (ℕ → Event) → ℕ → ℕ → Bool → List ℕ → ℕ → Result (Unit {0}) Failing
checked_of p fair label next rule event n mark keeps run s =
    first_of (starts_of p.start p.states run) (moves_of next p.states run s) (fair_of fair run s) (agree_of label run s event n)
    (kept_of keeps (around_of rule (labels_of label run) s mark))
