-- WHAT EVENTS IN A MACHINE SHOW, looked up one after another from a row on, up to the first that is refused. What must be believed is here, with machine_lookup/specs/Lookup.
use Rattle.std.specs.Prelude.{ℕ, zero, suc, ◌+◌, ◌/◌, ◌%◌, ◌≡◌, ◌&&◌, cond, List, [], ◌∷◌, ◌++◌, eqb, leb, length, get_or, Result, Ok, Err}
use Rattle.words.specs.Over.{over}
use Rattle.answers.specs.declared.Kind.{Kind}
use Rattle.answers.specs.declared.Kind.TheVariants.{Counts, Value, Room}
use Rattle.answers.specs.Results.{Outcome}
use Rattle.answers.specs.Paper.{refused_at}
use Rattle.event_log.specs.declared.Event.{Event}
use Rattle.columns.specs.Columns.{event, count_of}
use Rattle.machine_lookup.specs.declared.Stand.{Stand}
use Rattle.answers.specs.declared.Refusal.{Refusal}
use Rattle.machine_lookup.specs.Lookup.{holds_row, looked_up}
use Rattle.machine_events.specs.declared.Through.{Through}

-- the event of a byte: what is seen times 16, what is given times 2, and 1 for a restart
abbrev pub event_in : ℕ → Event
event_in b = event (b / 16) (b / 2 % 8) (eqb (b % 2) 1)

-- where the events led, and what each showed: its verdict's number and `left`
pub record Shown : Type 0 where
  pub through : Through
  pub shown : List ℕ

-- so many events behind which a row stands, and what they showed
abbrev pub standing : ℕ → ℕ → List ℕ → Shown
standing n row bytes = record { through = record { outcome = Ok tt; done = n; row = row }; shown = bytes }

-- nothing is looked up
abbrev pub stopped : ℕ → Kind → Shown
stopped row k = record { through = record { outcome = Err (refused_at k 0); done = 0; row = row }; shown = [] }

-- one event more is found, or refused
abbrev pub found : Shown → Result Stand Refusal → Shown
found s (Ok x) = standing (suc s.through.done) x.row (s.shown ++ x.verdict ∷ x.left ∷ [])
found s (Err r) = record { through = record { outcome = Err r; done = s.through.done; row = s.through.row }; shown = s.shown }

-- behind a refusal nothing more happens
abbrev pub go_on : Shown → (ℕ → Result Stand Refusal) → Outcome → Shown
go_on s look (Ok _) = found s (look s.through.row)
go_on s look (Err r) = s

module _ (machine : List ℕ) (props row : ℕ) (events : List ℕ) where
  -- the first n events, each from the row where the last one led
  unfoldable pub through_to : ℕ → Shown
  through_to zero = standing 0 row []
  through_to (suc n) = go_on (through_to n) (λ r. looked_up machine props r (event_in (get_or events n 0))) (through_to n).through.outcome

  -- ALL OF THEM, behind 1, 9 for bytes or a row that are none, and 11 where two bytes for each find no room
  unfoldable pub through_of : ℕ → Shown
  through_of room =
      cond (leb 1 props && leb props 3)
      (cond (holds_row (length machine) (count_of props + 2) row) (cond (leb (length events) (room / 2)) (through_to (length events)) (stopped row Room)) (stopped row Value)) (stopped row Counts)

-- an answer and a buffer say it
pub record Says (s : Shown) (old new : List ℕ) (r : Through) : Type 0 where
  pub answer : r ≡ s.through
  pub bytes : new ≡ over s.shown old
