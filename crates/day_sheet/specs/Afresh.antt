-- THE DAY SHEET OF EVENTS (02, n), worked out afresh from all events, lost ones among them. With stretches/specs/Afresh this is what must be believed of it.
use Rattle.std.specs.Prelude.{ℕ, ◌+◌, ◌-◌, Bool, true, false, not, List, [], ◌∷◌, ◌++◌}
use Rattle.meaning.specs.Formula.{Formula}
use Rattle.meaning.specs.Run as run
use Rattle.meaning.specs.Event as meaning
use Rattle.pairs.specs.Sets.{empty_of}
use Rattle.model.specs.Monitor as model
use Rattle.answers.specs.declared.Verdict.{Verdict}
use Rattle.answers.specs.Paper.{verdict_for}
use Rattle.event_log.specs.declared.Event.{Event}
use Rattle.event_numbers.specs.Numbers.{number_of, missing_of, brings}
use Rattle.stretches.specs.declared.Stretch.{Stretch}
use Rattle.stretches.specs.Afresh.{Shown, lines_of}

-- an event, one that was not received among them, with its number
pub record Numbered : Type 0 where
  pub number : ℕ
  pub event : meaning.Event

-- numbers one after the other
abbrev pub count_from : ℕ → List meaning.Event → List Numbered
count_from n [] = []
count_from n (e ∷ es) = record { number = n; event = e } ∷ count_from (n + 1) es

-- what an event brings: those that are missing have the numbers before its own
abbrev pub numbered_by : Bool → ℕ → Event → List Numbered
numbered_by seen expected e = count_from (number_of e.num expected - missing_of seen expected (number_of e.num expected)) (brings seen expected e)

-- all that events bring, one after the other
abbrev pub numbered_from : Bool → ℕ → List Event → List Numbered
numbered_from seen expected [] = []
numbered_from seen expected (e ∷ es) = numbered_by seen expected e ++ numbered_from true (number_of e.num expected + 1) es

-- the verdict of a monitor: which of its sets are occupied
abbrev pub verdict_in : model.Monitor → Verdict
verdict_in m = verdict_for (not (empty_of m.keeps)) (not (empty_of m.breaks))

-- what the lamp shows at each of them
module _ (T : run.Plant) (f : Formula) (live : List ℕ) where
  abbrev pub shown_at : model.Monitor → Numbered → Shown
  shown_at m x = record { number = x.number; new = x.event.new; verdict = verdict_in (model.step_of T f live m x.event) }

  abbrev pub shown_from : model.Monitor → List Numbered → List Shown
  shown_from m [] = []
  shown_from m (x ∷ xs) = shown_at m x ∷ shown_from (model.step_of T f live m x.event) xs

  -- from the opening on, where no event came and 0 is expected
  abbrev pub shown_of : List Event → List Shown
  shown_of es = shown_from (model.opening T f live) (numbered_from false 0 es)

  -- THE LINES OF A DAY
  abbrev pub afresh : List Event → List Stretch
  afresh es = lines_of (shown_of es)
