-- What the calls on a monitor answer: the checks in their order (01, Refusal numbers), and behind them the monitor of `model`, which its theorems speak of.
use Rattle.std.specs.Prelude.{ℕ, ◌+◌, ◌^◌, Bool, false, ◌&&◌, not, leb, replicate, Ok, Err}
use mathlib.Core.List.{List, foldl}
use Rattle.meaning.specs.Formula.{Formula}
use Rattle.meaning.specs.Run as run
use Rattle.pairs.specs.declared.Pairs.{Pairs}
use Rattle.pairs.specs.Sets.{empty_of}
use Rattle.model.specs.Monitor as model
use Rattle.model.specs.Checks.{pairs_ok, event_ok}
use Rattle.answers.specs.declared.Kind.TheVariants.{Value, IllegalEvent, Number as NumberKind}
use Rattle.answers.specs.Results.{Answer}
use Rattle.answers.specs.Results.{Outcome}
use Rattle.answers.specs.Paper.{shown}
use Rattle.answers.specs.Chain.{and_then, unless}
use Rattle.plant.specs.declared.Plant.{Plant}
use Rattle.plant.specs.Table.{plant_of}
use Rattle.syntax.specs.declared.Rule.{Rule}
use Rattle.syntax.specs.Value.{formula_of}
use Rattle.event_log.specs.declared.Event.{Event}
use Rattle.event_log.specs.Legal.{seen_of}
use Rattle.checks.specs.Checks.{input_outcome}
use Rattle.sides.specs.declared.Monitor.{Monitor}
use Rattle.sides.specs.Held.{model_of, monitor_of}
use Rattle.event_numbers.specs.Numbers.{number_of, brings, in_turn}
use Rattle.monitor.specs.declared.Watched.{Watched}

-- the monitor beside a refusal to open one
abbrev pub no_monitor : Monitor
no_monitor = record { seen = false; keeps = record { words = replicate 64 0 }; breaks = record { words = replicate 64 0 }; expected = 0 }

-- ---- the lamp

-- the verdict by which sets are occupied, and in how many states the plant can be
abbrev pub lamp_of : model.Monitor → Answer
lamp_of m = shown (not (empty_of m.keeps)) (not (empty_of m.breaks)) (model.left m)

-- with a refusal the monitor handed in, else the new one, which expects a number, and its lamp
abbrev pub watched : Outcome → Monitor → ℕ → model.Monitor → Watched
watched (Ok _) old expected new = record { answer = lamp_of new; monitor = monitor_of expected new }
watched (Err r) old expected new = record { answer = Err r; monitor = old }

abbrev pub lit : Outcome → model.Monitor → Answer
lit (Ok _) m = lamp_of m
lit (Err r) m = Err r

-- ---- the calls, with the table and the rule that are handed in

module _ (p : Plant) (fair label next : List ℕ) (rule : Rule) where
  abbrev pub table : run.Plant
  table = plant_of p fair label next

  abbrev pub formula : Formula
  formula = formula_of rule

  -- 1, 2 and 9, where 9 asks for the sets of pairs too
  abbrev pub checked_of : Bool → Outcome
  checked_of sets = and_then (input_outcome p fair label next rule) (unless sets Value)

  abbrev fits : Pairs → Bool
  fits s = pairs_ok table formula s.words

  unfoldable pub open_call : Pairs → Watched
  open_call live = watched (checked_of (fits live)) no_monitor 0 (model.opening table formula live.words)

  -- and of a monitor for both its sets, and that it expects a number or says that they are used up
  abbrev pub monitor_fits : Monitor → Bool
  monitor_fits m = fits m.keeps && (fits m.breaks && leb m.expected (2 ^ 32))

  unfoldable pub look_call : Monitor → Answer
  look_call m = lit (checked_of (monitor_fits m)) (model_of m)

  -- 10 comes behind these, and 16 last
  abbrev pub step_checked : Pairs → Monitor → Event → Outcome
  step_checked live m e =
      and_then (checked_of (fits live && monitor_fits m)) (and_then (unless (event_ok table (seen_of e)) IllegalEvent) (unless (in_turn m.seen m.expected (number_of e.num m.expected)) NumberKind))

  -- all that the event brings, one after the other; behind it the next number is expected
  unfoldable pub step_call : Pairs → Monitor → Event → Watched
  step_call live m e =
      watched (step_checked live m e) m (number_of e.num m.expected + 1) (foldl (model.step_of table formula live.words) (model_of m) (brings m.seen m.expected e))
