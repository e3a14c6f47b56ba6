-- WHAT A DAY ENDS WITH: the log is followed to its end. Behind the last event the edition decides.
use Rattle.std.specs.Prelude.{ℕ, cond, List, eqb}
use Rattle.answers.specs.declared.Kind.TheVariants.{ClosingEdition}
use Rattle.answers.specs.declared.Verdict.{Verdict}
use Rattle.answers.specs.declared.Verdict.TheVariants as Verdicts
use Rattle.answers.specs.Paper.{refused_at}
use Rattle.text.specs.Number.{width_of}
use Rattle.syntax.specs.declared.Rule.{Rule}
use Rattle.event_log.specs.declared.Event.{Event}
use Rattle.event_log.specs.Read.{event_at, whole_lines}
use Rattle.sides.specs.declared.Monitor.{Monitor}
use Rattle.sides.specs.Held.{model_of, lamp_in}
use Rattle.controller.specs.declared.LogAnswer.{LogAnswer}
use Rattle.controller.specs.declared.LogAnswer.TheVariants as Logs
use Rattle.controller.specs.declared.LogEnd.{LogEnd}
use Rattle.controller.specs.Whole.{end_of}
use Rattle.closing.specs.declared.ClosingVerdict.{ClosingVerdict}
use Rattle.closing.specs.declared.ClosingVerdict.TheVariants.{Inconclusive, True, False, OutOfModel, PresumablyTrue, PresumablyFalse}
use Rattle.closing.specs.declared.Closed.{Closed}
use Rattle.closing.specs.declared.Closed.TheVariants.{At, Stopped, Refused}
use Rattle.last_stretch.specs.declared.Found.{Found}
use Rattle.last_stretch.specs.Stretch.{found_of}

-- the numbers of the four verdicts (01, The monitor's state), and two more (02, k)
abbrev pub closing_number : ClosingVerdict → ℕ
closing_number Inconclusive = 0
closing_number True = 1
closing_number False = 2
closing_number OutOfModel = 3
closing_number PresumablyTrue = 4
closing_number PresumablyFalse = 5

-- a verdict as it is
abbrev pub of_verdict : Verdict → ClosingVerdict
of_verdict Verdicts.Inconclusive = Inconclusive
of_verdict Verdicts.True = True
of_verdict Verdicts.False = False
of_verdict Verdicts.OutOfModel = OutOfModel

-- what is presumed: nothing where the stretch is not ready
abbrev pub presumed_by : Found → ClosingVerdict
presumed_by f = cond f.ready (cond f.holds PresumablyTrue PresumablyFalse) Inconclusive

unfoldable pub presumed_of : Rule → (ℕ → Event) → ℕ → ClosingVerdict
presumed_of rule event n = presumed_by (found_of rule event n)

-- edition 2: a decided verdict stands
abbrev pub second_of : Verdict → ClosingVerdict → ClosingVerdict
second_of Verdicts.Inconclusive presumed = presumed
second_of Verdicts.True presumed = True
second_of Verdicts.False presumed = False
second_of Verdicts.OutOfModel presumed = OutOfModel

-- by the edition: 1 has the last verdict, and there is no other than these two
abbrev pub closed_by : ℕ → Verdict → ClosingVerdict → Closed
closed_by edition v presumed = cond (eqb edition 1) (At (of_verdict v)) (cond (eqb edition 2) (At (second_of v presumed)) (Refused (refused_at ClosingEdition 0)))

-- behind n lines, all of them taken, with the monitor there
unfoldable pub closed_at : Rule → (ℕ → Event) → ℕ → Monitor → ℕ → Closed
closed_at rule event n last edition = closed_by edition (lamp_in (model_of last)).verdict (presumed_of rule event n)

-- unless the log was refused, or one of its events
abbrev pub unless_stopped : LogAnswer → Closed → Closed
unless_stopped (Logs.Watched n) c = c
unless_stopped (Logs.Stopped s) c = Stopped s
unless_stopped (Logs.Refused r) c = Refused r

-- where a log ends
abbrev pub closed_end : LogEnd → List ℕ → ℕ → Closed
closed_end e log edition =
    let width = width_of e.table.plant.props in
    unless_stopped e.answer (closed_at e.rule (event_at width log) (whole_lines width log) e.last edition)

-- the texts of a table, a rule and a log, and an edition
unfoldable pub closed_of : List ℕ → List ℕ → List ℕ → ℕ → Closed
closed_of table rule log edition = closed_end (end_of table rule log) log edition
