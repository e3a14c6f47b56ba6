-- WHAT A REPORT IS ANSWERED: the log is followed to its end. Behind the last event the claim and the lengths are checked, then the needed runs are, and then the claim is
-- compared with the verdict.
use Rattle.std.specs.Prelude.{ℕ, Bool, true, false, ◌||◌, cond, List, eqb, take, Ok, Err, Result}
use Rattle.answers.specs.declared.Verdict.{Verdict}
use Rattle.answers.specs.Results.{Outcome}
use Rattle.answers.specs.Paper.{number_of}
use Rattle.text.specs.Number.{width_of}
use Rattle.plant.specs.declared.Plant.{Plant}
use Rattle.plant.specs.declared.Table.{Table}
use Rattle.syntax.specs.declared.Rule.{Rule}
use Rattle.event_log.specs.declared.Event.{Event}
use Rattle.event_log.specs.Read.{event_at, whole_lines}
use Rattle.sides.specs.declared.Monitor.{Monitor}
use Rattle.sides.specs.Held.{model_of, lamp_in}
use Rattle.opened.specs.Opened.{fair_in, label_in, next_in}
use Rattle.controller.specs.declared.LogAnswer.{LogAnswer}
use Rattle.controller.specs.declared.LogAnswer.TheVariants as Logs
use Rattle.controller.specs.declared.LogEnd.{LogEnd}
use Rattle.controller.specs.Whole.{end_of}
use Rattle.shown.specs.declared.Failing.{Failing}
use Rattle.shown.specs.Positions.{mark_of}
use Rattle.shown.specs.Tests.{checked_of}
use Rattle.neighbour.specs.declared.sent.ShownRun.{ShownRun}
use Rattle.neighbour.specs.declared.sent.Report.{Report}
use Rattle.neighbour.specs.declared.Judged.{Judged}
use Rattle.neighbour.specs.declared.Judged.TheVariants.{Accepted, WrongRun, WrongVerdict, Stopped, Refused}
use Rattle.neighbour.specs.Report.{needs_of, report_checked}

-- ---- by what was found of the two runs

-- the verdict is as claimed; of an inconclusive one two right runs are proof enough
unfoldable pub confirmed_by : ℕ → Verdict → Bool
confirmed_by claim v = eqb claim 0 || eqb claim (number_of v)

-- behind a run that keeps the rule and is right, or not needed
abbrev pub decided_second : ℕ → Verdict → Result (Unit {0}) Failing → Judged
decided_second claim v (Err x) = WrongRun (record { keeps = false; failing = x })
decided_second claim v (Ok _) = cond (confirmed_by claim v) Accepted WrongVerdict

abbrev pub decided_of : ℕ → Verdict → Result (Unit {0}) Failing → Result (Unit {0}) Failing → Judged
decided_of claim v (Err x) second = WrongRun (record { keeps = true; failing = x })
decided_of claim v (Ok _) second = decided_second claim v second

-- a check, and what comes behind it
abbrev pub unless_refused : Outcome → Judged → Judged
unless_refused (Ok _) j = j
unless_refused (Err r) j = Refused r

-- ---- of n events

module _ (p : Plant) (fair label next : List ℕ) (rule : Rule) (event : ℕ → Event) (n : ℕ) where
  -- what the check finds of a run of the kind; nothing where the claim does not need it
  unfoldable pub looked_at : ℕ → ℕ → Bool → ShownRun → Result (Unit {0}) Failing
  looked_at mark claim keeps run = cond (needs_of claim keeps) (checked_of p fair label next rule event n mark keeps (take run.len run.states) run.stem) (Ok tt)

  -- both runs, judged at the last restart, and then the verdict
  unfoldable pub report_judged : Verdict → Report → Judged
  report_judged v r = decided_of r.claim v (looked_at (mark_of event n) r.claim true r.keeping) (looked_at (mark_of event n) r.claim false r.breaking)

  -- with the monitor behind the last event
  unfoldable pub judged_at : Monitor → Report → Judged
  judged_at last r = unless_refused (report_checked r.claim r.keeping.long r.breaking.long) (report_judged (lamp_in (model_of last)).verdict r)

-- ---- the log

-- of the table as many parts are lent as it counts; with the verdict, and with the monitor behind the last event
abbrev pub judged_with : Table → Rule → List ℕ → Verdict → Report → Judged
judged_with t rule log v r =
    let width = width_of t.plant.props in
    report_judged t.plant (fair_in t) (label_in t) (next_in t) rule (event_at width log) (whole_lines width log) v r

abbrev pub judged_after : Table → Rule → List ℕ → Monitor → Report → Judged
judged_after t rule log last r =
    let width = width_of t.plant.props in
    judged_at t.plant (fair_in t) (label_in t) (next_in t) rule (event_at width log) (whole_lines width log) last r

-- unless the log was refused, or one of its events
abbrev pub unless_stopped : LogAnswer → Judged → Judged
unless_stopped (Logs.Watched n) j = j
unless_stopped (Logs.Stopped s) j = Stopped s
unless_stopped (Logs.Refused r) j = Refused r

-- where a log ends
abbrev pub judged_end : LogEnd → List ℕ → Report → Judged
judged_end e log r = unless_stopped e.answer (judged_after e.table e.rule log e.last r)

-- the texts of a table, a rule and a log, and a report on them
unfoldable pub judged_of : List ℕ → List ℕ → List ℕ → Report → Judged
judged_of table rule log r = judged_end (end_of table rule log) log r
