-- WHAT A C PROGRAM IS TOLD: each call's answer as four numbers. Number 0 is accepted; what is not named is 0.
use Rattle.std.specs.Prelude.{ℕ, ◌-◌, Bool, cond, Result, Ok, Err}
use Rattle.answers.specs.declared.Refusal.{Refusal}
use Rattle.answers.specs.Results as answers
use Rattle.answers.specs.Results.{Outcome}
use Rattle.answers.specs.Paper.{number_of, kind_number}
use Rattle.answers.specs.Chain as chain
use Rattle.controller.specs.declared.Stop.{Stop}
use Rattle.controller.specs.declared.LogAnswer.{LogAnswer}
use Rattle.controller.specs.declared.LogAnswer.TheVariants as Logs
use Rattle.walk.specs.declared.Lengths.{Lengths}
use Rattle.closing.specs.declared.Closed.{Closed}
use Rattle.closing.specs.declared.Closed.TheVariants as Closes
use Rattle.closing.specs.Closing.{closing_number}
use Rattle.plant_writer.specs.declared.Length as tables
use Rattle.day_writer.specs.declared.Length as days
use Rattle.fixed_machine.specs.declared.Size.{Size}
use Rattle.machine_events.specs.declared.Through.{Through}
use Rattle.machine_lookup.specs.declared.Stand.{Stand}
use Rattle.shown.specs.declared.Failing.{Failing}
use Rattle.shown.specs.declared.Failing.TheVariants.{Start, Moves, Fairness, Agreement, Value}
use Rattle.neighbour.specs.declared.Judged.{Judged}
use Rattle.neighbour.specs.declared.Judged.TheVariants as Judges
use Rattle.settings.specs.declared.SheetRefusal.{SheetRefusal}
use Rattle.settings.specs.declared.Spot.{Spot}
use Rattle.sheet_store.specs.declared.Sheets.{Sheets}
use Rattle.sheet_store.specs.declared.Length.{Length}
use Rattle.told.specs.declared.Answer.{Answer}

abbrev pub answer_as : ℕ → ℕ → ℕ → ℕ → Answer
answer_as number place count value = record { number = number; place = place; count = count; value = value }

-- ---- refusals

-- a refusal's number and place
abbrev pub refused_by : Refusal → Answer
refused_by r = answer_as (kind_number r.kind) r.place 0 0

-- an event's, behind so many that were taken
abbrev pub stopped_by : Stop → Answer
stopped_by s = answer_as (kind_number s.refusal.kind) s.refusal.place s.event 0

-- ---- the box, and logs

-- the verdict is the value, and the states that are left are counted
abbrev pub shown_as : answers.Answer → Answer
shown_as (Ok l) = answer_as 0 0 l.left (number_of l.verdict)
shown_as (Err r) = refused_by r

-- the events are counted: all, or those before the one that is refused
abbrev pub heard_as : LogAnswer → Answer
heard_as (Logs.Watched n) = answer_as 0 0 n.count 0
heard_as (Logs.Stopped s) = stopped_by s
heard_as (Logs.Refused r) = refused_by r

-- a log that may end where it stands
abbrev pub end_as : Outcome → Answer
end_as (Ok _) = answer_as 0 0 0 0
end_as (Err r) = refused_by r

-- the value is how long the stem is, the count how long the loop
abbrev pub run_as : Result Lengths Refusal → Answer
run_as (Ok l) = answer_as 0 0 l.turn l.stem
run_as (Err r) = refused_by r

-- the value is the closing verdict's number
abbrev pub closed_as : Closed → Answer
closed_as (Closes.At v) = answer_as 0 0 0 (closing_number v)
closed_as (Closes.Stopped s) = stopped_by s
closed_as (Closes.Refused r) = refused_by r

-- ---- texts: their bytes are counted

abbrev pub wrote_as : Result tables.Length Refusal → Answer
wrote_as (Ok l) = answer_as 0 0 l.bytes 0
wrote_as (Err r) = refused_by r

abbrev pub sheet_wrote_as : Result days.Length Refusal → Answer
sheet_wrote_as (Ok l) = answer_as 0 0 l.bytes 0
sheet_wrote_as (Err r) = refused_by r

-- ---- fixed machines

-- the rows are counted, and the value is how many bytes a row has
abbrev pub made_as : Result Size Refusal → Answer
made_as (Ok s) = answer_as 0 0 s.rows s.bytes
made_as (Err r) = refused_by r

-- the verdict is the value, the states that are left are counted, and the place is the next row
abbrev pub looked_as : Result Stand Refusal → Answer
looked_as (Ok s) = answer_as 0 s.row s.left s.verdict
looked_as (Err r) = refused_by r

-- the place is the row behind the events that were looked up, also where the next one is refused, and these are counted
abbrev pub through_as : Through → Answer
through_as t = answer_as (chain.number t.outcome) t.row t.done 0

-- ---- reports

-- 1 keeps the rule, 2 breaks it
abbrev pub which_of : Bool → ℕ
which_of keeps = cond keeps 1 2

-- the rules of a run, in their order
abbrev pub failing_number : Failing → ℕ
failing_number Start = 1
failing_number Moves = 2
failing_number Fairness = 3
failing_number Agreement = 4
failing_number Value = 5

-- the value is 0 for a right report, 1 for a wrong run, which is counted and the place is the rule that it fails, and 2 for a wrong verdict
abbrev pub judged_as : Judged → Answer
judged_as Judges.Accepted = answer_as 0 0 0 0
judged_as (Judges.WrongRun f) = answer_as 0 (failing_number f.failing) (which_of f.keeps) 1
judged_as Judges.WrongVerdict = answer_as 0 0 0 2
judged_as (Judges.Stopped s) = stopped_by s
judged_as (Judges.Refused r) = refused_by r

-- ---- sheets

-- a refusal's number and place, and the sheet that it is about
abbrev pub refused_sheet : SheetRefusal → Answer
refused_sheet r = answer_as (kind_number r.kind) r.place 0 r.sheet

-- where a value begins, how many bytes it has, and in which sheet it stands
abbrev pub asked_as : Result Spot SheetRefusal → Answer
asked_as (Ok p) = answer_as 0 p.from (p.upto - p.from) p.sheet
asked_as (Err r) = refused_sheet r

-- how many sheets are kept
abbrev pub held_as : Result Sheets SheetRefusal → Answer
held_as (Ok n) = answer_as 0 0 n.count 0
held_as (Err r) = refused_sheet r

-- how many bytes were copied
abbrev pub copied_as : Result Length SheetRefusal → Answer
copied_as (Ok n) = answer_as 0 0 n.bytes 0
copied_as (Err r) = refused_sheet r
