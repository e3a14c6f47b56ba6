-- A NEIGHBOUR'S REPORT: what `judge_report` (neighbour/src) answers, from the bytes of three texts, a claim and two runs. One claim stands at the end. FromReport proves it, as
-- `reports_right`; this page has no proof, so what it takes from other files is what must be believed. It reads as WholeLog (front_door/specs) does, and beside
-- it: CorrectReport (Correct) says what a right report is, by `meaning` alone.
-- `judged_of` (neighbour/specs/Judged) is by the contract of `judge_report` its answer.
use Rattle.std.specs.Prelude.{ℕ, ◌<◌, ◌≡◌, ◌↔◌, List, length}
use Rattle.meaning.specs.Formula.{Formula}
use Rattle.meaning.specs.Run.{Plant}
use Rattle.meaning.specs.Event.{since}
use Rattle.meaning.specs.Limits.{AcceptedTable}
use Rattle.event_log.specs.declared.Event.{Event}
use Rattle.watching.specs.Filled.{filled}
use Rattle.transcript.specs.Said.{bytes}
use Rattle.front_door.specs.FrontDoor.{SaysTable, SaysLog, TakenAt}
use Rattle.front_door.specs.WholeLog.{SaysBare}
use Rattle.neighbour.specs.declared.Judged.TheVariants.{Accepted}
use Rattle.neighbour.specs.Report.{report_of}
use Rattle.neighbour.specs.Judged.{judged_of}
use Rattle.reported.specs.Correct.{CorrectReport}

-- texts that say an accepted table, a rule and events that are all accepted: a report is accepted exactly if it is right, judged by all events, with the unseen ones put in, and at
-- the last restart
abbrev pub ReportsRight : Type 0
ReportsRight = (table rule log : List ℕ) (t : Plant) (f : Formula) (es : List Event) → SaysTable (bytes table) t → AcceptedTable t → SaysBare rule t.props f → SaysLog (bytes log) t.props es
    → ((n : ℕ) → n < length es → TakenAt t es n) → (claim : ℕ) (keep_stem keep_loop break_stem break_loop : List ℕ)
    → (judged_of table rule log (report_of claim keep_stem keep_loop break_stem break_loop) ≡ Accepted) ↔ CorrectReport t f (since (filled es)) keep_stem keep_loop break_stem break_loop claim
