-- THE MINUTES OF A DAY: what `note_texts` (minutes/src) answers, from the bytes of three texts to a day sheet. Two claims stand at the end. FromMinutes proves them, as `minutes_right_lem`
-- and `every_minutes`; this page has no proof, so what it takes from other files is what must be believed. It reads as FrontDoor and WholeLog (front_door/specs) do, and beside them:
-- `numbered_from` (day_sheet/specs/Afresh) gives every event its number, those that were not received among them, and `lines_of` (stretches/specs/Afresh) makes lines of what was shown.
-- `minutes_of` (minutes/specs/Minutes) is by the contract of `note_texts` its answer.
use Rattle.std.specs.Prelude.{ℕ, suc, ◌≤◌, ◌<◌, ◌≡◌, false, List, map, length, get_or, take, Ok, Err}
use Rattle.std.proofs.Math.Bool.{So}
use Rattle.meaning.specs.Formula.{Formula}
use Rattle.meaning.specs.Run.{Plant}
use Rattle.meaning.specs.Event as meaning
use Rattle.meaning.specs.Event.{since}
use Rattle.meaning.specs.Verdict.{Right}
use Rattle.meaning.specs.Limits.{AcceptedTable}
use Rattle.text.specs.Number.{width_of}
use Rattle.text.specs.Place.{RefusedAt}
use Rattle.answers.specs.declared.Verdict.TheVariants.{Inconclusive}
use Rattle.answers.specs.declared.Kind.{Kind}
use Rattle.answers.specs.declared.Kind.TheVariants.{Bits, TableText, LogText, IllegalEvent, Stretches, Number as NumberKind}
use Rattle.answers.specs.Paper.{number_of, refused_at}
use Rattle.plant.specs.Table.{BitBeyond}
use Rattle.plant.specs.Text.{table_form}
use Rattle.plant.specs.Read.{counts_in}
use Rattle.plant.specs.Written.{WellFormed}
use Rattle.rule_text.specs.Paper.{Because}
use Rattle.event_log.specs.declared.Event.{Event}
use Rattle.event_log.specs.Log.{nothing, log_form}
use Rattle.watching.specs.Filled.{filled, InTurnAt}
use Rattle.transcript.specs.Said.{bytes}
use Rattle.front_door.specs.FrontDoor.{SaysTable, SaysLog, LegalAt, TakenAt, line_of}
use Rattle.front_door.specs.WholeLog.{SaysBare}
use Rattle.stretches.specs.declared.DaySheet.{DaySheet}
use Rattle.stretches.specs.Sheet.{sheet_of}
use Rattle.stretches.specs.Afresh.{Shown, lines_of}
use Rattle.day_sheet.specs.Afresh.{Numbered, numbered_from}
use Rattle.minutes.specs.declared.Minutes.{Minutes}
use Rattle.minutes.specs.Minutes.{no_minutes, minutes_of}

-- ---- what was shown in a day

-- beyond the last event
abbrev pub unlit : Shown
unlit = record { number = 0; new = false; verdict = Inconclusive }

-- what the lamp shows at each event of the list with the unseen ones put in. The numbers and the restarts are those of the list, and verdict j is what the runs of t dictate
-- for f behind the events 0 to j
pub record ShownDay (t : Plant) (f : Formula) (es : List Event) (xs : List Shown) : Type 0 where
  pub numbers : map (λ (x : Shown). x.number) xs ≡ map (λ (x : Numbered). x.number) (numbered_from false 0 es)
  pub restarts : map (λ (x : Shown). x.new) xs ≡ map (λ (e : meaning.Event). e.new) (filled es)
  pub right : (j : ℕ) → j < length xs → Right t f (since (take (suc j) (filled es))) (number_of (get_or xs j unlit).verdict)

-- THE SHEET behind events: the lines of what was shown, and no more than 64
pub record SheetAfter (t : Plant) (f : Formula) (es : List Event) (s : DaySheet) : Type 0 where
  pub shown : List Shown
  pub day : ShownDay t f es shown
  pub is : s ≡ sheet_of (lines_of shown)
  pub few : length (lines_of shown) ≤ 64

-- the first k events are accepted, and s is their sheet
pub record UpTo (t : Plant) (f : Formula) (es : List Event) (k : ℕ) (s : DaySheet) : Type 0 where
  pub taken : (n : ℕ) → n < k → TakenAt t es n
  pub sheet : SheetAfter t f (take k es) s

-- event k is refused at the offset of its line, and the sheet is that of the events before it
abbrev pub stopped_by : Kind → Plant → List Event → ℕ → DaySheet → Minutes
stopped_by kind t es k s = record { outcome = Err (refused_at kind (line_of t es k)); sheet = s }

-- all events are accepted; or event k is the first that is not: by 10 where it is not legal, else by 16 where its number is not in turn, else by 23 where it is a restart and there are
-- 64 stretches
pub data Day (t : Plant) (f : Formula) (es : List Event) : Minutes → Type 0 where
  at_end_lem : (s : DaySheet) → UpTo t f es (length es) s → Day t f es (record { outcome = Ok tt; sheet = s })
  at_event : (k : ℕ) (s : DaySheet) → k < length es → UpTo t f es k s → (LegalAt t es k → ⊥) → Day t f es (stopped_by IllegalEvent t es k s)
  at_number : (k : ℕ) (s : DaySheet) → k < length es → UpTo t f es k s → LegalAt t es k → (InTurnAt es k → ⊥) → Day t f es (stopped_by NumberKind t es k s)
  at_stretch : (k : ℕ) (s : DaySheet) → k < length es → UpTo t f es k s → TakenAt t es k → s.count ≡ 64 → So (get_or es k nothing).new → Day t f es (stopped_by Stretches t es k s)

-- ---- what any texts give: the checks, in their order. Before any event a refusal stands beside the empty sheet

-- the log, behind a table and a rule: a day, or no log (12)
pub data OfLog (t : Plant) (f : Formula) (log : List ℕ) (m : Minutes) : Type 0 where
  log_said : (es : List Event) → SaysLog (bytes log) t.props es → Day t f es m → OfLog t f log m
  log_refused : (i : ℕ) → RefusedAt (log_form (width_of t.props)) log i → m ≡ no_minutes (refused_at LogText i) → OfLog t f log m

-- the rule, behind a table: a rule, or one of the reasons for 4 to 8
pub data OfRule (t : Plant) (rule log : List ℕ) (m : Minutes) : Type 0 where
  rule_said : (f : Formula) → SaysBare rule t.props f → OfLog t f log m → OfRule t rule log m
  rule_refused : (kind : Kind) (i : ℕ) → Because (counts_in t) t.fair t.label t.next rule kind i → m ≡ no_minutes (refused_at kind i) → OfRule t rule log m

-- the table: one that is accepted, or none (3), or one with a bit beyond its counts (2)
pub data OfTable (table rule log : List ℕ) (m : Minutes) : Type 0 where
  table_said : (t : Plant) → SaysTable (bytes table) t → AcceptedTable t → OfRule t rule log m → OfTable table rule log m
  table_refused : (i : ℕ) → RefusedAt table_form table i → m ≡ no_minutes (refused_at TableText i) → OfTable table rule log m
  bit_beyond : (t : Plant) → SaysTable (bytes table) t → WellFormed t → BitBeyond (counts_in t) t.fair t.label t.next → m ≡ no_minutes (refused_at Bits 0) → OfTable table rule log m

-- ---- the claims

-- texts that say an accepted table, a rule and events: the sheet is right, line by line
abbrev pub DayMinutes : Type 0
DayMinutes = (table rule log : List ℕ) (t : Plant) (f : Formula) (es : List Event) → SaysTable (bytes table) t → AcceptedTable t → SaysBare rule t.props f → SaysLog (bytes log) t.props es
    → Day t f es (minutes_of table rule log)

-- any texts at all: the minutes are one of these
abbrev pub EveryMinutes : Type 0
EveryMinutes = (table rule log : List ℕ) → OfTable table rule log (minutes_of table rule log)
