-- A WHOLE LOG: what `watch_log` (controller/src) answers and writes, from the bytes of three texts to a verdict for each event. Two claims stand at the end. FromLog proves them, as
-- `whole_log_right` and `every_answer`; this page has no proof, so what it takes from other files is what must be believed. It reads as FrontDoor does, and beside it.
-- `heard_of` (controller/specs/Whole) is by the contract of `watch_log` its answer and the bytes that it writes.
use Rattle.std.specs.Prelude.{ℕ, suc, ◌≤◌, ◌<◌, ◌≡◌, List, map, length, get_or, take}
use Rattle.meaning.specs.Formula.{Formula}
use Rattle.meaning.specs.Run.{Plant}
use Rattle.meaning.specs.Event.{since}
use Rattle.meaning.specs.Limits.{AcceptedTable}
use Rattle.meaning.specs.Verdict.{Right}
use Rattle.words.specs.Over.{over}
use Rattle.text.specs.Number.{width_of}
use Rattle.text.specs.Place.{RefusedAt}
use Rattle.answers.specs.declared.Verdict.{Verdict}
use Rattle.answers.specs.declared.Verdict.TheVariants.{Inconclusive}
use Rattle.answers.specs.declared.Kind.{Kind}
use Rattle.answers.specs.declared.Kind.TheVariants.{Bits, TableText, LogText, Room, IllegalEvent, Number as NumberKind}
use Rattle.answers.specs.Paper.{number_of, refused_at}
use Rattle.plant.specs.Table.{BitBeyond}
use Rattle.plant.specs.Text.{table_form}
use Rattle.plant.specs.Read.{counts_in}
use Rattle.plant.specs.Written.{WellFormed}
use Rattle.rule_text.specs.Paper.{Because}
use Rattle.event_log.specs.declared.Event.{Event}
use Rattle.event_log.specs.Log.{log_form}
use Rattle.watching.specs.Filled.{filled, InTurnAt}
use Rattle.controller.specs.declared.LogAnswer.{LogAnswer}
use Rattle.controller.specs.declared.LogAnswer.TheVariants.{Watched, Stopped, Refused}
use Rattle.controller.specs.Whole.{heard_of}
use Rattle.transcript.specs.Said.{bytes}
use Rattle.front_door.specs.FrontDoor.{SaysTable, SaysRule, SaysLog, LegalAt, TakenAt, line_of}

-- ---- what is answered and written

-- the verdict is what the runs of t dictate for f behind these events, with the unseen ones put in
abbrev pub VerdictAfter : Plant → Formula → List Event → Verdict → Type 0
VerdictAfter t f es verdict = Right t f (since (filled es)) (number_of verdict)

-- event k is refused at the offset of its line, and k were taken before it
abbrev pub stopped_by : Kind → Plant → List Event → ℕ → LogAnswer
stopped_by kind t es k = Stopped (record { refusal = refused_at kind (line_of t es k); event = k })

-- how many verdicts there are, and the answer: all events are accepted; or event k is the first that is not, by 10 where it is not legal, and else by 16
pub data Closes (t : Plant) (es : List Event) : ℕ → LogAnswer → Type 0 where
  at_end_lem : ((n : ℕ) → n < length es → TakenAt t es n) → Closes t es (length es) (Watched (record { count = length es }))
  at_event : (k : ℕ) → k < length es → ((n : ℕ) → n < k → TakenAt t es n) → (LegalAt t es k → ⊥) → Closes t es k (stopped_by IllegalEvent t es k)
  at_number : (k : ℕ) → k < length es → ((n : ℕ) → n < k → TakenAt t es n) → LegalAt t es k → (InTurnAt es k → ⊥) → Closes t es k (stopped_by NumberKind t es k)

-- the buffer begins with the verdicts' numbers, and its rest stays. Verdict n is right for the events 0 to n
pub record Watches (t : Plant) (f : Formula) (es : List Event) (before now : List ℕ) (answer : LogAnswer) : Type 0 where
  pub verdicts : List Verdict
  pub is : now ≡ over (map number_of verdicts) before
  pub byte_right : (n : ℕ) → n < length verdicts → VerdictAfter t f (take (suc n) es) (get_or verdicts n Inconclusive)
  pub closes : Closes t es (length verdicts) answer

-- a refusal before any event: the buffer stays as it was
pub record Untouched (kind : Kind) (place : ℕ) (before now : List ℕ) (answer : LogAnswer) : Type 0 where
  pub refused : answer ≡ Refused (refused_at kind place)
  pub stays : now ≡ before

-- ---- what any texts give: the checks, in their order

-- the rule's text says f as it stands: no LF is dropped
pub record SaysBare (rule : List ℕ) (q : ℕ) (f : Formula) : Type 0 where
  pub says : SaysRule (bytes rule) q f
  pub bare : says.text ≡ rule

-- the log, behind a table and a rule: the verdicts, or too few bytes for them (11), or no log (12)
pub data OfLog (t : Plant) (f : Formula) (log before now : List ℕ) (answer : LogAnswer) : Type 0 where
  verdicts : (es : List Event) → SaysLog (bytes log) t.props es → length es ≤ length before → Watches t f es before now answer → OfLog t f log before now answer
  no_room : (es : List Event) → SaysLog (bytes log) t.props es → length before < length es → Untouched Room 0 before now answer → OfLog t f log before now answer
  log_refused : (i : ℕ) → RefusedAt (log_form (width_of t.props)) log i → Untouched LogText i before now answer → OfLog t f log before now answer

-- the rule, behind a table: a rule, or one of the reasons for 4 to 8
pub data OfRule (t : Plant) (rule log before now : List ℕ) (answer : LogAnswer) : Type 0 where
  rule_said : (f : Formula) → SaysBare rule t.props f → OfLog t f log before now answer → OfRule t rule log before now answer
  rule_refused : (kind : Kind) (i : ℕ) → Because (counts_in t) t.fair t.label t.next rule kind i → Untouched kind i before now answer → OfRule t rule log before now answer

-- the table: one that is accepted, or none (3), or one with a bit beyond its counts (2)
pub data Answered (table rule log before now : List ℕ) (answer : LogAnswer) : Type 0 where
  table_said : (t : Plant) → SaysTable (bytes table) t → AcceptedTable t → OfRule t rule log before now answer → Answered table rule log before now answer
  table_refused : (i : ℕ) → RefusedAt table_form table i → Untouched TableText i before now answer → Answered table rule log before now answer
  bit_beyond : (t : Plant) → SaysTable (bytes table) t → WellFormed t → BitBeyond (counts_in t) t.fair t.label t.next → Untouched Bits 0 before now answer
      → Answered table rule log before now answer

-- ---- the claims

module _ (table rule log before : List ℕ) where
  -- what the call answers, and what the buffer then holds
  abbrev pub answer_of : LogAnswer
  answer_of = (heard_of table rule log (length before)).answer

  abbrev pub buffer_of : List ℕ
  buffer_of = over (heard_of table rule log (length before)).bytes before

-- texts that say an accepted table, a rule and events, and a byte for each of them: the verdicts are right, byte by byte
abbrev pub WholeLog : Type 0
WholeLog = (table rule log before : List ℕ) (t : Plant) (f : Formula) (es : List Event) → SaysTable (bytes table) t → AcceptedTable t → SaysBare rule t.props f → SaysLog (bytes log) t.props es
    → length es ≤ length before → Watches t f es before (buffer_of table rule log before) (answer_of table rule log before)

-- any texts at all: the answer is one of these
abbrev pub EveryAnswer : Type 0
EveryAnswer = (table rule log before : List ℕ) → Answered table rule log before (buffer_of table rule log before) (answer_of table rule log before)
