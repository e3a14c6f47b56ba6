-- EVERY ANSWER OF `judge_report` (neighbour/src), from the bytes of any three texts, any claim and any runs: by what it is refused, at which place and for which cause, in the order
-- of the checks; and where nothing is refused, which answer the report deserves. One claim stands at the end. FromReport proves it, as `every_report`; this page has no proof. It
-- reads as WholeLog (front_door/specs) does.
use Rattle.std.specs.Prelude.{ℕ, ◌<◌, ◌≡◌, ◌↔◌, Bool, List, length}
use Rattle.meaning.specs.Formula.{Formula}
use Rattle.meaning.specs.Run.{Plant}
use Rattle.meaning.specs.Event.{History, since}
use Rattle.meaning.specs.Limits.{AcceptedTable}
use Rattle.text.specs.Number.{width_of}
use Rattle.text.specs.Place.{RefusedAt}
use Rattle.answers.specs.declared.Kind.{Kind}
use Rattle.answers.specs.declared.Kind.TheVariants.{Bits, TableText, Value, LogText, IllegalEvent, RunLength, Number as NumberKind}
use Rattle.answers.specs.Paper.{refused_at}
use Rattle.plant.specs.Table.{BitBeyond}
use Rattle.plant.specs.Text.{table_form}
use Rattle.plant.specs.Read.{counts_in}
use Rattle.plant.specs.Written.{WellFormed}
use Rattle.rule_text.specs.Paper.{Because}
use Rattle.event_log.specs.declared.Event.{Event}
use Rattle.event_log.specs.Log.{log_form}
use Rattle.watching.specs.Filled.{filled, InTurnAt}
use Rattle.transcript.specs.Said.{bytes}
use Rattle.front_door.specs.FrontDoor.{SaysTable, SaysLog, LegalAt, TakenAt, line_of}
use Rattle.front_door.specs.WholeLog.{SaysBare}
use Rattle.shown.specs.declared.Failing.{Failing}
use Rattle.neighbour.specs.declared.Judged.{Judged}
use Rattle.neighbour.specs.declared.Judged.TheVariants.{Accepted, WrongRun, WrongVerdict, Stopped, Refused}
use Rattle.neighbour.specs.Report.{report_of}
use Rattle.neighbour.specs.Judged.{judged_of}
use Rattle.reported.specs.Correct.{CorrectReport}
use Rattle.reported.specs.Wrong.{WrongRunIn, WrongClaim, TooLong}

-- event k is refused at the offset of its line, and k were taken before it
abbrev pub stopped_by : Kind → Plant → List Event → ℕ → Judged
stopped_by kind t es k = Stopped (record { refusal = refused_at kind (line_of t es k); event = k })

module _ (claim : ℕ) (keep_stem keep_loop break_stem break_loop : List ℕ) where
  -- each answer is given exactly where the report deserves it
  pub record Deserves (t : Plant) (f : Formula) (h : History) (j : Judged) : Type 0 where
    pub no_claim : (j ≡ Refused (refused_at Value 0)) ↔ (3 < claim)
    pub too_long : (j ≡ Refused (refused_at RunLength 0)) ↔ TooLong t f h keep_stem keep_loop break_stem break_loop claim
    pub wrong_run : (keeps : Bool) (x : Failing) → (j ≡ WrongRun (record { keeps = keeps; failing = x })) ↔ WrongRunIn t f h keep_stem keep_loop break_stem break_loop claim keeps x
    pub wrong_verdict : (j ≡ WrongVerdict) ↔ WrongClaim t f h keep_stem keep_loop break_stem break_loop claim
    pub accepted : (j ≡ Accepted) ↔ CorrectReport t f h keep_stem keep_loop break_stem break_loop claim

  -- all events are accepted, and the report is judged; or event k is the first that is not, by 10 where it is not legal, and else by 16
  pub data Ends (t : Plant) (f : Formula) (es : List Event) (j : Judged) : Type 0 where
    at_end_lem : ((n : ℕ) → n < length es → TakenAt t es n) → Deserves t f (since (filled es)) j → Ends t f es j
    at_event : (k : ℕ) → k < length es → ((n : ℕ) → n < k → TakenAt t es n) → (LegalAt t es k → ⊥) → j ≡ stopped_by IllegalEvent t es k → Ends t f es j
    at_number : (k : ℕ) → k < length es → ((n : ℕ) → n < k → TakenAt t es n) → LegalAt t es k → (InTurnAt es k → ⊥) → j ≡ stopped_by NumberKind t es k → Ends t f es j

  -- the log, behind a table and a rule: events, or no log (12)
  pub data OfLog (t : Plant) (f : Formula) (log : List ℕ) (j : Judged) : Type 0 where
    log_said : (es : List Event) → SaysLog (bytes log) t.props es → Ends t f es j → OfLog t f log j
    log_refused : (i : ℕ) → RefusedAt (log_form (width_of t.props)) log i → j ≡ Refused (refused_at LogText i) → OfLog t f log j

  -- the rule, behind a table: a rule, or one of the reasons for 4 to 8
  pub data OfRule (t : Plant) (rule log : List ℕ) (j : Judged) : Type 0 where
    rule_said : (f : Formula) → SaysBare rule t.props f → OfLog t f log j → OfRule t rule log j
    rule_refused : (kind : Kind) (i : ℕ) → Because (counts_in t) t.fair t.label t.next rule kind i → j ≡ Refused (refused_at kind i) → OfRule t rule log j

  -- the table: one that is accepted, or none (3), or one with a bit beyond its counts (2)
  pub data OfTable (table rule log : List ℕ) (j : Judged) : Type 0 where
    table_said : (t : Plant) → SaysTable (bytes table) t → AcceptedTable t → OfRule t rule log j → OfTable table rule log j
    table_refused : (i : ℕ) → RefusedAt table_form table i → j ≡ Refused (refused_at TableText i) → OfTable table rule log j
    bit_beyond : (t : Plant) → SaysTable (bytes table) t → WellFormed t → BitBeyond (counts_in t) t.fair t.label t.next → j ≡ Refused (refused_at Bits 0)
        → OfTable table rule log j

-- any texts, claims and runs at all: the answer is one of these
abbrev pub EveryReport : Type 0
EveryReport = (table rule log : List ℕ) (claim : ℕ) (keep_stem keep_loop break_stem break_loop : List ℕ)
    → OfTable claim keep_stem keep_loop break_stem break_loop table rule log (judged_of table rule log (report_of claim keep_stem keep_loop break_stem break_loop))
