-- THE DAY'S END: what `close_log` (closing/src) answers, from the bytes of three texts and an edition to a closing verdict. Two claims stand at the end. FromDay proves them, as
-- `day_end_right` and `as_watched`; this page has no proof, so what it takes from other files is what must be believed. It reads as FrontDoor and WholeLog (front_door/specs) do, and
-- beside them: `HoldsWithin` and `Uses` (within/specs) are finite-trace logic and the propositions of a rule.
-- `closed_of` (closing/specs/Closing) is by the contract of `close_log` its answer.
use Rattle.std.specs.Prelude.{ℕ, ◌≤◌, ◌<◌, ◌≡◌, ◌↔◌, ◌⊎◌, List, length, drop}
use Rattle.std.proofs.Math.Bool.{So}
use Rattle.meaning.specs.Bit.{bit}
use Rattle.meaning.specs.Formula.{Formula}
use Rattle.meaning.specs.Run.{Plant}
use Rattle.meaning.specs.Event.{Seen, History, seen_at, since}
use Rattle.meaning.specs.Limits.{AcceptedTable}
use Rattle.answers.specs.declared.Verdict.{Verdict}
use Rattle.answers.specs.declared.Verdict.TheVariants as Verdicts
use Rattle.answers.specs.declared.Kind.{Kind}
use Rattle.answers.specs.declared.Kind.TheVariants.{ClosingEdition, IllegalEvent, Number as NumberKind}
use Rattle.answers.specs.Paper.{refused_at}
use Rattle.event_log.specs.declared.Event.{Event}
use Rattle.watching.specs.Filled.{filled, InTurnAt}
use Rattle.controller.specs.declared.LogAnswer.{LogAnswer}
use Rattle.controller.specs.declared.LogAnswer.TheVariants as Logs
use Rattle.controller.specs.Whole.{heard_of}
use Rattle.transcript.specs.Said.{bytes}
use Rattle.front_door.specs.FrontDoor.{SaysTable, SaysLog, LegalAt, TakenAt, line_of}
use Rattle.front_door.specs.WholeLog.{VerdictAfter, SaysBare}
use Rattle.within.specs.Within.{HoldsWithin}
use Rattle.within.specs.Seen.{Uses}
use Rattle.closing.specs.declared.ClosingVerdict.{ClosingVerdict}
use Rattle.closing.specs.declared.ClosingVerdict.TheVariants.{Inconclusive, PresumablyTrue, PresumablyFalse}
use Rattle.closing.specs.declared.Closed.{Closed}
use Rattle.closing.specs.declared.Closed.TheVariants.{At, Stopped, Refused}
use Rattle.closing.specs.Closing.{of_verdict, closed_of}

-- ---- what is presumed

-- the events since the last restart, its own the first of them; all of them where there is none
abbrev pub stretch : History → List Seen
stretch h = drop h.mark h.events

-- there is an event, and each saw all propositions of the rule
pub record Ready (f : Formula) (s : List Seen) : Type 0 where
  pub some : 0 < length s
  pub sees : (i : ℕ) → i < length s → (p : ℕ) → Uses p f → So (bit (seen_at s i).see p)

-- the rule holds within these events, from the first of them on, by the values that were seen
abbrev pub Met : Formula → List Seen → Type 0
Met f s = HoldsWithin (length s) (λ i. (seen_at s i).val) f 0

-- 4 and 5, and where inconclusive stays
pub record Presumed (f : Formula) (s : List Seen) (c : ClosingVerdict) : Type 0 where
  pub presumably_true : (c ≡ PresumablyTrue) ↔ (Ready f s × Met f s)
  pub presumably_false : (c ≡ PresumablyFalse) ↔ (Ready f s × (Met f s → ⊥))
  pub stays : (c ≡ Inconclusive) ↔ (Ready f s → ⊥)

-- ---- by the edition

-- behind events that are all accepted, with the unseen ones put in: edition 1 has the last verdict, which is the opening's where there is no event. Edition 2 has the same where that is
-- decided, and else what is presumed. There is no other
pub data Closes (t : Plant) (f : Formula) (es : List Event) : ℕ → Closed → Type 0 where
  first : (v : Verdict) → VerdictAfter t f es v → Closes t f es 1 (At (of_verdict v))
  decided : (v : Verdict) → VerdictAfter t f es v → (v ≡ Verdicts.Inconclusive → ⊥) → Closes t f es 2 (At (of_verdict v))
  presumed : (c : ClosingVerdict) → VerdictAfter t f es Verdicts.Inconclusive → Presumed f (stretch (since (filled es))) c → Closes t f es 2 (At c)
  no_edition : (n : ℕ) → (n ≡ 1 → ⊥) → (n ≡ 2 → ⊥) → Closes t f es n (Refused (refused_at ClosingEdition 0))

-- event k is refused at the offset of its line, and k were taken before it
abbrev pub stopped_by : Kind → Plant → List Event → ℕ → Closed
stopped_by kind t es k = Stopped (record { refusal = refused_at kind (line_of t es k); event = k })

-- all events are accepted; or event k is the first that is not, by 10 where it is not legal, and else by 16, whatever the edition
pub data Day (t : Plant) (f : Formula) (es : List Event) (edition : ℕ) : Closed → Type 0 where
  at_end_lem : (c : Closed) → ((n : ℕ) → n < length es → TakenAt t es n) → Closes t f es edition c → Day t f es edition c
  at_event : (k : ℕ) → k < length es → ((n : ℕ) → n < k → TakenAt t es n) → (LegalAt t es k → ⊥) → Day t f es edition (stopped_by IllegalEvent t es k)
  at_number : (k : ℕ) → k < length es → ((n : ℕ) → n < k → TakenAt t es n) → LegalAt t es k → (InTurnAt es k → ⊥) → Day t f es edition (stopped_by NumberKind t es k)

-- ---- the claims

-- texts that say an accepted table, a rule and events: the closing verdict is right
abbrev pub DayEnd : Type 0
DayEnd = (table rule log : List ℕ) (edition : ℕ) (t : Plant) (f : Formula) (es : List Event) → SaysTable (bytes table) t → AcceptedTable t → SaysBare rule t.props f → SaysLog (bytes log) t.props es
    → Day t f es edition (closed_of table rule log edition)

-- any texts at all: what `watch_log` refuses is refused in the same way, with the same place and count. What it does not refuse is closed, or the edition is refused
abbrev pub Likewise : LogAnswer → Closed → Type 0
Likewise (Logs.Refused r) c = c ≡ Refused r
Likewise (Logs.Stopped s) c = c ≡ Stopped s
Likewise (Logs.Watched n) c = ((v : ClosingVerdict) × (c ≡ At v)) ⊎ (c ≡ Refused (refused_at ClosingEdition 0))

-- given a buffer as long as the log, which has a byte for each line
abbrev pub AsWatched : Type 0
AsWatched = (table rule log before : List ℕ) (edition : ℕ) → length log ≤ length before → Likewise (heard_of table rule log (length before)).answer (closed_of table rule log edition)
