-- From texts to a closing verdict: the texts are opened, the course of the log shows the last verdict, and going back over the lines what is presumed. Here are the two claims of DayEnd
-- proved.
use Rattle.std.specs.Prelude.{ℕ, ◌<◌, ◌≡◌, ◌⊎◌, Bool, true, false, cond, List, eqb, length, get_or}
use Rattle.std.proofs.Common.{arith, sym, ap₂, subst, inl, inr, eqb-true}
use Rattle.std.proofs.Math.Path.{refl, ap}
use Rattle.std.proofs.lemmas.Bool.{eqb-false}
use Rattle.meaning.specs.Formula.{Formula}
use Rattle.meaning.specs.Run as run
use Rattle.meaning.specs.Event.{since}
use Rattle.meaning.specs.Limits.{AcceptedTable}
use Rattle.text.specs.Number.{width_of, width_between}
use Rattle.answers.specs.declared.Verdict.{Verdict}
use Rattle.answers.specs.declared.Verdict.TheVariants as Verdicts
use Rattle.answers.specs.declared.Kind.TheVariants.{ClosingEdition}
use Rattle.answers.specs.declared.Refusal.{Refusal}
use Rattle.answers.specs.Paper.{number_of, refused_at}
use Rattle.plant.specs.Read.{counts_in}
use Rattle.syntax.specs.Value.{rule_of}
use Rattle.syntax.proofs.Printed.{below_more}
use Rattle.event_log.specs.declared.Event.{Event}
use Rattle.event_log.specs.Log.{nothing}
use Rattle.event_log.specs.Read.{bytes_in, event_at, whole_lines}
use Rattle.sides.specs.declared.Monitor.{Monitor}
use Rattle.sides.specs.Held.{model_of, lamp_in}
use Rattle.watching.specs.Filled.{filled}
use Rattle.course.specs.Course.{Course}
use Rattle.opened.specs.declared.Opened.{Opened}
use Rattle.controller.specs.declared.LogEnd.{LogEnd}
use Rattle.controller.specs.declared.LogAnswer.{LogAnswer}
use Rattle.controller.specs.declared.LogAnswer.TheVariants as Logs
use Rattle.controller.specs.Whole.{heard_by, end_of}
use Rattle.transcript.specs.Said.{bytes}
use Rattle.front_door.specs.FrontDoor.{SaysTable, SaysLog, TakenAt, line_of}
use Rattle.front_door.specs.WholeLog.{VerdictAfter, SaysBare}
use Rattle.front_door.proofs.FromLog.{input, start, course, taken, all_gone}
use Rattle.front_door.proofs.AtEnd.{same_answer, end_is, last, verdict_right}
use Rattle.front_door.proofs.Lamps.{Gone, all_taken, stopped, Stop, illegal, stray}
use Rattle.closing.specs.declared.ClosingVerdict.{ClosingVerdict}
use Rattle.closing.specs.declared.Closed.{Closed}
use Rattle.closing.specs.declared.Closed.TheVariants.{At, Stopped, Refused}
use Rattle.closing.specs.Closing.{of_verdict, presumed_of, second_of, closed_at, unless_stopped, closed_end, closed_of}
use Rattle.closing_right.specs.DayEnd.{stretch, Presumed, Closes, first, decided, presumed, no_edition, Day, at_end_lem, at_event, at_number, DayEnd, Likewise, AsWatched}
use Rattle.closing_right.specs.Plain.{uses_some}
use Rattle.closing_right.proofs.Presumes.{presumes}

-- ---- by the edition

module _ (t : run.Plant) (f : Formula) (es : List Event) (c : ClosingVerdict) (presume : VerdictAfter t f es Verdicts.Inconclusive → Presumed f (stretch (since (filled es))) c) where
  by_second : (v : Verdict) → VerdictAfter t f es v → Closes t f es 2 (At (second_of v c))
  by_second Verdicts.Inconclusive right = presumed c right (presume right)
  by_second Verdicts.True right = decided Verdicts.True right (λ e. let z : ◌≡◌ {A = ℕ} 1 0 = ap number_of e in omega arith)
  by_second Verdicts.False right = decided Verdicts.False right (λ e. let z : ◌≡◌ {A = ℕ} 2 0 = ap number_of e in omega arith)
  by_second Verdicts.OutOfModel right = decided Verdicts.OutOfModel right (λ e. let z : ◌≡◌ {A = ℕ} 3 0 = ap number_of e in omega arith)

  closes : (edition : ℕ) (v : Verdict) → VerdictAfter t f es v
      → Closes t f es edition (cond (eqb edition 1) (At (of_verdict v)) (cond (eqb edition 2) (At (second_of v c)) (Refused (refused_at ClosingEdition 0))))
  closes edition v right = by (eqb edition 1) refl (eqb edition 2) refl
    where
      by : (a : Bool) → eqb edition 1 ≡ a → (b : Bool) → eqb edition 2 ≡ b
          → Closes t f es edition (cond a (At (of_verdict v)) (cond b (At (second_of v c)) (Refused (refused_at ClosingEdition 0))))
      by true e b g = subst (λ (n : ℕ). Closes t f es n (At (of_verdict v))) (sym (eqb-true edition 1 e)) (first v right)
      by false e true g = subst (λ (n : ℕ). Closes t f es n (At (second_of v c))) (sym (eqb-true edition 2 g)) (by_second v right)
      by false e false g = no_edition edition (eqb-false edition 1 e) (eqb-false edition 2 g)

-- ---- texts that say a table, a rule and events

module _ (t : run.Plant) (table : AcceptedTable t) (text : List ℕ) (says : SaysTable (bytes text) t) (rule : List ℕ) (f : Formula) (rule_says : SaysBare rule t.props f)
    (log : List ℕ) (es : List Event) (log_says : SaysLog (bytes log) t.props es) (edition : ℕ) where
  abbrev o : Opened
  o = start t table text says rule f rule_says

  abbrev w : ℕ
  w = width_of t.props

  abbrev n : ℕ
  n = length es

  abbrev event : ℕ → Event
  event k = get_or es k nothing

  -- how a course ends
  abbrev ending : Course → Closed
  ending c = unless_stopped (heard_by (bytes_in w log) c).answer (closed_at (rule_of f) (event_at w log) (whole_lines w log) c.went.monitor edition)

  closed_is : closed_of text rule log edition ≡ ending (course t table text says rule f rule_says log)
  unfolding closed_of
  closed_is = ap (λ (e : LogEnd). closed_end e log edition) (end_is t table text says rule f rule_says log es log_says)

  presume : VerdictAfter t f es Verdicts.Inconclusive → Presumed f (stretch (since (filled es))) (presumed_of (rule_of f) event n)
  presume right =
      presumes f rule_says.says.small (below_more t.props 64 (omega (arith, table.few_props)) f rule_says.says.below) w (width_between t.props).1 es log_says.writable
      (uses_some t f (since (filled es)) right)

  -- the lines of the text are the events
  same : (m : Monitor) → closed_at (rule_of f) (event_at w log) (whole_lines w log) m edition ≡ closed_at (rule_of f) event n m edition
  same m =
      let lines = taken t table text says rule f rule_says log es log_says in
      let events : event_at w log ≡ event = λ i k. lines.events k i in
      ap₂ (λ (e : ℕ → Event) (k : ℕ). closed_at (rule_of f) e k m edition) events lines.many

  ended : (m : Monitor) → VerdictAfter t f es (lamp_in (model_of m)).verdict → Closes t f es edition (closed_at (rule_of f) event n m edition)
  unfolding closed_at
  ended m right = closes t f es (presumed_of (rule_of f) event n) presume edition (lamp_in (model_of m)).verdict right

  stopped_as : (k : ℕ) → k < n → ((j : ℕ) → j < k → TakenAt t es j) → (r : Refusal) → Stop (counts_in t) t.fair t.label t.next (rule_of f) (input t table text says rule f rule_says) es k r
      → Day t f es edition (Stopped (record { refusal = refused_at r.kind (line_of t es k); event = k }))
  stopped_as k low before r (illegal bad) = at_event k low before bad
  stopped_as k low before r (stray fine bad) = at_number k low before fine bad

  day_of_lem : (c : Course) → Gone (counts_in t) t.fair t.label t.next (rule_of f) (input t table text says rule f rule_says) es n c → Day t f es edition (ending c)
  day_of_lem c (all_taken lamps many named as_many all right numbers is) =
      let m = last t table text says rule f rule_says es in
      rw is (at_end_lem (closed_at (rule_of f) (event_at w log) (whole_lines w log) m edition) all (rw (same m) (ended m (verdict_right t table text says rule f rule_says es all))))
  day_of_lem c (stopped k low lamps many named as_many before r why right numbers m is) =
      rw (is, (taken t table text says rule f rule_says log es log_says).wide) (stopped_as k low before r why)

  day : Day t f es edition (closed_of text rule log edition)
  day = rw closed_is (day_of_lem (course t table text says rule f rule_says log) (all_gone t table text says rule f rule_says log es log_says))

-- THE CLOSING VERDICT IS RIGHT
pub day_end_right : DayEnd
day_end_right table rule log edition t f es table_says accepted rule_says log_says = day t accepted table table_says rule f rule_says log es log_says edition

-- ---- any texts

module _ (log : List ℕ) (edition : ℕ) (e : LogEnd) where
  -- behind the events: a closing verdict, or 21
  answered : (v : Verdict) (k : ClosingVerdict) → (a b : Bool)
      → ((x : ClosingVerdict) × (cond a (At (of_verdict v)) (cond b (At (second_of v k)) (Refused (refused_at ClosingEdition 0))) ≡ At x))
      ⊎ (cond a (At (of_verdict v)) (cond b (At (second_of v k)) (Refused (refused_at ClosingEdition 0))) ≡ Refused (refused_at ClosingEdition 0))
  answered v k true b = inl (of_verdict v, refl)
  answered v k false true = inl (second_of v k, refl)
  answered v k false false = inr refl

  abbrev width : ℕ
  width = width_of e.table.plant.props

  likewise : Likewise e.answer (closed_end e log edition)
  unfolding closed_at
  likewise = by e.answer
    where
      by : (a : LogAnswer) → Likewise a (unless_stopped a (closed_at e.rule (event_at width log) (whole_lines width log) e.last edition))
      by (Logs.Watched n) = answered (lamp_in (model_of e.last)).verdict (presumed_of e.rule (event_at width log) (whole_lines width log)) (eqb edition 1) (eqb edition 2)
      by (Logs.Stopped s) = refl
      by (Logs.Refused r) = refl

-- ANY TEXTS ARE REFUSED AS A WHOLE LOG IS
pub as_watched : AsWatched
unfolding closed_of
as_watched table rule log before edition room = rw (same_answer table rule log (length before) room) (likewise log edition (end_of table rule log))
