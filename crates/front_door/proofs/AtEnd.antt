-- What stands behind a log, for the calls that judge it there: any texts are answered as a whole log is, the end is that of the log's course, and behind events that are all accepted
-- the verdict there is right.
use Rattle.std.specs.Prelude.{ℕ, ◌≤◌, ◌<◌, ◌≡◌, true, List, leb, length, take, Ok, Err}
use Rattle.std.proofs.Common.{arith, div-le_self, sym, subst, ◌∙◌, le-leb}
use Rattle.std.proofs.Math.Path.{refl, ap}
use Rattle.std.proofs.Math.Seq.{take-length}
use Rattle.meaning.specs.Formula.{Formula}
use Rattle.meaning.specs.Run as run
use Rattle.meaning.specs.Limits.{AcceptedTable}
use Rattle.text.specs.Number.{width_of}
use Rattle.answers.specs.declared.Lamp.{Lamp}
use Rattle.answers.specs.declared.Kind.TheVariants.{Room}
use Rattle.answers.specs.Results.{Outcome}
use Rattle.answers.specs.Chain.{and_then, unless}
use Rattle.plant.specs.Read.{counts_in}
use Rattle.syntax.specs.Value.{rule_of}
use Rattle.event_log.specs.declared.Event.{Event}
use Rattle.event_log.specs.declared.LogRead.{LogRead}
use Rattle.event_log.specs.Read.{bytes_in, log_read}
use Rattle.event_log.proofs.Promises.{accepted_text}
use Rattle.event_log.proofs.Forms.{lines_many}
use Rattle.checks.specs.Input.{formula_is}
use Rattle.sides.specs.declared.Monitor.{Monitor}
use Rattle.sides.specs.Held.{model_of, lamp_in}
use Rattle.monitor.specs.declared.Watched.{Watched}
use Rattle.watching.specs.Watching as watching
use Rattle.watching.proofs.Watching.{after_model}
use Rattle.opened.specs.declared.Opened.{Opened}
use Rattle.opened.specs.Opened.{opened_of}
use Rattle.controller.specs.Whole.{log_checked, heard_in, heard_of, end_by, end_in, end_from, end_of}
use Rattle.transcript.specs.Said.{bytes}
use Rattle.front_door.specs.FrontDoor.{SaysTable, SaysLog, TakenAt, RightAfter}
use Rattle.front_door.specs.WholeLog.{VerdictAfter, SaysBare}
use Rattle.front_door.proofs.FromTexts.{value}
use Rattle.front_door.proofs.FromLog.{input, start, behind_rule, course, course_is, log_read_lem}
use Rattle.front_door.proofs.Lamps.{all_taken_to, behind_taken, watched}
use Rattle.front_door.proofs.OneOutput.{lit_right}

-- ---- any texts

-- a log has no more lines than bytes
few_lines : (width : ℕ) (log : List ℕ) → (log_read width log).outcome ≡ Ok tt → (log_read width log).lines ≤ length log
few_lines width log ok =
    let (es, fine, small, lines, at) = accepted_text width log ok in
    omega (arith, lines, (lines_many width es log fine small).0, div-le_self (length log) (bytes_in width log))

module _ (o : Opened) (log : List ℕ) (room : ℕ) where
  abbrev read : LogRead
  read = log_read (width_of o.table.plant.props) log

  by_log : (x : Outcome) → (x ≡ Ok tt → leb read.lines room ≡ true) → (heard_in (and_then x (unless (leb read.lines room) Room)) o log).answer ≡ (end_in x o log).answer
  by_log (Ok _) h = rw (h refl) refl
  by_log (Err r) h = refl

  by_opened : (x : Outcome) → (read.outcome ≡ Ok tt → leb read.lines room ≡ true)
      → (heard_in (and_then x (log_checked o.table.plant.props log room)) o log).answer ≡ (end_in (and_then x read.outcome) o log).answer
  unfolding log_checked
  by_opened (Ok _) h = by_log read.outcome h
  by_opened (Err r) h = refl

-- where a log ends is answered what `watch_log` answers with a buffer as long as the log
pub same_answer : (table rule log : List ℕ) (room : ℕ) → length log ≤ room → (heard_of table rule log room).answer ≡ (end_of table rule log).answer
unfolding heard_of end_of
same_answer table rule log room much =
    let o = opened_of table rule in
    by_opened o log room o.outcome (λ ok. le-leb _ room (omega (arith, few_lines (width_of o.table.plant.props) log ok, much)))

-- ---- texts that say a table, a rule and events

module _ (t : run.Plant) (table : AcceptedTable t) (text : List ℕ) (says : SaysTable (bytes text) t) (rule : List ℕ) (f : Formula) (rule_says : SaysBare rule t.props f) where
  -- by the form of the log
  pub end_read : (log : List ℕ) {r : LogRead} → log_read (width_of t.props) log ≡ r → end_of text rule log ≡ end_in r.outcome (start t table text says rule f rule_says) log
  unfolding end_of
  end_read log e =
      ap (λ (o : Opened). end_from o log) (behind_rule t table text says rule f rule_says) ∙ ap (λ (r : LogRead). end_in r.outcome (start t table text says rule f rule_says) log) e

  module _ (log : List ℕ) (es : List Event) (log_says : SaysLog (bytes log) t.props es) where
    pub end_is : end_of text rule log ≡ end_by (start t table text says rule f rule_says) (bytes_in (width_of t.props) log) (course t table text says rule f rule_says log)
    end_is =
        end_read log (log_read_lem t table text says rule f rule_says log es log_says)
        ∙ ap (end_by (start t table text says rule f rule_says) (bytes_in (width_of t.props) log)) (course_is t table text says rule f rule_says log)

  -- the monitor behind all events
  abbrev pub last : List Event → Monitor
  last es = (watched (counts_in t) t.fair t.label t.next (rule_of f) (input t table text says rule f rule_says) (take (length es) es)).monitor

  moved : (es : List Event) {g h : Formula} {l : Lamp} → g ≡ h → RightAfter t g es l → RightAfter t h es l
  moved es {l = l} e right = subst (λ (x : Formula). RightAfter t x es l) e right

  pub verdict_right : (es : List Event) → ((k : ℕ) → k < length es → TakenAt t es k) → VerdictAfter t f es (lamp_in (model_of (last es))).verdict
  verdict_right es all =
      let given = input t table text says rule f rule_says in
      let accepted = subst (watching.AllTaken (counts_in t) t.fair t.label t.next (rule_of f)) (take-length es) (all_taken_to (counts_in t) t.fair t.label t.next (rule_of f) given es (length es) all (omega arith)) in
      let shown = ap (watching.after (counts_in t) t.fair t.label t.next (rule_of f)) (take-length es) ∙ after_model (counts_in t) t.fair t.label t.next (rule_of f) given es accepted in
      lit_right t f (lamp_in (model_of (last es))) (subst (λ (x : Watched). RightAfter t f es (lamp_in (model_of x.monitor))) (sym shown)
      (moved es (formula_is (value t table rule_says.says)) (behind_taken (counts_in t) t.fair t.label t.next (rule_of f) given es accepted)))
