-- From texts to verdict bytes: the texts are opened, and the course of the log shows the rest. Here are the two claims of WholeLog proved, and that they leave no choice.
use Rattle.std.specs.Prelude.{ℕ, suc, ◌≤◌, ◌<◌, ◌≡◌, length, get_or, take, Ok, Err}
use Rattle.std.proofs.Common.{arith, sym, ◌∙◌, ⊎_elim, ext_get_or}
use Rattle.std.proofs.Math.Path.{refl, ap, subst}
use mathlib.Core.List.{List, [], ◌∷◌, map}
use Rattle.std.proofs.Math.Logic.{inl}
use Rattle.std.proofs.lemmas.List.{length-map}
use Rattle.std.proofs.Math.ListN.{get_or-map}
use borrow.Author.Tests.{le-leb, lt-leb}
use Rattle.meaning.specs.Formula.{Formula}
use Rattle.meaning.specs.Run as run
use Rattle.meaning.specs.Limits.{AcceptedTable}
use Rattle.words.specs.Over.{over}
use Rattle.text.specs.Number.{width_of}
use Rattle.text.specs.FirstLine.{first_of}
use Rattle.text.specs.Cases.{below_or_beyond}
use Rattle.answers.specs.declared.Verdict.{Verdict}
use Rattle.answers.specs.declared.Verdict.TheVariants.{Inconclusive}
use Rattle.answers.specs.declared.Lamp.{Lamp}
use Rattle.answers.specs.declared.Kind.{Kind}
use Rattle.answers.specs.declared.Kind.TheVariants.{IllegalEvent, Number as NumberKind}
use Rattle.answers.specs.declared.Refusal.{Refusal}
use Rattle.answers.specs.Results.{Outcome}
use Rattle.answers.specs.Paper.{number_of, refused_at}
use Rattle.plant.specs.declared.Plant.{Plant}
use Rattle.plant.specs.Read.{counts_in, table_of, take_padded}
use Rattle.plant.specs.Written.{table_slots, table_text}
use Rattle.text.specs.Written.{small_of}
use Rattle.plant.specs.Promises as plants
use Rattle.plant.specs.Promises.{accepted_formed}
use Rattle.syntax.specs.declared.Rule.{Rule}
use Rattle.syntax.specs.Value.{rule_of}
use Rattle.rule_text.specs.declared.RuleRead.{RuleRead}
use Rattle.rule_text.specs.Reading.{rule_read}
use Rattle.rule.proofs.Promises as rules
use Rattle.event_log.specs.declared.Event.{Event}
use Rattle.event_log.specs.Line.{line_bytes}
use Rattle.event_log.specs.Log.{gives}
use Rattle.event_log.specs.Read.{bytes_in, log_read, event_at}
use Rattle.event_log.specs.Promises as logs
use Rattle.event_log.proofs.Promises as logs_laws
use Rattle.checks.specs.Input.{Input, formula_is}
use Rattle.live.specs.Prepare.{prepared_of}
use Rattle.live.specs.Promises.{prepare_accepted}
use Rattle.monitor.specs.Calls.{open_call}
use Rattle.watching.specs.Watching as watching
use Rattle.watching.specs.Watching.{full}
use Rattle.course.specs.Course.{Course, course_of, verdict_bytes}
use Rattle.opened.specs.declared.Opened.{Opened}
use Rattle.opened.specs.Opened.{not_opened, made, parts_opened, rule_opened, opened_of}
use Rattle.controller.specs.declared.LogAnswer.{LogAnswer}
use Rattle.controller.specs.declared.LogAnswer.TheVariants.{Watched, Stopped}
use Rattle.controller.specs.Whole.{Heard, log_checked, course_from, heard_by, heard_in, heard_from, heard_of}
use Rattle.lamp_lines.specs.Lines.{dark}
use Rattle.transcript.specs.Said.{bytes, bytes_of}
use Rattle.front_door.specs.FrontDoor.{SaysTable, SaysLog, TakenAt, RightAfter, line_of}
use Rattle.front_door.specs.FrontDoor as door
use Rattle.front_door.proofs.FromTexts.{log_taken, passes_check, text_read_lem, value, passes, Answer, refuses, gives as gives-rule, answer}
use Rattle.front_door.proofs.Lamps.{Taken, Gone, all_taken, stopped, Stop, illegal, stray, at, gone}
use Rattle.front_door.proofs.OneOutput.{lit_right, verdict_one, stop_one}
use Rattle.front_door.specs.WholeLog.{VerdictAfter, stopped_by, Closes, at_end_lem, at_event, at_number, Watches, Untouched, SaysBare, OfLog, verdicts, no_room, log_refused, OfRule, rule_said, rule_refused, Answered, table_said, table_refused, bit_beyond, answer_of, buffer_of, WholeLog, EveryAnswer}

-- the verdicts of lamps, and their numbers
abbrev verdicts_of : List Lamp → List Verdict
verdicts_of lamps = map (λ (l : Lamp). l.verdict) lamps

numbers_of : (lamps : List Lamp) → verdict_bytes lamps ≡ map number_of (verdicts_of lamps)
numbers_of [] = refl
numbers_of (l ∷ lamps) = ap (λ (s : List ℕ). number_of l.verdict ∷ s) (numbers_of lamps)

-- ---- the course of a log

module _ (p : Plant) (fair label next : List ℕ) (rule : Rule) (input : Input p fair label next rule) where
  abbrev T : run.Plant
  T = watching.T p fair label next rule

  abbrev f : Formula
  f = watching.f p fair label next rule

  module _ (es : List Event) (before : List ℕ) where
    -- right lamps have right verdicts
    bytes_right : (lamps : List Lamp) → ((n : ℕ) → n < length lamps → RightAfter T f (take (suc n) es) (get_or lamps n dark))
        → (n : ℕ) → n < length (verdicts_of lamps) → VerdictAfter T f (take (suc n) es) (get_or (verdicts_of lamps) n Inconclusive)
    bytes_right lamps right n low =
        rw (get_or-map (λ (l : Lamp). l.verdict) lamps n dark) (lit_right T f (get_or lamps n dark) (right n (rw length-map at low)))

    closes_as : (k : ℕ) → k < length es → ((n : ℕ) → n < k → TakenAt T es n) → (r : Refusal) → Stop p fair label next rule input es k r
        → Closes T es k (Stopped (record { refusal = refused_at r.kind (line_of T es k); event = k }))
    closes_as k low taken r (illegal bad) = at_event k low taken bad
    closes_as k low taken r (stray fine bad) = at_number k low taken fine bad

    watches : (c : Course) → Gone p fair label next rule input es (length es) c
        → Watches T f es before (over (verdict_bytes c.lamps) before) (heard_by (line_bytes (first_of gives es) (width_of p.props)) c).answer
    watches c (all_taken lamps many named as_many taken right numbers is) = rw is (record {
      verdicts = verdicts_of lamps;
      is = ap (λ (s : List ℕ). over s before) (numbers_of lamps);
      byte_right = bytes_right lamps right;
      closes = subst (λ (n : ℕ). Closes T es n (Watched (record { count = length es }))) (sym (length-map lamps (λ (l : Lamp). l.verdict) ∙ many)) (at_end_lem taken);
    })
    watches c (stopped k low lamps many named as_many taken r why right numbers m is) = rw is (record {
      verdicts = verdicts_of lamps;
      is = ap (λ (s : List ℕ). over s before) (numbers_of lamps);
      byte_right = bytes_right lamps right;
      closes = subst (λ (n : ℕ). Closes T es n (Stopped (record { refusal = refused_at r.kind (line_of T es k); event = k })))
          (sym (length-map lamps (λ (l : Lamp). l.verdict) ∙ many)) (closes_as k low taken r why);
    })

-- ---- the texts

module _ (t : run.Plant) (table : AcceptedTable t) (text : List ℕ) (says : SaysTable (bytes text) t) where
  -- the table that is said is lent, part by part
  behind_table : (rule : List ℕ) → opened_of text rule ≡ parts_opened (table_of t) t.fair t.label t.next rule
  unfolding opened_of
  behind_table rule =
      rw (
        ap bytes_of says.is,
        plants.small_read t says.text (accepted_formed t table) says.said,
        passes_check t table,
        take_padded 4 (length t.fair) t.fair refl table.few_fair,
        take_padded 64 t.states t.label table.labels table.few_states,
        take_padded 64 t.states t.next table.nexts table.few_states,
      )
      refl

  module _ (rule : List ℕ) (f : Formula) (rule_says : SaysBare rule t.props f) where
    pub input : Input (counts_in t) t.fair t.label t.next (rule_of f)
    input = passes t table rule_says.says

    abbrev pub start : Opened
    start =
        let live = (prepared_of (counts_in t) t.fair t.label t.next (rule_of f)).live in
        made (table_of t) (rule_of f) live (open_call (counts_in t) t.fair t.label t.next (rule_of f) live).monitor

    pub behind_rule : opened_of text rule ≡ start
    unfolding parts_opened rule_opened
    behind_rule = behind_table rule ∙ rw (
      ap (λ (s : List ℕ). rule_read (counts_in t) t.fair t.label t.next s) (sym rule_says.bare) ∙ text_read_lem t table rule_says.says,
      (prepare_accepted (counts_in t) t.fair t.label t.next (rule_of f) (full (counts_in t) t.fair t.label t.next (rule_of f) input)).1 input,
    ) refl

    -- what was opened is followed with the table's own parts
    abbrev pub course : List ℕ → Course
    course log =
        let live = (prepared_of (counts_in t) t.fair t.label t.next (rule_of f)).live in
        course_of (counts_in t) t.fair t.label t.next (rule_of f) live (open_call (counts_in t) t.fair t.label t.next (rule_of f) live).monitor log

    pub course_is : (log : List ℕ) → course_from start log ≡ course log
    course_is log =
        rw (
          take_padded 4 (length t.fair) t.fair refl table.few_fair,
          take_padded 64 t.states t.label table.labels table.few_states,
          take_padded 64 t.states t.next table.nexts table.few_states,
        )
        refl

    -- so this is heard, by the check of the log and the buffer
    heard_is : (log : List ℕ) (room : ℕ) {o : Outcome} → log_checked t.props log room ≡ o → heard_of text rule log room ≡ heard_in o start log
    unfolding heard_of
    heard_is log room e = ap (λ (o : Opened). heard_from o log room) behind_rule ∙ ap (λ (o : Outcome). heard_in o start log) e

    module _ (log : List ℕ) (es : List Event) (log_says : SaysLog (bytes log) t.props es) where
      pub log_read_lem : log_read (width_of t.props) log ≡ record { outcome = Ok tt; lines = length es }
      log_read_lem = ap (log_read (width_of t.props)) (ap bytes_of log_says.is) ∙ (logs_laws.small_read (width_of t.props) es log_says.text log_says.writable log_says.said).0

      pub taken : Taken (width_of t.props) log es
      taken = subst (λ (s : List ℕ). Taken (width_of t.props) s es) (sym (ap bytes_of log_says.is)) (log_taken log_says)

      abbrev event : ℕ → Event
      event = event_at (width_of t.props) log

      pub all_gone : Gone (counts_in t) t.fair t.label t.next (rule_of f) input es (length es) (course log)
      all_gone =
          subst (λ (n : ℕ). Gone (counts_in t) t.fair t.label t.next (rule_of f) input es (length es) (at (counts_in t) t.fair t.label t.next (rule_of f) input es event taken.events n)) (sym taken.many)
          (gone (counts_in t) t.fair t.label t.next (rule_of f) input es event taken.events (length es) (omega arith))

      course_watches : (before : List ℕ) → Watches t f es before (over (verdict_bytes (course log).lamps) before) (heard_by (bytes_in (width_of t.props) log) (course log)).answer
      course_watches before =
          subst (λ (g : Formula). Watches t g es before (over (verdict_bytes (course log).lamps) before) (heard_by (bytes_in (width_of t.props) log) (course log)).answer) (formula_is (value t table rule_says.says))
          (subst (λ (w : ℕ). Watches t (watching.f (counts_in t) t.fair t.label t.next (rule_of f)) es before (over (verdict_bytes (course log).lamps) before) (heard_by w (course log)).answer) (sym taken.wide)
          (watches (counts_in t) t.fair t.label t.next (rule_of f) input es before (course log) all_gone))

      verdicts_right : (before : List ℕ) → length es ≤ length before → Watches t f es before (buffer_of text rule log before) (answer_of text rule log before)
      unfolding log_checked
      verdicts_right before room =
          subst (λ (h : Heard). Watches t f es before (over h.bytes before) h.answer)
          (sym (heard_is log (length before) {o = Ok tt} (rw (log_read_lem, le-leb (length es) (length before) room) refl) ∙ ap (heard_by (bytes_in (width_of t.props) log)) (course_is log)))
          (course_watches before)

-- ---- THE CLAIMS

pub whole_log_right : WholeLog
whole_log_right table rule log before t f es table_says accepted rule_says log_says room = verdicts_right t accepted table table_says rule f rule_says log es log_says before room

-- no byte is written where nothing but a refusal is heard
module _ (text : List ℕ) (before : List ℕ) where
  untouched : (rule log : List ℕ) {kind : Kind} {i : ℕ} → opened_of text rule ≡ not_opened (refused_at kind i) → Untouched kind i before (buffer_of text rule log before) (answer_of text rule log before)
  unfolding heard_of
  untouched rule log {kind} {i} e =
      subst (λ (h : Heard). Untouched kind i before (over h.bytes before) h.answer) (sym (ap (λ (x : Opened). heard_from x log (length before)) e)) (record { refused = refl; stays = refl })

  module _ (t : run.Plant) (says : SaysTable (bytes text) t) (table : AcceptedTable t) where
    of_log : (rule : List ℕ) (f : Formula) → SaysBare rule t.props f → (log : List ℕ) → OfLog t f log before (buffer_of text rule log before) (answer_of text rule log before)
    unfolding log_checked
    of_log rule f rule_says log = by (logs_laws.reading (width_of t.props) log)
      where
        -- by what the check of the log and the buffer says
        refused_by_lem : {kind : Kind} {i : ℕ} → log_checked t.props log (length before) ≡ Err (refused_at kind i) → Untouched kind i before (buffer_of text rule log before) (answer_of text rule log before)
        refused_by_lem {kind} {i} e =
            subst (λ (h : Heard). Untouched kind i before (over h.bytes before) h.answer) (sym (heard_is t table text says rule f rule_says log (length before) e)) (record { refused = refl; stays = refl })

        by : logs.Reading (width_of t.props) log → OfLog t f log before (buffer_of text rule log before) (answer_of text rule log before)
        by (logs.misformed i p r) = log_refused i p (refused_by_lem (rw r refl))
        by (logs.accepted es ok small r at) =
            let log_says : SaysLog (bytes log) t.props es = record { text = log; is = refl; said = small; writable = ok } in
            ⊎_elim
            (λ (short : length before < length es). no_room es log_says short (refused_by_lem (rw (r, lt-leb (length es) (length before) short) refl)))
            (λ (room : length es ≤ length before). verdicts es log_says room (verdicts_right t table text says rule f rule_says log es log_says before room))
            (below_or_beyond (length before) (length es))

    of_rule : (rule log : List ℕ) → OfRule t rule log before (buffer_of text rule log before) (answer_of text rule log before)
    unfolding parts_opened
    of_rule rule log = by (rule_read (counts_in t) t.fair t.label t.next rule) refl (answer (counts_in t) t.fair t.label t.next rule)
      where
        by : (x : RuleRead) → rule_read (counts_in t) t.fair t.label t.next rule ≡ x → Answer x → OfRule t rule log before (buffer_of text rule log before) (answer_of text rule log before)
        by x e (refuses kind i) =
            rule_refused kind i ((rules.refused_exactly (counts_in t) t.fair t.label t.next rule kind i).0 e)
            (untouched rule log (behind_table t table text says rule ∙ rw e refl))
        by x e (gives-rule r) =
            let takes = (rules.accepted_exactly (counts_in t) t.fair t.label t.next rule r).0 e in
            let rule_says : SaysBare rule t.props takes.formula = record {
              says = record { text = rule; is = inl refl; said = takes.reads.says; short = takes.reads.short; below = takes.below; small = takes.small; few = takes.few };
              bare = refl;
            } in
            rule_said takes.formula rule_says (of_log rule takes.formula rule_says log)

pub every_answer : EveryAnswer
unfolding opened_of
every_answer table rule log before = by (plants.reading table)
  where
    table_says : (t : run.Plant) → small_of (table_slots t) table ≡ table_text t → SaysTable (bytes table) t
    table_says t small = record { text = table; is = refl; said = small }

    by : plants.Reading table → Answered table rule log before (buffer_of table rule log before) (answer_of table rule log before)
    by (plants.accepted t accepted small r) = let says = table_says t small in table_said t says accepted (of_rule table before t says accepted rule log)
    by (plants.beyond t formed b small r) = bit_beyond t (table_says t small) formed b (untouched table before rule log (rw r refl))
    by (plants.misformed i p r) = table_refused i p (untouched table before rule log (rw r refl))

-- ---- NO CHOICE: two buffers and answers that show what three texts dictate are the same

module _ (t : run.Plant) (f : Formula) where
  close_one : {es : List Event} {k m : ℕ} {x y : LogAnswer} → Closes t es k x → Closes t es m y → (k ≡ m) × (x ≡ y)
  close_one (at_end_lem a) (at_end_lem b) = (refl, refl)
  close_one (at_end_lem a) (at_event m low b bad) = absurd (bad (a m low).0)
  close_one (at_end_lem a) (at_number m low b fine bad) = absurd (bad (a m low).1)
  close_one (at_event k low a bad) (at_end_lem b) = absurd (bad (b k low).0)
  close_one {es} (at_event k low a bad) (at_event m low' b bad') =
      let same = stop_one t f k m a b (λ x. bad x.0) (λ x. bad' x.0) in (same, ap (stopped_by IllegalEvent t es) same)
  close_one {es} (at_event k low a bad) (at_number m low' b fine bad') =
      absurd (bad (subst (door.LegalAt t es) (sym (stop_one t f k m a b (λ x. bad x.0) (λ x. bad' x.1))) fine))
  close_one (at_number k low a fine bad) (at_end_lem b) = absurd (bad (b k low).1)
  close_one {es} (at_number k low a fine bad) (at_event m low' b bad') =
      absurd (bad' (subst (door.LegalAt t es) (stop_one t f k m a b (λ x. bad x.1) (λ x. bad' x.0)) fine))
  close_one {es} (at_number k low a fine bad) (at_number m low' b fine' bad') =
      let same = stop_one t f k m a b (λ x. bad x.1) (λ x. bad' x.1) in (same, ap (stopped_by NumberKind t es) same)

  pub one_watch : {es : List Event} {before x y : List ℕ} {a b : LogAnswer} → Watches t f es before x a → Watches t f es before y b → (x ≡ y) × (a ≡ b)
  one_watch {es} {before} {a = a} {b = b} v w = (v.is ∙ ap (λ (s : List ℕ). over s before) numbers ∙ sym w.is, closes.1)
    where
      closes : (length v.verdicts ≡ length w.verdicts) × (a ≡ b)
      closes = close_one v.closes w.closes

      numbers : map number_of v.verdicts ≡ map number_of w.verdicts
      numbers = ext_get_or 0 (map number_of v.verdicts) (map number_of w.verdicts) (length-map v.verdicts number_of ∙ closes.0 ∙ sym (length-map w.verdicts number_of))
          (λ n low.
          let low' : n < length v.verdicts = rw length-map at low in
          get_or-map number_of v.verdicts n Inconclusive
          ∙ verdict_one t f (get_or v.verdicts n Inconclusive) (get_or w.verdicts n Inconclusive) (v.byte_right n low') (w.byte_right n (rw (← closes.0) low'))
          ∙ sym (get_or-map number_of w.verdicts n Inconclusive))
