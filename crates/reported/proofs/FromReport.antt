-- From texts to the answer: the texts are opened, the course of the log shows the last verdict, and the runs are judged. Here are the claims of Every and Reports proved.
use Rattle.std.specs.Prelude.{ℕ, ◌<◌, ◌≡◌, List, length, get_or}
use Rattle.std.proofs.Math.Path.{refl, ap}
use Rattle.std.proofs.Common.{sym, ap₂, subst, ◌∙◌}
use Rattle.std.proofs.Math.Logic.{inl}
use Rattle.meaning.specs.Formula.{Formula}
use Rattle.meaning.specs.Run as run
use Rattle.meaning.specs.Event.{since}
use Rattle.meaning.specs.Limits.{AcceptedTable}
use Rattle.text.specs.Number.{width_of}
use Rattle.text.specs.Lines.{line_start}
use Rattle.text.specs.Written.{small_of}
use Rattle.answers.specs.declared.Kind.{Kind}
use Rattle.answers.specs.declared.Kind.TheVariants.{IllegalEvent, Number as NumberKind}
use Rattle.answers.specs.declared.Refusal.{Refusal}
use Rattle.answers.specs.Paper.{refused_at}
use Rattle.plant.specs.Read.{counts_in, table_of, take_padded}
use Rattle.plant.specs.Written.{table_slots, table_text}
use Rattle.plant.specs.Promises as plants
use Rattle.plant.specs.Promises.{accepted_formed}
use Rattle.syntax.specs.Value.{rule_of}
use Rattle.rule_text.specs.declared.RuleRead.{RuleRead}
use Rattle.rule_text.specs.Reading.{rule_read}
use Rattle.rule.proofs.Promises as rules
use Rattle.event_log.specs.declared.Event.{Event}
use Rattle.event_log.specs.Log.{nothing}
use Rattle.event_log.specs.Read.{bytes_in, event_at, whole_lines}
use Rattle.event_log.specs.Promises as logs
use Rattle.event_log.proofs.Promises as logs_laws
use Rattle.sides.specs.declared.Monitor.{Monitor}
use Rattle.watching.specs.Filled.{filled}
use Rattle.course.specs.Course.{Course}
use Rattle.opened.specs.declared.Opened.{Opened}
use Rattle.opened.specs.Opened.{not_opened, parts_opened, opened_of}
use Rattle.controller.specs.declared.LogEnd.{LogEnd}
use Rattle.controller.specs.Whole.{heard_by, end_from, end_of}
use Rattle.transcript.specs.Said.{bytes, bytes_of}
use Rattle.front_door.specs.FrontDoor.{SaysTable, SaysLog, TakenAt}
use Rattle.front_door.specs.WholeLog.{SaysBare}
use Rattle.front_door.proofs.FromTexts.{passes_check, Answer, refuses, gives as gives-rule, answer}
use Rattle.front_door.proofs.FromLog.{input, start, course, taken, all_gone}
use Rattle.front_door.proofs.AtEnd.{end_read, end_is, last, verdict_right}
use Rattle.front_door.proofs.Lamps.{Gone, all_taken, stopped, Stop, illegal, stray}
use Rattle.neighbour.specs.declared.sent.Report.{Report}
use Rattle.neighbour.specs.declared.Judged.{Judged}
use Rattle.neighbour.specs.declared.Judged.TheVariants.{Stopped, Refused}
use Rattle.neighbour.specs.Report.{report_of}
use Rattle.neighbour.specs.Judged.{judged_at, judged_after, unless_stopped, judged_end, judged_of}
use Rattle.reported.specs.Every.{stopped_by, Deserves, Ends, at_end_lem, at_event, at_number, OfLog, log_said, log_refused, OfRule, rule_said, rule_refused, OfTable, table_said, table_refused, bit_beyond, EveryReport}
use Rattle.reported.proofs.Faults.{deserved}
use Rattle.reported.specs.Reports.{ReportsRight}

-- ---- events, behind a table, a rule and a log that are said

module _ (t : run.Plant) (table : AcceptedTable t) (text : List ℕ) (says : SaysTable (bytes text) t) (rule : List ℕ) (f : Formula) (rule_says : SaysBare rule t.props f)
    (log : List ℕ) (es : List Event) (log_says : SaysLog (bytes log) t.props es) (claim : ℕ) (keep_stem keep_loop break_stem break_loop : List ℕ) where
  abbrev o : Opened
  o = start t table text says rule f rule_says

  abbrev w : ℕ
  w = width_of t.props

  abbrev n : ℕ
  n = length es

  abbrev event : ℕ → Event
  event k = get_or es k nothing

  abbrev report : Report
  report = report_of claim keep_stem keep_loop break_stem break_loop

  abbrev ended : (ℕ → Event) → ℕ → Monitor → Judged
  ended e k last = judged_at (counts_in t) t.fair t.label t.next (rule_of f) e k last report

  -- how a course ends
  abbrev ending : Course → Judged
  ending c = unless_stopped (heard_by (bytes_in w log) c).answer (ended (event_at w log) (whole_lines w log) c.went.monitor)

  -- of the table as many parts are lent as it has
  parts_are : (m : Monitor) → judged_after o.table o.rule log m report ≡ ended (event_at w log) (whole_lines w log) m
  parts_are m =
      rw (
        take_padded 4 (length t.fair) t.fair refl table.few_fair,
        take_padded 64 t.states t.label table.labels table.few_states,
        take_padded 64 t.states t.next table.nexts table.few_states,
      )
      refl

  judged_is : judged_of text rule log report ≡ ending (course t table text says rule f rule_says log)
  unfolding judged_of
  judged_is =
      let c = course t table text says rule f rule_says log in
      ap (λ (e : LogEnd). judged_end e log report) (end_is t table text says rule f rule_says log es log_says)
      ∙ ap (unless_stopped (heard_by (bytes_in w log) c).answer) (parts_are c.went.monitor)

  -- the lines of the text are the events
  same : (m : Monitor) → ended (event_at w log) (whole_lines w log) m ≡ ended event n m
  same m =
      let lines = taken t table text says rule f rule_says log es log_says in
      let events : event_at w log ≡ event = λ i k. lines.events k i in
      ap₂ (λ (e : ℕ → Event) (k : ℕ). ended e k m) events lines.many

  -- the monitor behind all events
  abbrev m : Monitor
  m = last t table text says rule f rule_says es

  judges : ((k : ℕ) → k < length es → TakenAt t es k) → Deserves claim keep_stem keep_loop break_stem break_loop t f (since (filled es)) (ended event n m)
  judges all =
      deserved (counts_in t) t.fair t.label t.next (rule_of f) f refl rule_says.says.small w es event (λ k. refl) log_says.writable (λ k l. (all k l).1) m
      (verdict_right t table text says rule f rule_says es all) keep_stem keep_loop break_stem break_loop claim

  -- an event is refused at the offset of its line
  abbrev halted : Refusal → ℕ → Judged
  halted r k = Stopped (record { refusal = refused_at r.kind (line_start (bytes_in w log) k); event = k })

  at_line_lem : (kind : Kind) (k : ℕ) → halted (refused_at kind 0) k ≡ stopped_by kind t es k
  at_line_lem kind k = ap (λ (b : ℕ). Stopped (record { refusal = refused_at kind (line_start b k); event = k })) (taken t table text says rule f rule_says log es log_says).wide

  halts : (k : ℕ) → k < n → ((m : ℕ) → m < k → TakenAt t es m) → (r : Refusal)
      → Stop (counts_in t) t.fair t.label t.next (rule_of f) (input t table text says rule f rule_says) es k r
      → Ends claim keep_stem keep_loop break_stem break_loop t f es (halted r k)
  halts k low before r (illegal bad) = at_event k low before bad (at_line_lem IllegalEvent k)
  halts k low before r (stray fine bad) = at_number k low before fine bad (at_line_lem NumberKind k)

  ends : (c : Course) → Gone (counts_in t) t.fair t.label t.next (rule_of f) (input t table text says rule f rule_says) es n c
      → Ends claim keep_stem keep_loop break_stem break_loop t f es (ending c)
  ends c (all_taken lamps many named as_many before right numbers is) =
      at_end_lem before (rw is (subst (Deserves claim keep_stem keep_loop break_stem break_loop t f (since (filled es))) (sym (same m)) (judges before)))
  ends c (stopped k low lamps many named as_many before r why right numbers m is) = rw is (halts k low before r why)

  report_ends : Ends claim keep_stem keep_loop break_stem break_loop t f es (judged_of text rule log report)
  report_ends =
      subst (Ends claim keep_stem keep_loop break_stem break_loop t f es) (sym judged_is)
      (ends (course t table text says rule f rule_says log) (all_gone t table text says rule f rule_says log es log_says))

-- ---- any texts

module _ (text : List ℕ) (claim : ℕ) (keep_stem keep_loop break_stem break_loop : List ℕ) where
  abbrev sent : Report
  sent = report_of claim keep_stem keep_loop break_stem break_loop

  -- nothing but a refusal comes of texts that are not opened
  unopened : (rule log : List ℕ) (r : Refusal) → opened_of text rule ≡ not_opened r → judged_of text rule log sent ≡ Refused r
  unfolding judged_of end_of
  unopened rule log r e = ap (λ (x : Opened). judged_end (end_from x log) log sent) e

  module _ (t : run.Plant) (says : SaysTable (bytes text) t) (table : AcceptedTable t) where
    -- the table that is said is lent, part by part
    behind_table : (rule : List ℕ) → opened_of text rule ≡ parts_opened (table_of t) t.fair t.label t.next rule
    unfolding opened_of
    behind_table rule =
        rw (
          ap bytes_of says.is,
          plants.small_read t says.text (accepted_formed t table) says.said,
          passes_check t table,
          take_padded 4 (length t.fair) t.fair refl table.few_fair,
          take_padded 64 t.states t.label table.labels table.few_states,
          take_padded 64 t.states t.next table.nexts table.few_states,
        )
        refl

    of_log : (rule : List ℕ) (f : Formula) → SaysBare rule t.props f → (log : List ℕ) → OfLog claim keep_stem keep_loop break_stem break_loop t f log (judged_of text rule log sent)
    unfolding judged_of
    of_log rule f rule_says log = by (logs_laws.reading (width_of t.props) log)
      where
        by : logs.Reading (width_of t.props) log → OfLog claim keep_stem keep_loop break_stem break_loop t f log (judged_of text rule log sent)
        by (logs.misformed i p r) =
            log_refused i p
            (ap (λ (e : LogEnd). judged_end e log sent) (end_read t table text says rule f rule_says log r))
        by (logs.accepted es ok small r at) =
            let log_says : SaysLog (bytes log) t.props es = record { text = log; is = refl; said = small; writable = ok } in
            log_said es log_says (report_ends t table text says rule f rule_says log es log_says claim keep_stem keep_loop break_stem break_loop)

    of_rule : (rule log : List ℕ) → OfRule claim keep_stem keep_loop break_stem break_loop t rule log (judged_of text rule log sent)
    unfolding parts_opened
    of_rule rule log = by (rule_read (counts_in t) t.fair t.label t.next rule) refl (answer (counts_in t) t.fair t.label t.next rule)
      where
        by : (x : RuleRead) → rule_read (counts_in t) t.fair t.label t.next rule ≡ x → Answer x → OfRule claim keep_stem keep_loop break_stem break_loop t rule log (judged_of text rule log sent)
        by x e (refuses kind i) =
            rule_refused kind i ((rules.refused_exactly (counts_in t) t.fair t.label t.next rule kind i).0 e)
            (unopened rule log (refused_at kind i) (behind_table rule ∙ rw e refl))
        by x e (gives-rule r) =
            let takes = (rules.accepted_exactly (counts_in t) t.fair t.label t.next rule r).0 e in
            let rule_says : SaysBare rule t.props takes.formula = record {
              says = record { text = rule; is = inl refl; said = takes.reads.says; short = takes.reads.short; below = takes.below; small = takes.small; few = takes.few };
              bare = refl;
            } in
            rule_said takes.formula rule_says (of_log rule takes.formula rule_says log)

-- ANY TEXTS, CLAIMS AND RUNS: every refusal with its cause and its place, and else the answer that the report deserves
pub every_report : EveryReport
unfolding opened_of
every_report table rule log claim keep_stem keep_loop break_stem break_loop = by (plants.reading table)
  where
    table_says : (t : run.Plant) → small_of (table_slots t) table ≡ table_text t → SaysTable (bytes table) t
    table_says t small = record { text = table; is = refl; said = small }

    by : plants.Reading table → OfTable claim keep_stem keep_loop break_stem break_loop table rule log (judged_of table rule log (report_of claim keep_stem keep_loop break_stem break_loop))
    by (plants.accepted t accepted small r) = let says = table_says t small in table_said t says accepted (of_rule table claim keep_stem keep_loop break_stem break_loop t says accepted rule log)
    by (plants.beyond t formed b small r) = bit_beyond t (table_says t small) formed b (unopened table claim keep_stem keep_loop break_stem break_loop rule log _ (rw r refl))
    by (plants.misformed i p r) = table_refused i p (unopened table claim keep_stem keep_loop break_stem break_loop rule log _ (rw r refl))

-- WHERE ALL EVENTS ARE ACCEPTED each answer is given exactly where the report deserves it: which run is wrong and the first rule that it fails, that the verdict is wrong, 9 and 22
pub answers_right : (table rule log : List ℕ) (t : run.Plant) (f : Formula) (es : List Event) → SaysTable (bytes table) t → AcceptedTable t → SaysBare rule t.props f → SaysLog (bytes log) t.props es
    → ((n : ℕ) → n < length es → TakenAt t es n) → (claim : ℕ) (keep_stem keep_loop break_stem break_loop : List ℕ)
    → Deserves claim keep_stem keep_loop break_stem break_loop t f (since (filled es)) (judged_of table rule log (report_of claim keep_stem keep_loop break_stem break_loop))
answers_right table rule log t f es table_says accepted rule_says log_says all claim keep_stem keep_loop break_stem break_loop =
    by (report_ends t accepted table table_says rule f rule_says log es log_says claim keep_stem keep_loop break_stem break_loop)
  where
    by : {j : Judged} → Ends claim keep_stem keep_loop break_stem break_loop t f es j → Deserves claim keep_stem keep_loop break_stem break_loop t f (since (filled es)) j
    by (at_end_lem before d) = d
    by (at_event k low before bad e) = absurd (bad (all k low).0)
    by (at_number k low before fine bad e) = absurd (bad (all k low).1)

-- A REPORT IS ACCEPTED EXACTLY IF IT IS RIGHT: sound, and complete
pub reports_right : ReportsRight
reports_right table rule log t f es table_says accepted rule_says log_says all claim keep_stem keep_loop break_stem break_loop =
    (answers_right table rule log t f es table_says accepted rule_says log_says all claim keep_stem keep_loop break_stem break_loop).accepted

-- the contract leaves no choice
pub one_report : (table rule log : List ℕ) (report : Report) {r r' : Judged} → r ≡ judged_of table rule log report → r' ≡ judged_of table rule log report → r ≡ r'
one_report table rule log report e f = e ∙ sym f
