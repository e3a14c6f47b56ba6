-- From texts to the minutes of a day: the texts are opened, and each line of the log is noted. Here are the two claims of DayMinutes proved.
use Rattle.std.specs.Prelude.{ℕ, ◌<◌, ◌≡◌, List, length, take, Err}
use Rattle.std.proofs.Common.{arith, sym, subst, ◌∙◌}
use Rattle.std.proofs.Math.Path.{refl, ap}
use Rattle.std.proofs.Math.Logic.{inl}
use Rattle.meaning.specs.Formula.{Formula}
use Rattle.meaning.specs.Run as run
use Rattle.meaning.specs.Limits.{AcceptedTable}
use Rattle.pairs.specs.declared.Pairs.{Pairs}
use Rattle.text.specs.Number.{width_of}
use Rattle.text.specs.Written.{small_of}
use Rattle.text.specs.FirstLine.{first_of}
use Rattle.answers.specs.declared.Refusal.{Refusal}
use Rattle.answers.specs.Paper.{refused_at}
use Rattle.plant.specs.Read.{counts_in, table_of, take_padded}
use Rattle.plant.specs.Written.{table_slots, table_text}
use Rattle.plant.specs.Promises as plants
use Rattle.plant.specs.Promises.{accepted_formed}
use Rattle.syntax.specs.Value.{rule_of}
use Rattle.rule_text.specs.declared.RuleRead.{RuleRead}
use Rattle.rule_text.specs.Reading.{rule_read}
use Rattle.rule.proofs.Promises as rules
use Rattle.event_log.specs.declared.Event.{Event}
use Rattle.event_log.specs.declared.LogRead.{LogRead}
use Rattle.event_log.specs.Line.{line_bytes}
use Rattle.event_log.specs.Log.{gives}
use Rattle.event_log.specs.Read.{bytes_in, event_at}
use Rattle.event_log.specs.Promises as logs
use Rattle.event_log.proofs.Promises as logs_laws
use Rattle.checks.specs.Input.{formula_is}
use Rattle.sides.specs.declared.Monitor.{Monitor}
use Rattle.monitor.specs.Calls.{open_call}
use Rattle.watching.specs.Watching as watching
use Rattle.opened.specs.declared.Opened.{Opened}
use Rattle.opened.specs.Opened.{not_opened, parts_opened, opened_of}
use Rattle.transcript.specs.Said.{bytes, bytes_of}
use Rattle.front_door.specs.FrontDoor.{SaysTable, SaysLog, TakenAt}
use Rattle.front_door.specs.WholeLog.{SaysBare}
use Rattle.front_door.proofs.FromTexts.{value, passes_check, Answer, refuses, gives as gives-rule, answer}
use Rattle.front_door.proofs.FromLog.{input, start, behind_rule, log_read_lem, taken}
use Rattle.stretches.specs.declared.DaySheet.{DaySheet}
use Rattle.stretches.specs.Sheet.{empty_sheet}
use Rattle.day_log.specs.declared.DayWent.{DayWent}
use Rattle.day_log.specs.Day.{day_of}
use Rattle.minutes.specs.declared.Minutes.{Minutes}
use Rattle.minutes.specs.Minutes.{day_from, minutes_by, no_minutes, minutes_in, minutes_from, minutes_of}
use Rattle.minutes_right.specs.DayMinutes.{UpTo, Day, at_end_lem, at_event, at_number, at_stretch, OfLog, log_said, log_refused, OfRule, rule_said, rule_refused, OfTable, table_said, table_refused, bit_beyond, DayMinutes, EveryMinutes}
use Rattle.minutes_right.proofs.Noting.{Gone, going, ended, Stop, illegal, stray, full, Keeps, kept_right, went, at, gone}

-- ---- texts that say a table, a rule and events

module _ (t : run.Plant) (table : AcceptedTable t) (text : List ℕ) (says : SaysTable (bytes text) t) (rule : List ℕ) (f : Formula) (rule_says : SaysBare rule t.props f)
    (log : List ℕ) (es : List Event) (log_says : SaysLog (bytes log) t.props es) where
  abbrev o : Opened
  o = start t table text says rule f rule_says

  abbrev w : ℕ
  w = width_of t.props

  abbrev live : Pairs
  live = watching.live (counts_in t) t.fair t.label t.next (rule_of f)

  abbrev first : Monitor
  first = (open_call (counts_in t) t.fair t.label t.next (rule_of f) live).monitor

  abbrev day : DayWent
  day = day_of (counts_in t) t.fair t.label t.next (rule_of f) live first empty_sheet log

  -- what was opened is noted with the table's own parts
  day_is : day_from o log ≡ day
  day_is =
      rw (
        take_padded 4 (length t.fair) t.fair refl table.few_fair,
        take_padded 64 t.states t.label table.labels table.few_states,
        take_padded 64 t.states t.next table.nexts table.few_states,
      )
      refl

  minutes_is : minutes_of text rule log ≡ minutes_by (bytes_in w log) day
  unfolding minutes_of
  minutes_is =
      ap (λ (x : Opened). minutes_from x log) (behind_rule t table text says rule f rule_says)
      ∙ ap (λ (r : LogRead). minutes_in r.outcome o log) (log_read_lem t table text says rule f rule_says log es log_says)
      ∙ ap (minutes_by (bytes_in w log)) day_is

  -- the rule as the calls have it
  abbrev g : Formula
  g = watching.f (counts_in t) t.fair t.label t.next (rule_of f)

  abbrev Went : ℕ → DayWent → Type 0
  Went = Gone (counts_in t) t.fair t.label t.next (rule_of f) (input t table text says rule f rule_says) es

  all_gone : Went (length es) day
  all_gone =
      let lines = taken t table text says rule f rule_says log es log_says in
      subst (λ (n : ℕ). Went (length es) (at (counts_in t) t.fair t.label t.next (rule_of f) (input t table text says rule f rule_says) es (event_at w log) lines.events n)) (sym lines.many)
      (gone (counts_in t) t.fair t.label t.next (rule_of f) (input t table text says rule f rule_says) es (event_at w log) lines.events (length es) (omega arith))

  -- the sheet behind events that were accepted
  up_to : (k : ℕ) (m : Monitor) (s : DaySheet) → ((n : ℕ) → n < k → TakenAt t es n)
      → Keeps (counts_in t) t.fair t.label t.next (rule_of f) (input t table text says rule f rule_says) (take k es) m s → UpTo t g es k s
  up_to k m s before kept = record { taken = before; sheet = kept_right (counts_in t) t.fair t.label t.next (rule_of f) (input t table text says rule f rule_says) (take k es) m s kept }

  -- how a day ends
  abbrev ending : DayWent → Minutes
  ending c = minutes_by (line_bytes (first_of gives es) w) c

  day_of_lem : (c : DayWent) → Went (length es) c → Day t g es (ending c)
  day_of_lem c (going m s before held kept is) = subst (λ (x : DayWent). Day t g es (ending x)) (sym is) (at_end_lem s (up_to (length es) m s before kept))
  day_of_lem c (ended k low m s before kept r why is) = subst (λ (x : DayWent). Day t g es (ending x)) (sym is) (by r why)
    where
      upto : UpTo t g es k s
      upto = up_to k m s before kept

      by : (r : Refusal) → Stop (counts_in t) t.fair t.label t.next (rule_of f) (input t table text says rule f rule_says) es k s r
          → Day t g es (ending (went (counts_in t) t.fair t.label t.next (rule_of f) (input t table text says rule f rule_says) (Err r) k m s))
      by r (illegal bad) = at_event k s low upto bad
      by r (stray fine bad) = at_number k s low upto fine bad
      by r (full fine many new) = at_stretch k s low upto fine many new

  day_right : Day t f es (minutes_of text rule log)
  day_right =
      let lines = taken t table text says rule f rule_says log es log_says in
      subst (λ (m : Minutes). Day t f es m) (sym (minutes_is ∙ ap (λ (b : ℕ). minutes_by b day) lines.wide))
      (subst (λ (h : Formula). Day t h es (ending day)) (formula_is (value t table rule_says.says)) (day_of_lem day all_gone))

-- THE SHEET OF A DAY IS RIGHT, line by line
pub minutes_right_lem : DayMinutes
minutes_right_lem table rule log t f es table_says accepted rule_says log_says = day_right t accepted table table_says rule f rule_says log es log_says

-- ---- any texts

module _ (text : List ℕ) where
  -- beside a refusal of texts that are not opened stands the empty sheet
  unopened : (rule log : List ℕ) (r : Refusal) → opened_of text rule ≡ not_opened r → minutes_of text rule log ≡ no_minutes r
  unfolding minutes_of
  unopened rule log r e = ap (λ (x : Opened). minutes_from x log) e

  module _ (t : run.Plant) (says : SaysTable (bytes text) t) (table : AcceptedTable t) where
    -- the table that is said is lent, part by part
    behind_table : (rule : List ℕ) → opened_of text rule ≡ parts_opened (table_of t) t.fair t.label t.next rule
    unfolding opened_of
    behind_table rule =
        rw (
          ap bytes_of says.is,
          plants.small_read t says.text (accepted_formed t table) says.said,
          passes_check t table,
          take_padded 4 (length t.fair) t.fair refl table.few_fair,
          take_padded 64 t.states t.label table.labels table.few_states,
          take_padded 64 t.states t.next table.nexts table.few_states,
        )
        refl

    of_log : (rule : List ℕ) (f : Formula) → SaysBare rule t.props f → (log : List ℕ) → OfLog t f log (minutes_of text rule log)
    unfolding minutes_of
    of_log rule f rule_says log = by (logs_laws.reading (width_of t.props) log)
      where
        by : logs.Reading (width_of t.props) log → OfLog t f log (minutes_of text rule log)
        by (logs.misformed i p r) =
            log_refused i p
            (ap (λ (x : Opened). minutes_from x log) (behind_rule t table text says rule f rule_says)
            ∙ ap (λ (x : LogRead). minutes_in x.outcome (start t table text says rule f rule_says) log) r)
        by (logs.accepted es ok small r at) =
            let log_says : SaysLog (bytes log) t.props es = record { text = log; is = refl; said = small; writable = ok } in
            log_said es log_says (day_right t table text says rule f rule_says log es log_says)

    of_rule : (rule log : List ℕ) → OfRule t rule log (minutes_of text rule log)
    unfolding parts_opened
    of_rule rule log = by (rule_read (counts_in t) t.fair t.label t.next rule) refl (answer (counts_in t) t.fair t.label t.next rule)
      where
        by : (x : RuleRead) → rule_read (counts_in t) t.fair t.label t.next rule ≡ x → Answer x → OfRule t rule log (minutes_of text rule log)
        by x e (refuses kind i) =
            rule_refused kind i ((rules.refused_exactly (counts_in t) t.fair t.label t.next rule kind i).0 e)
            (unopened rule log (refused_at kind i) (behind_table rule ∙ rw e refl))
        by x e (gives-rule r) =
            let takes = (rules.accepted_exactly (counts_in t) t.fair t.label t.next rule r).0 e in
            let rule_says : SaysBare rule t.props takes.formula = record {
              says = record { text = rule; is = inl refl; said = takes.reads.says; short = takes.reads.short; below = takes.below; small = takes.small; few = takes.few };
              bare = refl;
            } in
            rule_said takes.formula rule_says (of_log rule takes.formula rule_says log)

-- ANY TEXTS: every refusal with its cause and its place, and else the day
pub every_minutes : EveryMinutes
unfolding opened_of
every_minutes table rule log = by (plants.reading table)
  where
    table_says : (t : run.Plant) → small_of (table_slots t) table ≡ table_text t → SaysTable (bytes table) t
    table_says t small = record { text = table; is = refl; said = small }

    by : plants.Reading table → OfTable table rule log (minutes_of table rule log)
    by (plants.accepted t accepted small r) = let says = table_says t small in table_said t says accepted (of_rule table t says accepted rule log)
    by (plants.beyond t formed b small r) = bit_beyond t (table_says t small) formed b (unopened table rule log _ (rw r refl))
    by (plants.misformed i p r) = table_refused i p (unopened table rule log _ (rw r refl))
