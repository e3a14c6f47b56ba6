-- From texts to lamps: the readers give what the texts say, and the calls show the rest. Here are the two claims of FrontDoor proved.
use Rattle.std.specs.Prelude.{ℕ, ◌≤◌, ◌<◌, ◌≡◌, Bool, true, false, cond, List, ◌++◌, ◌↔◌, ltb, length, Ok, Err, Result}
use Rattle.std.proofs.Common.{arith, ap, subst, ◌∙◌}
use Rattle.std.proofs.Math.Path.{refl}
use Rattle.std.proofs.Math.Logic.{inl, inr, ⊎_elim}
use Rattle.meaning.specs.Formula.{Formula}
use Rattle.meaning.specs.Run as run
use Rattle.meaning.specs.Limits.{AcceptedTable, most_nodes, most_parts}
use Rattle.text.specs.Number.{width_of}
use Rattle.text.specs.Written.{small_of}
use Rattle.text.specs.Place.{OfForm, RefusedAt}
use Rattle.text.specs.Form.{Form}
use Rattle.text.specs.Cases.{below_or_beyond}
use Rattle.answers.specs.declared.Kind.{Kind}
use Rattle.answers.specs.declared.Kind.TheVariants.{RuleLength, RuleText, Proposition, Nodes, Parts}
use Rattle.answers.specs.Results.{Outcome}
use Rattle.plant.specs.declared.Plant.{Plant}
use Rattle.plant.specs.Table.{table_outcome}
use Rattle.plant.specs.Check.{accepted_exactly}
use Rattle.plant.specs.Read.{counts_in, take_padded}
use Rattle.plant.specs.Written.{table_slots, table_text}
use Rattle.plant.specs.Promises as plants
use Rattle.plant.specs.Promises.{accepted_formed}
use Rattle.syntax.specs.declared.Rule.{Rule}
use Rattle.syntax.specs.Reader.{parse}
use Rattle.syntax.specs.Scan.{scan}
use Rattle.syntax.specs.Value.{rule_of, empty_rule, held, count}
use Rattle.syntax.specs.Grammar.{longest_rule}
use Rattle.reader.specs.Draft as reader
use Rattle.rule_text.specs.declared.RuleRead.{RuleRead}
use Rattle.std.specs.Prelude.{Option}
use Rattle.std.specs.Prelude.{Some, None}
use Rattle.rule_text.specs.Reading.{no_rule, accepted, unknown_at, of_found, of_scan, of_table, rule_read}
use Rattle.rule_value.specs.Valid.{RuleValue}
use Rattle.rule_text.specs.Paper.{Beside}
use Rattle.rule.proofs.Promises as rules
use Rattle.event_log.specs.declared.Event.{Event}
use Rattle.event_log.specs.Line.{line_bytes}
use Rattle.event_log.specs.declared.LogRead.{LogRead}
use Rattle.event_log.specs.Promises as logs
use Rattle.event_log.proofs.Promises as logs_laws
use Rattle.event_log.proofs.Promises.{small_read}
use Rattle.event_log.proofs.Forms.{first_is, lines_many}
use Rattle.checks.specs.Input.{Input, given, formula_is}
use Rattle.report.specs.Text.{lf}
use Rattle.transcript.specs.Said as said
use Rattle.transcript.specs.Said.{File, bytes, missing, output_of}
use Rattle.front_door.specs.FrontDoor.{SaysTable, SaysRule, SaysLog, StopsAt, Shows, OfLog, lamps, no_log, log_refused, OfRule, rule_said, no_rule_lem, rule_refused, Output, table_said, no_plant, table_refused, bit_beyond, FrontDoor, EveryOutput}
use Rattle.front_door.proofs.Lamps.{Taken, played}
use Rattle.front_door.specs.RuleEnd.{stripped, end_said, end_dropped, end_or}

-- ---- the readers

-- a log that says events is accepted
pub log_taken : {log : File} {q : ℕ} {es : List Event} (says : SaysLog log q es) → Taken (width_of q) says.text es
log_taken {log} {q} {es} says = let read = small_read (width_of q) es says.text says.writable says.said in
    record {
      accepts = ap (λ (r : LogRead). r.outcome) read.0;
      events = read.1;
      many = (lines_many (width_of q) es says.text says.writable says.said).0;
      wide = ap (λ (b : Bool). line_bytes b (width_of q)) (first_is (width_of q) es says.text says.writable says.said);
    }

-- where a form refuses a text, said by the texts of the form alone
stops : {A : Type 0} {F : Form A} {Of : List ℕ → Type 0} {s : List ℕ} {i : ℕ} → ((s : List ℕ) → OfForm F s ↔ Of s) → RefusedAt F s i → StopsAt Of s i
stops {s} {i} same r =
    record {
      outside = λ x. r.not_of_form ((same s).1 x);
      before = let v = r.viable i (omega arith) in (v.rest, (same _).0 v.of_form);
      here = ⊎_elim (λ (l : i < length s). inr (l, λ (rest, x). r.stops l (record { rest = rest; of_form = (same _).1 x })))
          (λ (l : length s ≤ i). inl (omega (arith, r.within))) (below_or_beyond i (length s));
    }

module _ (t : run.Plant) (table : AcceptedTable t) where
  -- behind the table's check
  abbrev ruled : File → File → List ℕ
  ruled rule log = said.rule_text (counts_in t) t.fair t.label t.next rule log

  -- it passes the check
  abbrev pub passes_check : table_outcome (counts_in t) t.fair t.label t.next ≡ Ok tt
  passes_check = (accepted_exactly (counts_in t) t.fair t.label t.next).1 (refl, table)

  -- the table that is said is lent, part by part
  table_read_lem : {plant : File} → SaysTable plant t → (rule log : File) → output_of plant rule log ≡ ruled rule log
  unfolding output_of
  table_read_lem says rule log =
      rw (
        says.is,
        plants.small_read t says.text (accepted_formed t table) says.said,
        passes_check,
        take_padded 4 (length t.fair) t.fair refl table.few_fair,
        take_padded 64 t.states t.label table.labels table.few_states,
        take_padded 64 t.states t.next table.nexts table.few_states,
      )
      refl

  abbrev beside : Beside (counts_in t) t.fair t.label t.next
  beside = record { fairs = refl; table = table }

  module _ {rule : File} {f : Formula} (says : SaysRule rule t.props f) where
    -- the rule that was written is read
    pub text_read_lem : rule_read (counts_in t) t.fair t.label t.next says.text ≡ accepted (rule_of f)
    text_read_lem = (rules.accepted_exactly (counts_in t) t.fair t.label t.next says.text (rule_of f)).1 (record {
      formula = f;
      reads = record { beside = beside; short = says.short; says = says.said };
      below = says.below;
      small = says.small;
      few = says.few;
      is = refl;
    })

    -- and so it is with an LF behind it
    rule_read_lem : said.rule_given (counts_in t) t.fair t.label t.next rule ≡ accepted (rule_of f)
    rule_read_lem = ⊎_elim (λ e. ap given_to e ∙ ap reads_as (end_said says.said) ∙ text_read_lem) (λ e. ap given_to e ∙ ap reads_as (end_dropped says.text) ∙ text_read_lem) says.is
      where
        given_to : File → RuleRead
        given_to x = said.rule_given (counts_in t) t.fair t.label t.next x

        reads_as : List ℕ → RuleRead
        reads_as s = rule_read (counts_in t) t.fair t.label t.next s

    abbrev pub value : RuleValue (rule_of f) t.props
    value = record { formula = f; is = refl; small = says.small; few = says.few; below = says.below }

    -- and with the table it passes the checks
    pub passes : Input (counts_in t) t.fair t.label t.next (rule_of f)
    passes = given (counts_in t) t.fair t.label t.next (rule_of f) passes_check value

    -- behind the rule's check
    behind_rule : (log : File) → ruled rule log ≡ said.log_text (counts_in t) t.fair t.label t.next (rule_of f) log
    unfolding said.rule_text
    behind_rule log = rw rule_read_lem refl

    -- and behind the log's
    behind_log : (log : List ℕ) {es : List Event} → Taken (width_of t.props) log es → Shows t f es (said.log_text (counts_in t) t.fair t.label t.next (rule_of f) (bytes log))
    behind_log log {es} taken = rw taken.accepts
        (subst (λ (g : Formula). Shows t g es (said.played_text (counts_in t) t.fair t.label t.next (rule_of f) log)) (formula_is value)
        (played (counts_in t) t.fair t.label t.next (rule_of f) passes taken))

-- ---- THE CLAIMS

pub front_door_lem : FrontDoor
front_door_lem plant rule log t f es table_says table rule_says log_says = let text = bytes log_says.text in
    rw (log_says.is, table_read_lem t table table_says rule text, behind_rule t table rule_says text) (behind_log t table rule_says log_says.text (log_taken log_says))

-- what a rule's text is answered: a refusal, or a rule
pub data Answer : RuleRead → Type 0 where
  refuses : (kind : Kind) (i : ℕ) → Answer (no_rule kind i)
  gives : (r : Rule) → Answer (accepted r)

either : (b : Bool) (x y : RuleRead) → Answer x → Answer y → Answer (cond b x y)
either true x y a c = a
either false x y a c = c

by_table : (o : Outcome) (x : RuleRead) → Answer x → Answer (of_table x o)
by_table (Ok _) x a = a
by_table (Err r) x a = refuses r.kind r.place

by_scan : (c : Result (Unit {0}) ℕ) (x : RuleRead) → Answer x → Answer (of_scan x c)
by_scan (Ok _) x a = a
by_scan (Err i) x a = refuses RuleText i

by_name : (n : Option ℕ) (x : RuleRead) → Answer x → Answer (of_found x n)
by_name (Some i) x a = refuses Proposition i
by_name None x a = a

pub answer : (p : Plant) (fair label next s : List ℕ) → Answer (rule_read p fair label next s)
answer p fair label next s = by_table (table_outcome p fair label next) _ (either (ltb longest_rule (length s)) _ _ (refuses RuleLength longest_rule) (by_scan (scan s) _ (by_name (unknown_at p.props 0 s) _
    (either (ltb most_nodes r.len) _ _ (refuses Nodes 0) (either (ltb most_parts (count (held r))) _ _ (refuses Parts 0) (gives r))))))
  where
    r : Rule
    r = reader.written empty_rule (parse s)

module _ (plant : File) (t : run.Plant) (says : SaysTable plant t) (table : AcceptedTable t) where
  module _ (rule : File) (f : Formula) (rule_says : SaysRule rule t.props f) where
    behind_both : (log : File) → output_of plant rule log ≡ said.log_text (counts_in t) t.fair t.label t.next (rule_of f) log
    behind_both log = table_read_lem t table says rule log ∙ behind_rule t table rule_says log

    of_log : (log : File) → OfLog t f log (output_of plant rule log)
    of_log missing = no_log refl (behind_both missing)
    of_log (bytes text) = by (logs_laws.reading (width_of t.props) text)
      where
        by : logs.Reading (width_of t.props) text → OfLog t f (bytes text) (output_of plant rule (bytes text))
        by (logs.accepted es ok small r at) =
            let log_says : SaysLog (bytes text) t.props es = record { text = text; is = refl; said = small; writable = ok } in
            lamps es log_says (front_door_lem plant rule (bytes text) t f es says table rule_says log_says)
        by (logs.misformed i p r) = log_refused text i refl (stops (logs_laws.form_exactly (width_of t.props)) p) (behind_both (bytes text) ∙ rw (ap (λ (x : LogRead). x.outcome) r) refl)

  of_rule : (rule log : File) → OfRule t rule log (output_of plant rule log)
  unfolding said.rule_text
  of_rule missing log = no_rule_lem refl (table_read_lem t table says missing log)
  of_rule (bytes text) log = by (rule_read (counts_in t) t.fair t.label t.next (stripped text)) refl (answer (counts_in t) t.fair t.label t.next (stripped text))
    where
      by : (x : RuleRead) → rule_read (counts_in t) t.fair t.label t.next (stripped text) ≡ x → Answer x → OfRule t (bytes text) log (output_of plant (bytes text) log)
      by x e (refuses kind i) =
          rule_refused text kind i refl ((rules.refused_exactly (counts_in t) t.fair t.label t.next (stripped text) kind i).0 e)
          (table_read_lem t table says (bytes text) log ∙ rw e refl)
      by x e (gives r) =
          let takes = (rules.accepted_exactly (counts_in t) t.fair t.label t.next (stripped text) r).0 e in
          let rule_says : SaysRule (bytes text) t.props takes.formula = record {
            text = stripped text;
            is = ⊎_elim (λ (e : text ≡ stripped text). inl (ap bytes e)) (λ (e : text ≡ stripped text ++ lf). inr (ap bytes e)) (end_or text);
            said = takes.reads.says;
            short = takes.reads.short;
            below = takes.below;
            small = takes.small;
            few = takes.few;
          } in
          rule_said takes.formula rule_says (of_log (bytes text) takes.formula rule_says log)

pub every_output : EveryOutput
unfolding output_of
every_output missing rule log = no_plant refl refl
every_output (bytes text) rule log = by (plants.reading text)
  where
    table_says : (t : run.Plant) → small_of (table_slots t) text ≡ table_text t → SaysTable (bytes text) t
    table_says t small = record { text = text; is = refl; said = small }

    by : plants.Reading text → Output (bytes text) rule log (output_of (bytes text) rule log)
    by (plants.accepted t table small r) = let says = table_says t small in table_said t says table (of_rule (bytes text) t says table rule log)
    by (plants.beyond t formed b small r) = bit_beyond t (table_says t small) formed b (rw r refl)
    by (plants.misformed i p r) = table_refused text i refl (stops plants.form_exactly p) (rw r refl)
