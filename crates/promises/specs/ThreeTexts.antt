-- The calls one after the other, from the bytes of a table, a rule and a log to the lamp behind the last event; and that for texts which are accepted it is the model's lamp for what
-- they say. What the program writes of three files is said in FrontDoor; here stands what a caller is shown.
use Rattle.std.specs.Prelude.{ℕ, ◌+◌, ◌≡◌, refl, Bool, true, false, ◌&&◌, List, [], ◌∷◌, take, Ok, Err}
use Rattle.std.proofs.Common.{ap, ◌∙◌}
use Rattle.std.proofs.Math.Bool.{So}
use Rattle.std.proofs.lemmas.Bool.{false≢true}
use Rattle.words.specs.Below.{list_below}
use Rattle.words.specs.Truth.{and_says}
use Rattle.meaning.specs.Formula.{Formula}
use Rattle.meaning.specs.Run as run
use Rattle.meaning.specs.Event as meaning
use Rattle.text.specs.Number.{width_of}
use Rattle.model.specs.Monitor as model
use Rattle.model.specs.Log as model-log
use Rattle.answers.specs.Results.{Outcome}
use Rattle.answers.specs.Paper.{Paper, verdict, refusal, paper}
use Rattle.answers.specs.Chain.{is_accepted}
use Rattle.plant.specs.declared.Plant.{Plant}
use Rattle.plant.specs.declared.Table.{Table}
use Rattle.plant.specs.Table.{plant_of}
use Rattle.plant.specs.Read.{table_read}
use Rattle.plant.specs.Promises.{lent_passes}
use Rattle.syntax.specs.declared.Rule.{Rule}
use Rattle.rule_text.specs.declared.RuleRead.{RuleRead}
use Rattle.rule_text.specs.Reading.{rule_read}
use Rattle.rule.proofs.Promises.{accepted_exactly}
use Rattle.event_log.specs.declared.Event.{Event}
use Rattle.event_log.specs.declared.LogRead.{LogRead}
use Rattle.event_log.specs.Read.{log_read, event_at}
use Rattle.syntax.specs.Value.{formula_of}
use Rattle.checks.specs.Input.{Input, given}
use Rattle.event_numbers.specs.Numbers.{number_of, event_outcome}
use Rattle.monitor.specs.declared.Watched.{Watched}
use Rattle.monitor.specs.Promises.{lamp_paper}
use Rattle.watching.specs.Filled.{filled}
use Rattle.watching.specs.Watching.{after, TakenFrom, event_says}
use Rattle.watching.proofs.Watching.{after_model}

-- ---- the calls

-- a refusal, or what comes behind it
abbrev pub behind : Outcome → Paper → Paper
behind (Ok _) p = p
behind (Err r) p = refusal r

module _ (table rule log : List ℕ) where
  -- the table is read, and of its parts as many are lent as it counts
  abbrev t : Table
  t = (table_read table).table

  abbrev fair : List ℕ
  fair = take t.plant.just t.fair

  abbrev label : List ℕ
  label = take t.plant.states t.label

  abbrev next : List ℕ
  next = take t.plant.states t.next

  -- beside it the rule and the log are, and each line's event
  abbrev ruled : RuleRead
  ruled = rule_read t.plant fair label next rule

  abbrev logged : LogRead
  logged = log_read (width_of t.plant.props) log

  abbrev events : List Event
  events = list_below logged.lines (event_at (width_of t.plant.props) log)

  -- WHAT IS SHOWN: the first refusal of a text; or, with the live pairs prepared, the monitor opened and each event stepped, the last answer
  abbrev pub shown_for : Paper
  shown_for = behind (table_read table).outcome (behind ruled.outcome (behind logged.outcome (paper (after t.plant fair label next ruled.rule events).answer)))

-- ---- what the texts say

-- each event is accepted: it is legal, and its number in turn
abbrev takes_all : ℕ → Bool → ℕ → List Event → Bool
takes_all props seen expected [] = true
takes_all props seen expected (e ∷ es) = is_accepted (event_outcome e props seen expected) && takes_all props true (number_of e.num expected + 1) es

-- a table, a rule and events, as `meaning` has them, the unseen ones put in; and whether all three texts are accepted and so is each event
pub record Said : Type 0 where
  pub fine : Bool
  pub on : run.Plant
  pub rule : Formula
  pub log : List meaning.Event

module _ (table rule log : List ℕ) where
  abbrev taken : Bool
  taken = takes_all (t table rule log).plant.props false 0 (events table rule log)

  abbrev pub said_by : Said
  said_by = record {
    fine = (is_accepted (table_read table).outcome && is_accepted (ruled table rule log).outcome) && (is_accepted (logged table rule log).outcome && taken);
    on = plant_of (t table rule log).plant (fair table rule log) (label table rule log) (next table rule log);
    rule = formula_of (ruled table rule log).rule;
    log = filled (events table rule log);
  }

-- the lamp of the model
abbrev pub model_shown : Said → Paper
model_shown x = let m = model-log.watched x.on x.rule x.log in verdict (model.verdict m) (model.left m)

-- ---- the law

accepted_is : (o : Outcome) → So (is_accepted o) → o ≡ Ok tt
accepted_is (Ok _) so = refl
accepted_is (Err r) so = absurd (false≢true so)

all_taken : (p : Plant) (fair label next : List ℕ) (rule : Rule) → Input p fair label next rule → (seen : Bool) (expected : ℕ) (es : List Event) → So (takes_all p.props seen expected es)
    → TakenFrom p fair label next rule seen expected es
all_taken p fair label next rule input seen expected [] so = tt
all_taken p fair label next rule input seen expected (e ∷ es) so =
    let (first, others) = (and_says (is_accepted (event_outcome e p.props seen expected)) (takes_all p.props true (number_of e.num expected + 1) es)).0 so in
    ((event_says p fair label next rule input e seen expected).0 (accepted_is _ first), all_taken p fair label next rule input true (number_of e.num expected + 1) es others)

module _ (table rule log : List ℕ) (fine : So (said_by table rule log).fine) where
  abbrev p : Plant
  p = (t table rule log).plant

  abbrev fs : List ℕ
  fs = fair table rule log

  abbrev ls : List ℕ
  ls = label table rule log

  abbrev ns : List ℕ
  ns = next table rule log

  abbrev r : Rule
  r = (ruled table rule log).rule

  abbrev es : List Event
  es = events table rule log

  -- one by one
  tests :
      So (is_accepted (table_read table).outcome && is_accepted (ruled table rule log).outcome) × So (is_accepted (logged table rule log).outcome && taken table rule log)
  tests = (and_says (is_accepted (table_read table).outcome && is_accepted (ruled table rule log).outcome) (is_accepted (logged table rule log).outcome && taken table rule log)).0 fine

  first_two : So (is_accepted (table_read table).outcome) × So (is_accepted (ruled table rule log).outcome)
  first_two = (and_says (is_accepted (table_read table).outcome) (is_accepted (ruled table rule log).outcome)).0 tests.0

  last_two : So (is_accepted (logged table rule log).outcome) × So (taken table rule log)
  last_two = (and_says (is_accepted (logged table rule log).outcome) (taken table rule log)).0 tests.1

  table_ok : (table_read table).outcome ≡ Ok tt
  table_ok = accepted_is (table_read table).outcome first_two.0

  rule_ok : (ruled table rule log).outcome ≡ Ok tt
  rule_ok = accepted_is (ruled table rule log).outcome first_two.1

  log_ok : (logged table rule log).outcome ≡ Ok tt
  log_ok = accepted_is (logged table rule log).outcome last_two.0

  input : Input p fs ls ns r
  input =
      let takes = (accepted_exactly p fs ls ns rule r).0 (λ i. record { outcome = rule_ok i; rule = r }) in
      given p fs ls ns r (lent_passes table table_ok) (record { formula = takes.formula; is = takes.is; small = takes.small; few = takes.few; below = takes.below })

  pub texts_shown : shown_for table rule log ≡ model_shown (said_by table rule log)
  texts_shown =
      rw (table_ok, rule_ok, log_ok)
      (ap (λ (w : Watched). paper w.answer) (after_model p fs ls ns r input es (all_taken p fs ls ns r input false 0 es last_two.1))
      ∙ lamp_paper (model-log.watched (said_by table rule log).on (said_by table rule log).rule (said_by table rule log).log))
