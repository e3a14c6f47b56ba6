-- No call has a choice: two results that its contract allows are equal, and so are the bytes that they leave in what was lent.
-- Said of the contracts themselves. `Learnt` is what the kit reads from the `ensures` of a call: a claim about its arguments x, its result r and the lent things at exit, here u. Who
-- weakens an `ensures` breaks a line here. In u a call's parameters stand in their order, and `now` is what a reference then refers to.
use Rattle.std.specs.Prelude.{ℕ, ◌≡◌, refl, Bool, List, length, Result, Ok, Err}
use Rattle.std.proofs.Common.{sym, subst, ◌∙◌}
use base.Logic.{emp}
use contract.Lifetimes.{Lfts}
use denote.Triple.Clauses.{AtExit}
use borrow.Fn.Claims.{AllOf}
use borrow.Fn.World.{World, Pr, ArgsD, ResD}
use borrow.Fn.Read.{Read, no_know, all_models, r_last, r_top}
use Rattle.meaning.specs.Formula.{Formula}
use Rattle.meaning.specs.Run as run
use Rattle.model.specs.Monitor as model
use Rattle.answers.specs.declared.Refusal.{Refusal}
use Rattle.answers.specs.Results.{Outcome}
use Rattle.plant.specs.Table.{plant_of}
use Rattle.syntax.specs.Value.{formula_of}
use Rattle.sides.specs.Held.{model_of}
use Rattle.monitor.specs.declared.Watched.{Watched}
use Rattle.monitor.specs.Calls.{step_call}
use Rattle.walk.specs.declared.Lengths.{Lengths}
use Rattle.walk.specs.Shows.{Shows}
use Rattle.witness.specs.Calls.{AnsweredAs, witness_outcome}
use Rattle.plant.proofs.read_table.Reads as read_table
use Rattle.plant.proofs.check_table.Reads as check_table
use Rattle.plant_writer.proofs.write_table.Reads as write_table
use Rattle.rule.proofs.read_rule.Reads as read_rule
use Rattle.rule.proofs.print_rule.Reads as print_rule
use Rattle.rule_value.proofs.is_valid.Reads as is_valid
use Rattle.event_log.proofs.read_log.Reads as read_Log
use Rattle.event_log.proofs.event_at.Reads as event_at
use Rattle.event_log.proofs.line_bytes.Reads as line_bytes
use Rattle.event_log.proofs.is_legal.Reads as is_legal_lem
use Rattle.live.proofs.prepare.Reads as prepare
use Rattle.monitor.proofs.open.Reads as opening
use Rattle.monitor.proofs.look.Reads as look
use Rattle.monitor.proofs.step.Reads as step
use Rattle.in_place.specs.contracts.step_in_place as in_place
use Rattle.course.proofs.follow.Reads as follow
use Rattle.opened.proofs.open_texts.Reads as open_texts
use Rattle.controller.proofs.watch_log.Reads as watch_log
use Rattle.controller.proofs.to_end.Reads as to_end
use Rattle.transcript.proofs.write_output.Reads as write_output
use Rattle.witness.specs.contracts.witness as call
use Rattle.witness.proofs.witness.Reads as witness

-- ---- texts

pub read_table_one : (κs : _) (x : _) (r r' : _) (u u' : _) → read_table.Learnt κs x r u → read_table.Learnt κs x r' u' → r ≡ r'
read_table_one κs x r r' u u' e e' = e ∙ sym e'

pub read_rule_one : (κs : _) (x : _) (r r' : _) (u u' : _) → read_rule.Learnt κs x r u → read_rule.Learnt κs x r' u' → r ≡ r'
read_rule_one κs x r r' u u' e e' = e ∙ sym e'

pub read_log_one : (κs : _) (x : _) (r r' : _) (u u' : _) → read_Log.Learnt κs x r u → read_Log.Learnt κs x r' u' → r ≡ r'
read_log_one κs x r r' u u' e e' = e ∙ sym e'

pub event_at_one : (κs : _) (x : _) (r r' : _) (u u' : _) → event_at.Learnt κs x r u → event_at.Learnt κs x r' u' → r ≡ r'
event_at_one κs x r r' u u' e e' = e ∙ sym e'

pub line_bytes_one : (κs : _) (x : _) (r r' : _) (u u' : _) → line_bytes.Learnt κs x r u → line_bytes.Learnt κs x r' u' → r ≡ r'
line_bytes_one κs x r r' u u' e e' = e ∙ sym e'

-- with the buffer that a rule is printed into
pub print_rule_one :
    (κs : _) (x : _) (r r' : _) (u u' : _) → print_rule.Learnt κs x r u → print_rule.Learnt κs x r' u' → (r ≡ r') × (u.1.0.now ≡ u'.1.0.now)
print_rule_one κs x r r' u u' e e' = (e.0 ∙ sym e'.0, e.1 ∙ sym e'.1)

-- with the buffer that a table is written into
pub write_table_one :
    (κs : _) (x : _) (r r' : _) (u u' : _) → write_table.Learnt κs x r u → write_table.Learnt κs x r' u' → (r ≡ r') × (u.1.1.1.1.0.now ≡ u'.1.1.1.1.0.now)
write_table_one κs x r r' u u' e e' = (e.0 ∙ sym e'.0, e.1 ∙ sym e'.1)

-- ---- checks

pub check_table_one : (κs : _) (x : _) (r r' : _) (u u' : _) → check_table.Learnt κs x r u → check_table.Learnt κs x r' u' → r ≡ r'
check_table_one κs x r r' u u' e e' = e ∙ sym e'

pub is_valid_one : (κs : _) (x : _) (r r' : _) (u u' : _) → is_valid.Learnt κs x r u → is_valid.Learnt κs x r' u' → r ≡ r'
is_valid_one κs x r r' u u' e e' = e ∙ sym e'

pub is_legal_one : (κs : _) (x : _) (r r' : _) (u u' : _) → is_legal_lem.Learnt κs x r u → is_legal_lem.Learnt κs x r' u' → r ≡ r'
is_legal_one κs x r r' u u' e e' = e ∙ sym e'

-- ---- the monitor

pub prepare_one : (κs : _) (x : _) (r r' : _) (u u' : _) → prepare.Learnt κs x r u → prepare.Learnt κs x r' u' → r ≡ r'
prepare_one κs x r r' u u' e e' = e ∙ sym e'

pub open_one : (κs : _) (x : _) (r r' : _) (u u' : _) → opening.Learnt κs x r u → opening.Learnt κs x r' u' → r ≡ r'
open_one κs x r r' u u' e e' = e ∙ sym e'

pub look_one : (κs : _) (x : _) (r r' : _) (u u' : _) → look.Learnt κs x r u → look.Learnt κs x r' u' → r ≡ r'
look_one κs x r r' u u' e e' = e ∙ sym e'

pub step_one : (κs : _) (x : _) (r r' : _) (u u' : _) → step.Learnt κs x r u → step.Learnt κs x r' u' → r ≡ r'
step_one κs x r r' u u' e e' = e ∙ sym e'

-- of a call that lends a struct the kit makes no reading. Its clause is read here, by the kit's own rules
module _ (κs : Lfts 4) (x : ArgsD in_place.signature κs) where
  abbrev clause : ResD in_place.signature κs → AtExit in_place.ended κs → (w : World) → Pr w
  clause r u w = (in_place.clauses w.𝓛 w.𝓜.mem w.𝓡.run κs x).ensures tt r u

  -- what the call by value answers, of the monitor as it is lent
  abbrev stepped : Watched
  stepped = step_call x.0 x.1.0.now x.1.1.0.now x.1.1.1.0.now x.1.1.1.1.0 x.1.1.1.1.1.0 x.1.1.1.1.1.1.0.now x.1.1.1.1.1.1.1.0

  abbrev reading : (r : ResD in_place.signature κs) (u : AtExit in_place.ended κs) → Read (λ w. emp w.𝓤) no_know (clause r u)
  reading r u = all_models (clause r u) (λ w. r_last ((r ≡ stepped.answer) × (u.1.1.1.1.1.1.0.now ≡ stepped.monitor))) (λ w. refl) (λ w. refl) (λ w. refl)

  abbrev pub StepLearnt : ResD in_place.signature κs → AtExit in_place.ended κs → Type 0
  StepLearnt r u = AllOf (reading r u).tells

  -- the answer, and the monitor where it is lent
  pub step_in_place_one : (r r' : _) (u u' : _) → StepLearnt r u → StepLearnt r' u' → (r ≡ r') × (u.1.1.1.1.1.1.0.now ≡ u'.1.1.1.1.1.1.0.now)
  step_in_place_one r r' u u' e e' = (e.0 ∙ sym e'.0, e.1 ∙ sym e'.1)

-- a log, with the verdicts, the numbers of states and the numbers of events that it leaves in three lent parts
pub follow_one :
    (κs : _) (x : _) (r r' : _) (u u' : _) → follow.Learnt κs x r u → follow.Learnt κs x r' u'
    → (r ≡ r') × (u.1.1.1.1.1.1.1.1.0.now ≡ u'.1.1.1.1.1.1.1.1.0.now) × (u.1.1.1.1.1.1.1.1.1.0.now ≡ u'.1.1.1.1.1.1.1.1.1.0.now)
    × (u.1.1.1.1.1.1.1.1.1.1.0.now ≡ u'.1.1.1.1.1.1.1.1.1.1.0.now)
follow_one κs x r r' u u' e e' = (e.went ∙ sym e'.went, e.verdicts_are ∙ sym e'.verdicts_are, e.lefts_are ∙ sym e'.lefts_are, e.numbers_are ∙ sym e'.numbers_are)

-- the texts of a table and a rule, opened; and a whole log with them, with the buffer of its verdicts
pub open_texts_one : (κs : _) (x : _) (r r' : _) (u u' : _) → open_texts.Learnt κs x r u → open_texts.Learnt κs x r' u' → r ≡ r'
open_texts_one κs x r r' u u' e e' = e ∙ sym e'

pub watch_log_one :
    (κs : _) (x : _) (r r' : _) (u u' : _) → watch_log.Learnt κs x r u → watch_log.Learnt κs x r' u' → (r ≡ r') × (u.1.1.1.0.now ≡ u'.1.1.1.0.now)
watch_log_one κs x r r' u u' e e' = (e.0 ∙ sym e'.0, e.1 ∙ sym e'.1)

pub to_end_one : (κs : _) (x : _) (r r' : _) (u u' : _) → to_end.Learnt κs x r u → to_end.Learnt κs x r' u' → r ≡ r'
to_end_one κs x r r' u u' e e' = e ∙ sym e'

-- the program's whole output: how many bytes it has, and the buffer
pub write_output_one :
    (κs : _) (x : _) (r r' : _) (u u' : _) → write_output.Learnt κs x r u → write_output.Learnt κs x r' u' → (r ≡ r') × (u.1.1.1.1.1.1.0.now ≡ u'.1.1.1.1.1.1.0.now)
write_output_one κs x r r' u u' e e' = (e.len ∙ sym e'.len, e.bytes ∙ sym e'.bytes)

-- ---- none of the calls asks anything of its arguments: what the kit reads from its `requires` is nothing

pub any_text : ((κs : _) (x : _) → read_table.Asked κs x) × ((κs : _) (x : _) → read_rule.Asked κs x) × ((κs : _) (x : _) → read_Log.Asked κs x) × ((κs : _) (x : _) → event_at.Asked κs x) × ((κs : _) (x : _) → line_bytes.Asked κs x) × ((κs : _) (x : _) → open_texts.Asked κs x) × ((κs : _) (x : _) → watch_log.Asked κs x) × ((κs : _) (x : _) → to_end.Asked κs x)
any_text = (λ κs x. tt, λ κs x. tt, λ κs x. tt, λ κs x. tt, λ κs x. tt, λ κs x. tt, λ κs x. tt, λ κs x. tt)

pub any_value : ((κs : _) (x : _) → check_table.Asked κs x) × ((κs : _) (x : _) → is_valid.Asked κs x) × ((κs : _) (x : _) → is_legal_lem.Asked κs x) × ((κs : _) (x : _) → print_rule.Asked κs x) × ((κs : _) (x : _) → write_table.Asked κs x)
any_value = (λ κs x. tt, λ κs x. tt, λ κs x. tt, λ κs x. tt, λ κs x. tt)

pub any_monitor : ((κs : _) (x : _) → prepare.Asked κs x) × ((κs : _) (x : _) → opening.Asked κs x) × ((κs : _) (x : _) → look.Asked κs x) × ((κs : _) (x : _) → step.Asked κs x) × ((κs : _) (x : _) → witness.Asked κs x)
any_monitor = (λ κs x. tt, λ κs x. tt, λ κs x. tt, λ κs x. tt, λ κs x. tt)

-- the step in place, whose `requires` is read here as its `ensures` is above
module _ (κs : Lfts 4) (x : ArgsD in_place.signature κs) where
  abbrev condition : (w : World) → Pr w
  condition w = (in_place.clauses w.𝓛 w.𝓜.mem w.𝓡.run κs x).requires tt

  abbrev needed : Read (λ w. emp w.𝓤) no_know condition
  needed = all_models condition (λ w. r_top) (λ w. refl) (λ w. refl) (λ w. refl)

  pub any_step_in_place : AllOf needed.owes
  any_step_in_place = tt

-- ---- THE EXCEPTION: of all witnesses that there are, any may be written

-- Whether one is, or by what the call is refused, and that a refusal leaves the buffer as it was, is determined; and so are the bytes beyond a witness, by what `Shows` says
module _ (κs : Lfts 4) (x : ArgsD call.signature κs) where
  -- what is handed in
  abbrev table : run.Plant
  table = plant_of x.0 x.1.0.now x.1.1.0.now x.1.1.1.0.now

  abbrev formula : Formula
  formula = formula_of x.1.1.1.1.0

  abbrev keeps : Bool
  keeps = x.1.1.1.1.1.1.0

  abbrev asked : List ℕ
  asked = model.side (model_of x.1.1.1.1.1.0) keeps

  abbrev before : List ℕ
  before = x.1.1.1.1.1.1.1.0.now

  -- the checks, in their order
  abbrev pub checked : Outcome
  checked = witness_outcome x.0 x.1.0.now x.1.1.0.now x.1.1.1.0.now x.1.1.1.1.0 x.1.1.1.1.1.0 keeps (length before)

  module _ (r : Result Lengths Refusal) (u : AtExit call.ended κs) (e : witness.Learnt κs x r u) where
    abbrev after : List ℕ
    after = u.1.1.1.1.1.1.1.0.now

    pub witness_refused : (refusal : Refusal) → checked ≡ Err refusal → (r ≡ Err refusal) × (after ≡ before)
    witness_refused refusal is = subst (λ (o : Outcome). AnsweredAs table formula asked o before after r) is e

    pub witness_shown : checked ≡ Ok tt → (l : Lengths) × (r ≡ Ok l) × Shows table formula asked before after l.stem l.turn
    witness_shown is = subst (λ (o : Outcome). AnsweredAs table formula asked o before after r) is e
