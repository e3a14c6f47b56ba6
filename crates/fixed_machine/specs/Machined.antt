-- WHAT `make_machine` ANSWERS, WRITES AND LEAVES (02, g): the checks in their order, and behind them the fixed machine of the monitor. What must be believed is
-- here: `step_at`, `shown_in`, `Machined`; with columns/specs/Columns (columns), machines/specs/Machine and Made (machines) and Bytes (their bytes).
use Rattle.std.specs.Prelude.{ℕ, ◌≤◌, ◌<◌, ◌≡◌, Bool, true, false, List, leb, length, get_or, replicate, Result, Ok, Err}
use Rattle.std.proofs.Math.Path.{refl, ap}
use Rattle.std.proofs.Common.{sym, subst, ◌∙◌}
use borrow.Author.Tests.{lt-leb, le-leb}
use Rattle.meaning.specs.Formula.{Formula}
use Rattle.meaning.specs.Run as run
use Rattle.model.specs.Sets.{PairSet}
use Rattle.model.specs.LiveSet.{live_set}
use Rattle.model.proofs.Lives.{live_set_lem}
use Rattle.model.proofs.Rule.{opening_sets, step_sets}
use Rattle.model.specs.Monitor as model
use Rattle.answers.specs.declared.Kind.TheVariants.{Counts, Room}
use Rattle.answers.specs.Results.{Outcome}
use Rattle.answers.specs.declared.Refusal.{Refusal}
use Rattle.answers.specs.Paper.{refused_at}
use Rattle.answers.specs.Chain.{and_then, unless}
use Rattle.plant.specs.declared.Plant.{Plant}
use Rattle.plant.specs.Table.{plant_of}
use Rattle.syntax.specs.declared.Rule.{Rule}
use Rattle.syntax.specs.Value.{formula_of}
use Rattle.event_log.specs.Log.{nothing}
use Rattle.checks.specs.Checks.{input_outcome}
use Rattle.checks.specs.Input.{Input}
use Rattle.checks.proofs.Given.{right}
use Rattle.live.specs.declared.Prepared.{Prepared}
use Rattle.live.specs.Prepare.{prepared_of}
use Rattle.live.specs.Promises.{prepare_outcome}
use Rattle.ways.specs.Ways.{ways_of}
use Rattle.sides.specs.declared.Monitor.{Monitor}
use Rattle.event_log.specs.Legal.{event_of}
use Rattle.sides.specs.Held.{model_of, monitor_of, lamp_in}
use Rattle.sides.specs.Sides.{opened_by, advanced_in}
use Rattle.sides.proofs.SidesRight.{opened_right, advanced_right}
use Rattle.columns.specs.Columns.{columns_of, event_at, count_of}
use Rattle.columns.proofs.Columns.{columns_count, columns_at}
use Rattle.machines.specs.Coded.{Coded, coded_made, coded_more, coded_back}
use Rattle.explored.specs.States.{lamp_number, block_of, monitor_in, block_after, answer_of, block_back}
use Rattle.fixed_machine.specs.declared.Size.{Size}
use Rattle.fixed_machine.specs.Worked.{Worked, over, made, WorkedOn}

-- ---- what is believed

-- a monitor after the event of column k
unfoldable pub step_at : run.Plant → Formula → List ℕ → model.Monitor → ℕ → model.Monitor
step_at T f live m k = model.step_of T f live m (event_of (get_or (columns_of T.props) k nothing))

-- what its lamp shows: the verdict's number times 256, and `left`
abbrev pub shown_in : model.Monitor → ℕ
shown_in m = lamp_number (lamp_in m)

-- 15, or the machine that is made of the monitor from the opening on, or 11
abbrev pub WorkedFor : run.Plant → Formula → List ℕ → List ℕ → Result Size Refusal → Type 0
WorkedFor T f old new r = Worked (length (columns_of T.props)) (step_at T f (live_set T f)) shown_in (model.opening T f (live_set T f)) old new r

-- a refusal before the work leaves everything as it was; behind it the words end 0, whatever the answer
abbrev pub MachinedAs : run.Plant → Formula → Outcome → List ℕ → List ℕ → List ℕ → List ℕ → Result Size Refusal → Type 0
MachinedAs T f (Err x) work left old new r = (r ≡ Err x) × (left ≡ work) × (new ≡ old)
MachinedAs T f (Ok _) work left old new r = (left ≡ replicate (length work) 0) × WorkedFor T f old new r

module _ (p : Plant) (fair label next : List ℕ) (rule : Rule) where
  -- 1, also for more than three propositions, 2, 9, and 11 for fewer words than 49,152
  unfoldable pub machine_outcome : ℕ → Outcome
  machine_outcome words = and_then (unless (leb p.props 3) Counts) (and_then (input_outcome p fair label next rule) (unless (leb 49152 words) Room))

  abbrev pub Machined : List ℕ → List ℕ → List ℕ → List ℕ → Result Size Refusal → Type 0
  Machined work left old new r = MachinedAs (plant_of p fair label next) (formula_of rule) (machine_outcome (length work)) work left old new r

  -- ---- the outcomes

  pub outcome_many : (words : ℕ) → 3 < p.props → machine_outcome words ≡ Err (refused_at Counts 0)
  unfolding machine_outcome
  outcome_many words l = rw (lt-leb p.props 3 l) refl

  pub outcome_input : (words : ℕ) {x : Refusal} → p.props ≤ 3 → input_outcome p fair label next rule ≡ Err x → machine_outcome words ≡ Err x
  unfolding machine_outcome
  outcome_input words l e = rw (le-leb p.props 3 l, e) refl

  pub outcome_room : (words : ℕ) → p.props ≤ 3 → input_outcome p fair label next rule ≡ Ok tt → words < 49152 → machine_outcome words ≡ Err (refused_at Room 0)
  unfolding machine_outcome
  outcome_room words l e h = rw (le-leb p.props 3 l, e, lt-leb 49152 words h) refl

  pub outcome_good : (words : ℕ) → p.props ≤ 3 → input_outcome p fair label next rule ≡ Ok tt → 49152 ≤ words → machine_outcome words ≡ Ok tt
  unfolding machine_outcome
  outcome_good words l e h = rw (le-leb p.props 3 l, e, le-leb 49152 words h) refl

  -- by what `prepare` answers
  pub outcome_prepared : {r : Prepared} {o : Outcome} → r ≡ prepared_of p fair label next rule → r.outcome ≡ o → input_outcome p fair label next rule ≡ o
  outcome_prepared e h = sym (prepare_outcome p fair label next rule) ∙ sym (ap (λ (x : Prepared). x.outcome) e) ∙ h

  -- a refusal, and what is made
  pub machined_refused : (work old : List ℕ) {x r : Refusal} → machine_outcome (length work) ≡ Err x → r ≡ x → Machined work work old old (Err r)
  machined_refused work old {x} {r} e same =
      subst (λ (o : Outcome). MachinedAs (plant_of p fair label next) (formula_of rule) o work work old old (Err r)) (sym e) (ap Err same, refl, refl)

-- ---- the same in words, as the code has it

module _ (p : Plant) (fair label next : List ℕ) (rule : Rule) (given : Input p fair label next rule) (few : p.props ≤ 3) where
  abbrev T : run.Plant
  T = plant_of p fair label next

  abbrev f : Formula
  f = formula_of rule

  -- the sets of a monitor are of the table and the rule
  abbrev Sets : model.Monitor → Type 0
  Sets m = (b : Bool) → PairSet T f (model.side m b)

  abbrev lives : PairSet T f (live_set T f)
  lives = live_set_lem T f given.table given.few

  abbrev code : model.Monitor → List ℕ
  code m = block_of (monitor_of 0 m)

  read_back : (m : model.Monitor) → Sets m → monitor_in (code m) ≡ monitor_of 0 m
  read_back m sets = block_back (monitor_of 0 m) refl (sets true).long (sets false).long

  steps_in : (m : model.Monitor) (k : ℕ) → k < count_of p.props → Sets m → block_after label next (ways_of label rule) (live_set T f) (code m) k ≡ code (step_at T f (live_set T f) m k)
  unfolding block_after step_at
  steps_in m k l sets =
      ap (λ (x : Monitor). block_of (advanced_in label next (ways_of label rule) (live_set T f) x (event_at k))) (read_back m sets)
      ∙ ap block_of (advanced_right T f given.table given.few rule (right given) (live_set T f) lives (monitor_of 0 m) sets (event_at k))
      ∙ ap (λ (e : _). code (model.step_of T f (live_set T f) m (event_of e))) (sym (columns_at p.props given.table.some_props few k l))

  coded : Coded (count_of p.props) (block_after label next (ways_of label rule) (live_set T f)) answer_of (block_of (opened_by p.start (ways_of label rule).holds (live_set T f)))
      (step_at T f (live_set T f)) shown_in (model.opening T f (live_set T f)) code Sets
  unfolding answer_of step_at
  coded = record {
    good = opening_sets T f given.table given.few (live_set T f) lives;
    opens = ap block_of (opened_right T f given.table given.few rule (right given) (live_set T f) lives);
    stays = λ m k l sets. step_sets T f given.table given.few (live_set T f) lives m sets (event_of (get_or (columns_of p.props) k nothing));
    steps = steps_in;
    answers = λ m sets. ap (λ (x : Monitor). lamp_number (lamp_in (model_of x))) (read_back m sets);
    back = λ m n a b e. ap model_of (sym (read_back m a) ∙ ap monitor_in e ∙ read_back n b);
  }

  -- what is made of the words is made of the monitor
  pub worked_for : {live old new : List ℕ} {r : Result Size Refusal} → live ≡ live_set T f → WorkedOn p.start p.props label next rule live old new r → WorkedFor T f old new r
  worked_for {live} {old} {new} {r} is w =
      subst (λ (c : ℕ). Worked c (step_at T f (live_set T f)) shown_in (model.opening T f (live_set T f)) old new r) (sym (columns_count p.props given.table.some_props few))
      (go (subst (λ (l : List ℕ). WorkedOn p.start p.props label next rule l old new r) is w))
    where
      go : WorkedOn p.start p.props label next rule (live_set T f) old new r → Worked (count_of p.props) (step_at T f (live_set T f)) shown_in (model.opening T f (live_set T f)) old new r
      go (over many e s) = over (coded_more _ _ _ _ _ _ _ _ _ coded many) e s
      go (made m few m-made laid) = made m (λ many. few (coded_back _ _ _ _ _ _ _ _ _ coded many)) (coded_made _ _ _ _ _ _ _ _ _ coded m-made) laid

  pub machined_made : (work : List ℕ) {live left old new : List ℕ} {r : Result Size Refusal} → machine_outcome p fair label next rule (length work) ≡ Ok tt → live ≡ live_set T f
      → WorkedOn p.start p.props label next rule live old new r → left ≡ replicate (length work) 0 → Machined p fair label next rule work left old new r
  machined_made work {live} {left} {old} {new} {r} e is w zero = subst (λ (o : Outcome). MachinedAs T f o work left old new r) (sym e) (zero, worked_for is w)
