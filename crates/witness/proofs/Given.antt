-- What the checks give the code behind them, and what the answers are.
use Rattle.std.specs.Prelude.{Result, Ok, Err}
use Prim.Native.Nat.{ℕ, ◌≤◌, ◌<◌}
use mathlib.Core.Path.{◌≡◌, refl, sym, ap, subst, ◌∙◌}
use mathlib.Core.Bool.{Bool, true, false, So, not}
use mathlib.Core.List.{List}
use lib.Dec.{ltb}
use lib.ListN.{length}
use borrow.Author.Tests.{lt-ltb, le-ltb, ltb-false, not-true}
use Rattle.meaning.specs.Formula.{Formula}
use Rattle.meaning.specs.Run as run
use Rattle.graphs.specs.Fair.{Fair}
use Rattle.pairs.specs.Sets.{empty_of}
use Rattle.model.specs.Monitor as model
use Rattle.model.specs.Sets.{nodes_of}
use Rattle.model.specs.LiveSet.{meet_of, live_set}
use Rattle.model.proofs.Lives.{live_set_lem}
use Rattle.model.specs.Witness.{has_live}
use Rattle.sweeps.specs.Rounds.{lasting_of}
use Rattle.answers.specs.declared.Kind.TheVariants.{Value, Room, NoPair}
use Rattle.answers.specs.declared.Lamp.{Lamp}
use Rattle.answers.specs.declared.Refusal.{Refusal}
use Rattle.answers.specs.Results.{Answer}
use Rattle.answers.specs.Results.{Outcome}
use Rattle.answers.specs.Paper.{refused_at}
use Rattle.answers.specs.Chain.{unless, first_refuses, first_passes, test_passes, test_fails, chain_accepts, unless_accepts}
use Rattle.plant.specs.declared.Plant.{Plant}
use Rattle.plant.specs.Table.{plant_of}
use Rattle.syntax.specs.declared.Rule.{Rule}
use Rattle.syntax.specs.Value.{formula_of}
use Rattle.truth.specs.Tables.{tables_of}
use Rattle.ways.specs.declared.Ways.{Ways}
use Rattle.ways.specs.Ways.{ways_of}
use Rattle.checks.specs.Checks.{input_outcome}
use Rattle.checks.specs.Input.{Input}
use Rattle.checks.proofs.Given.{right}
use Rattle.live.specs.LiveRight.{live_is}
use Rattle.live.proofs.Given.{live_set_is}
use Rattle.sides.specs.declared.Monitor.{Monitor}
use Rattle.sides.specs.Held.{model_of}
use Rattle.monitor.specs.Calls.{lit, checked_of, monitor_fits, look_call}
use Rattle.walk.specs.declared.Lengths.{Lengths}
use Rattle.walk.specs.Legs.{Walked}
use Rattle.witness.specs.Run.{moves_in, debts_in}
use Rattle.witness.specs.WalkRight.{run_is_fair, run_begins, run_shows}
use Rattle.witness.specs.Calls.{AnsweredAs, Sought, table, formula, asked_of, witness_outcome, Answered}

-- what a look tells of its checks
abbrev told : Answer → Outcome
told (Ok l) = Ok tt
told (Err r) = Err r

told_lit : (o : Outcome) (m : model.Monitor) → told (lit o m) ≡ o
told_lit (Ok _) m = refl
told_lit (Err r) m = refl

module _ (p : Plant) (fair label next : List ℕ) (rule : Rule) (m : Monitor) where
  -- 1, 2 and 9
  abbrev fine : Bool
  fine = monitor_fits p fair label next rule m

  abbrev looked : Outcome
  looked = checked_of p fair label next rule fine

  -- ---- the checks 1, 2, 9 and 11

  module _ {a : Answer} (e : a ≡ look_call p fair label next rule m) (room : ℕ) where
    look_told : looked ≡ told a
    unfolding look_call
    look_told = sym (ap told e ∙ told_lit looked (model_of m))

    pub not_looked : {r : Refusal} → a ≡ Err r → Err r ≡ asked_of p fair label next rule m room
    unfolding asked_of
    not_looked f = first_refuses (unless (not (ltb room 49152)) Room) refl (look_told ∙ ap told f)

    module _ {l : Lamp} (f : a ≡ Ok l) where
      pub no_room : {r : Refusal} → room < 49152 → r ≡ refused_at Room 0 → Err r ≡ asked_of p fair label next rule m room
      unfolding asked_of
      no_room less place = test_fails Room (ap not (lt-ltb room 49152 less)) refl place ∙ first_passes (unless (not (ltb room 49152)) Room) refl (look_told ∙ ap told f)

      pub room_enough : 49152 ≤ room → (Ok tt) ≡ asked_of p fair label next rule m room
      unfolding asked_of
      room_enough more = test_passes Room (ap not (le-ltb room 49152 more)) refl ∙ first_passes (unless (not (ltb room 49152)) Room) refl (look_told ∙ ap told f)

  -- ---- behind them

  module _ (full : length rule.nodes ≡ 32) (keeps : Bool) (before : List ℕ) {o : Outcome} (e : o ≡ asked_of p fair label next rule m (length before)) where
    abbrev asks : List ℕ
    asks = model.side (model_of m) keeps

    abbrev last : Outcome
    last = unless (has_live (table p fair label next rule m) (formula p fair label next rule m) asks) NoPair

    abbrev As : List ℕ → Result Lengths Refusal → Outcome → Type 0
    As now r o = AnsweredAs (table p fair label next rule m) (formula p fair label next rule m) asks o before now r

    pub not_asked : {r : Refusal} → o ≡ Err r → Answered p fair label next rule m keeps before before (Err r)
    unfolding witness_outcome
    not_asked {r} g = subst (As before (Err r)) (first_refuses last e g) (refl, refl)

    module _ (g : o ≡ Ok tt) where
      passed : (looked ≡ Ok tt) × (unless (not (ltb (length before) 49152)) Room ≡ Ok tt)
      unfolding asked_of
      passed = (chain_accepts looked (unless (not (ltb (length before) 49152)) Room)).0 (sym e ∙ g)

      -- what the run asks for
      pub in_order : (input_outcome p fair label next rule ≡ Ok tt) × (49152 ≤ length before)
      in_order = (
        ((chain_accepts (input_outcome p fair label next rule) (unless fine Value)).0 passed.0).0,
        ltb-false (length before) 49152 (not-true _ ((unless_accepts (not (ltb (length before) 49152)) Room).0 passed.1)),
      )

      pub answered : {asked : List ℕ} (now : List ℕ) (r : Result Lengths Refusal) → asked ≡ asks → Sought (table p fair label next rule m) (formula p fair label next rule m) asked before now r
          → Answered p fair label next rule m keeps before now r
      unfolding witness_outcome
      answered now r s h = subst (As now r) (first_passes last e g) (rw s at h)

-- ---- the run, of an accepted table and rule

module _ {p : Plant} {fair label next : List ℕ} {rule : Rule} (i : Input p fair label next rule) where
  abbrev T : run.Plant
  T = plant_of p fair label next

  abbrev f : Formula
  f = formula_of rule

  -- the live pairs by what the code worked out
  pub found_live : {w : Ways} {live : List ℕ} → w ≡ ways_of label rule
      → live ≡ lasting_of fair next w.leave w.enter w.settled w.parts p.states → live ≡ live_set T f
  found_live e er = live_is p.states fair label next rule e er ∙ live_set_is p fair label next rule i

  module _ {live : List ℕ} (is : live ≡ live_set T f) where
    pub long : length live ≡ 64
    long = ap length is ∙ (live_set_lem T f i.table i.few).long

    pub goes_on : Fair (moves_in (ways_of label rule) next) (debts_in (ways_of label rule) fair) (nodes_of live)
    unfolding ways_of
    goes_on = rw is (run_is_fair T f i.table i.few (tables_of label rule) (right i))

    module _ (asked before : List ℕ) {both : List ℕ} (b : both ≡ meet_of asked live) {none : Bool} (k : none ≡ empty_of both) where
      has_some : has_live T f asked ≡ not none
      unfolding has_live
      has_some = sym (ap not (k ∙ ap empty_of (b ∙ ap (meet_of asked) is)))

      pub none_live : none ≡ true → {r : Refusal} → r ≡ refused_at NoPair 0 → Sought T f asked before before (Err r)
      none_live n {r} place =
          subst (λ (o : Outcome). AnsweredAs T f asked o before before (Err r)) (test_fails NoPair (has_some ∙ ap not n) refl place) (refl, refl)

      module _ (n : none ≡ false) where
        pub begins : (y : ℕ) × (So (nodes_of asked y) × So (nodes_of live y))
        begins = rw is (run_begins T f i.table i.few (tables_of label rule) (right i) asked (has_some ∙ ap not n))

        pub goes : {l : Lengths} {now : List ℕ}
            → Walked (moves_in (ways_of label rule) next) (debts_in (ways_of label rule) fair) (nodes_of live) (nodes_of asked) before now l.stem l.turn
            → Sought T f asked before now (Ok l)
        unfolding ways_of
        goes {l} {now} w = subst (λ (o : Outcome). AnsweredAs T f asked o before now (Ok l)) (test_passes NoPair (has_some ∙ ap not n) refl)
            (l, refl, run_shows T f i.table i.few (tables_of label rule) (right i) (rw is at w))
