-- What the checks give the code behind them, and what the answers are.
use Rattle.std.specs.Prelude.{Ok, Err}
use Prim.Native.Nat.{ℕ, ◌≤◌}
use mathlib.Core.Path.{◌≡◌, sym, ap, ◌∙◌}
use mathlib.Core.List.{List}
use lib.ListN.{length, replicate}
use Rattle.meaning.specs.Formula.{Formula}
use Rattle.meaning.specs.Run as run
use Rattle.pairs.specs.declared.Pairs.{Pairs}
use Rattle.model.specs.LiveSet.{live_set}
use Rattle.answers.specs.declared.Refusal.{Refusal}
use Rattle.answers.specs.Results.{Outcome}
use Rattle.plant.specs.declared.Plant.{Plant}
use Rattle.plant.specs.Table.{plant_of}
use Rattle.syntax.specs.declared.Rule.{Rule}
use Rattle.syntax.specs.Value.{formula_of}
use Rattle.truth.specs.Ready.{Ready}
use Rattle.truth.specs.Tables.{tables_of}
use Rattle.ways.specs.Ways.{ways_of}
use Rattle.checks.specs.Checks.{input_outcome}
use Rattle.checks.specs.Input.{Input}
use Rattle.checks.proofs.Given.{accepted, right, ready}
use Rattle.live.specs.declared.Prepared.{Prepared}
use Rattle.live.specs.Prepare.{prepared_as, prepared_of, live_of}
use Rattle.live.specs.LiveRight.{live_by_lem}

-- an answer of its outcome and its words
abbrev answer : Outcome → List ℕ → Prepared
answer o words = record { outcome = o; live = record { words = words } }

module _ (p : Plant) (fair label next : List ℕ) (rule : Rule) where
  abbrev table : run.Plant
  table = plant_of p fair label next

  abbrev formula : Formula
  formula = formula_of rule

  -- ---- an accepted table and rule

  module _ (i : Input p fair label next rule) where
    -- what the live pairs are worked out from is in order
    pub in_order : Ready label rule × ((1 ≤ p.states) × (p.states ≤ 64)) × (length fair ≤ 4)
    in_order = (ready i, (i.table.some_states, i.table.few_states), i.table.few_fair)

    -- and these are those of the model
    pub live_set_is : live_of p.states fair label next rule ≡ live_set table formula
    unfolding live_of ways_of
    live_set_is = live_by_lem table formula i.table i.few (tables_of label rule) (right i)

  -- ---- the answers

  pub refused : {o : Outcome} {r : Refusal} {none : Pairs} → o ≡ input_outcome p fair label next rule → o ≡ Err r → none.words ≡ replicate 64 0
      → answer (Err r) none.words ≡ prepared_of p fair label next rule
  unfolding prepared_of
  refused {r} e f empty = ap (answer (Err r)) empty ∙ ap (λ (o : Outcome). prepared_as o (live_set table formula)) (sym f ∙ e)

  module _ (full : length rule.nodes ≡ 32) {o : Outcome} (e : o ≡ input_outcome p fair label next rule) (f : o ≡ Ok tt) where
    pub prepared : {live : Pairs} → live.words ≡ live_of p.states fair label next rule → answer (Ok tt) live.words ≡ prepared_of p fair label next rule
    unfolding prepared_of
    prepared is = ap (answer (Ok tt)) (is ∙ live_set_is (accepted p fair label next rule full e f)) ∙ ap (λ (o : Outcome). prepared_as o (live_set table formula)) (sym f ∙ e)
