-- What is promised of `prepare`: it accepts exactly what the shared checks accept, and then finds exactly the live pairs.
use mathlib.Core.Logic.Iff
use Rattle.std.specs.Prelude.{ℕ, ◌≡◌, ◌↔◌, length, replicate, Ok, Err}
use Rattle.std.proofs.Math.Path.{refl}
use Rattle.std.proofs.Common.{sym, ◌∙◌}
use mathlib.Core.List.{List}
use Rattle.meaning.specs.Says.{Says}
use Rattle.meaning.specs.Pair.{Live}
use Rattle.pairs.specs.Sets.{inside}
use Rattle.model.specs.LiveSet.{live_set}
use Rattle.model.proofs.Lives.{live_says}
use Rattle.answers.specs.declared.Refusal.{Refusal}
use Rattle.answers.specs.Results.{Outcome}
use Rattle.plant.specs.declared.Plant.{Plant}
use Rattle.plant.specs.Table.{plant_of}
use Rattle.syntax.specs.declared.Rule.{Rule}
use Rattle.syntax.specs.Value.{formula_of}
use Rattle.checks.specs.Checks.{input_outcome}
use Rattle.checks.specs.Input.{Input, input_accepted}
use Rattle.live.specs.Prepare.{prepared_as, prepared_of}

module _ (p : Plant) (fair label next : List ℕ) (rule : Rule) where
  -- its outcome is that of the checks
  pub prepare_outcome : (prepared_of p fair label next rule).outcome ≡ input_outcome p fair label next rule
  unfolding prepared_of
  prepare_outcome = go (input_outcome p fair label next rule) (live_set (plant_of p fair label next) (formula_of rule))
    where
      go : (o : Outcome) (words : List ℕ) → (prepared_as o words).outcome ≡ o
      go (Ok _) words = refl
      go (Err r) words = refl

  -- a refusal comes with the empty set
  pub prepare_refused : (r : Refusal) → input_outcome p fair label next rule ≡ Err r → (prepared_of p fair label next rule).live.words ≡ replicate 64 0
  unfolding prepared_of
  prepare_refused r e = rw e

  -- the array of a rule has 32 nodes
  module _ (full : length rule.nodes ≡ 32) where
    pub prepare_accepted : ((prepared_of p fair label next rule).outcome ≡ Ok tt) ↔ Input p fair label next rule
    prepare_accepted = Iff.trans (λ e. sym prepare_outcome ∙ e, λ e. prepare_outcome ∙ e) (input_accepted p fair label next rule full)

    -- and then it holds the live pairs, and no others
    pub prepare_live : Input p fair label next rule → (s v : ℕ)
        → Says (inside (prepared_of p fair label next rule).live.words s v) (Live (plant_of p fair label next) (formula_of rule) s v)
    unfolding prepared_of
    prepare_live i s v = rw ((input_accepted p fair label next rule full).1 i) (live_says (plant_of p fair label next) (formula_of rule) i.table i.few s v)
