-- The propositions of a rule, as a fold over its nodes.
use Rattle.std.proofs.Common.{◌≡◌, refl, ℕ, zero, suc, ◌≤◌, List, length, take, fold, bit_or, arith, add-one}
use Rattle.std.proofs.lemmas.List.Sums.{fold_more}
use Rattle.syntax.specs.declared.Node.{Node}
use Rattle.syntax.specs.declared.Rule.{Rule}
use Rattle.syntax.specs.Value.{blank}
use Rattle.words.specs.Below.{union_below}
use Rattle.within.specs.Props.{prop_set, props_below, props_of}

taken : (nodes : List Node) (n : ℕ) → n ≤ length nodes → fold (λ (x : ℕ) (o : Node). bit_or x (prop_set o.op)) 0 (take n nodes) ≡ props_below nodes n
unfolding union_below
taken nodes zero h = refl
taken nodes (suc n) h = rw (← add-one, fold_more (λ (x : ℕ) (o : Node). bit_or x (prop_set o.op)) 0 nodes n blank (omega arith), taken nodes n (omega arith)) refl

pub props_by_fold : (rule : Rule) → rule.len ≤ length rule.nodes → fold (λ (x : ℕ) (o : Node). bit_or x (prop_set o.op)) 0 (take rule.len rule.nodes) ≡ props_of rule
unfolding props_of
props_by_fold rule h = taken rule.nodes rule.len h
