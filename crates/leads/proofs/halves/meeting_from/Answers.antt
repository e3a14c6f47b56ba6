-- `halves::meeting_from`: the fold is what the parts share.
use Rattle.std.proofs.Common.{rules, arith, refl, ◌∙◌, ◌+◌, ◌-◌, ◌^◌, cond, bit_and}
use Rattle.std.proofs.lemmas.Iterator.{YieldsList-from_range}
use Rattle.std.proofs.lemmas.Iterator.Consumers.{fold_from_yields_List}
use Rattle.meaning.specs.Bit.{bit}
use Rattle.moves.specs.Fit.{agreeing, entry}
use Rattle.leads.specs.Halves.{meeting_from}
use Rattle.leads.proofs.Folded.{shared_by_fold}
use Rattle.leads.proofs.halves.meeting_from.Goals as goal

pub returns : goal.returns
unfolding meeting_from
returns c =
    let a = c.args in
    fold_from_yields_List _ (λ s k. bit_and s (cond (bit a.nexts k) (agreeing (bit a.v k) (entry a.operand.now a.w k)) (2 ^ 64 - 1))) (2 ^ 64 - 1) _ c.fold.ensures.ran
    (YieldsList-from_range a.first (a.first + a.many) a.many refl (omega arith)) (λ f x r q k. search rules)
    ∙ shared_by_fold (2 ^ 64 - 1) a.first a.many (λ k. cond (bit a.nexts k) (agreeing (bit a.v k) (entry a.operand.now a.w k)) (2 ^ 64 - 1))
