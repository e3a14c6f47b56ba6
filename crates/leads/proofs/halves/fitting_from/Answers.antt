-- `halves::fitting_from`: the fold is what the parts share.
use Rattle.std.proofs.Common.{rules, arith, refl, ◌∙◌, ◌+◌, ◌-◌, ◌^◌, bit_and}
use Rattle.std.proofs.lemmas.Iterator.{YieldsList-from_range}
use Rattle.std.proofs.lemmas.Iterator.Consumers.{fold_from_yields_List}
use Rattle.meaning.specs.Bit.{bit}
use Rattle.moves.specs.Fit.{agreeing, unfolded}
use Rattle.leads.specs.Halves.{fitting_from}
use Rattle.leads.proofs.Folded.{shared_by_fold}
use Rattle.leads.proofs.halves.fitting_from.Goals as goal

pub returns : goal.returns
unfolding fitting_from
returns c =
    let a = c.args in
    fold_from_yields_List _ (λ s k. bit_and s (agreeing (bit a.v k) (unfolded a.low.now a.high.now a.v a.w k))) (2 ^ 64 - 1) _ c.fold.ensures.ran
    (YieldsList-from_range a.first (a.first + a.many) a.many refl (omega arith)) (λ f x r q k. search rules)
    ∙ shared_by_fold (2 ^ 64 - 1) a.first a.many (λ k. agreeing (bit a.v k) (unfolded a.low.now a.high.now a.v a.w k))
