-- `images::reached_at`: the fold is the union for the valuations.
use Rattle.std.proofs.Common.{rules, refl, arith, ◌∙◌, ℕ, get_or, bit_or}
use Rattle.std.proofs.lemmas.Iterator.{YieldsList-from_range}
use Rattle.std.proofs.lemmas.Iterator.Consumers.{fold_from_yields_List}
use Rattle.moves.specs.Image.{reached_at}
use Rattle.leads.specs.Halves.{moved_of}
use Rattle.leads.proofs.Folded.{union_by_range}
use Rattle.leads.proofs.images.reached_at.Goals as goal

pub returns : goal.returns
unfolding reached_at
returns c =
    let a = c.args in
    let found : ℕ → ℕ = λ v. moved_of a.next.now a.leave.now a.enter.now (get_or a.old.now v 0) v a.w in
    fold_from_yields_List _ (λ s v. bit_or s (found v)) 0 _ c.fold.ensures.ran
    (YieldsList-from_range 0 a.count a.count refl (omega arith)) (λ f x r q k. search rules)
    ∙ union_by_range found a.count
