-- `labels::having`: the fold over the labels takes the states whose label has the proposition.
use Rattle.std.proofs.Common.{rules, ◌∙◌}
use Rattle.std.proofs.lemmas.Iterator.{YieldsList-from_slice}
use Rattle.std.proofs.lemmas.Iterator.Consumers.{fold_from_yields_List, YieldsList-from_enumerate}
use Rattle.meaning.specs.Bit.{bit}
use Rattle.labels.specs.Labels.{having_of}
use Rattle.labels.proofs.Picked.{taken, word_by_fold}
use Rattle.labels.proofs.having.Goals as goal

pub returns : goal.returns
unfolding having_of
returns c =
    let a = c.args in
    fold_from_yields_List _ (taken (λ l. bit l a.p)) 0 _ c.fold.ensures.ran
    (YieldsList-from_enumerate (YieldsList-from_slice a.label.now (cc)) (cc)) (λ f x r q k. search rules)
    ∙ word_by_fold (λ l. bit l a.p) a.label.now
