-- `labels::agreeing`: the fold over the labels takes the states whose label agrees.
use Rattle.std.proofs.Common.{rules, ◌∙◌}
use Rattle.std.proofs.lemmas.Iterator.{YieldsList-from_slice}
use Rattle.std.proofs.lemmas.Iterator.Consumers.{fold_from_yields_List, YieldsList-from_enumerate}
use Rattle.labels.specs.Labels.{agreeing_of, agrees}
use Rattle.labels.proofs.Picked.{taken, word_by_fold}
use Rattle.labels.proofs.agreeing.Goals as goal

pub returns : goal.returns
unfolding agreeing_of
returns c =
    let a = c.args in
    fold_from_yields_List _ (taken (agrees a.see a.val)) 0 _ c.fold.ensures.ran
    (YieldsList-from_enumerate (YieldsList-from_slice a.label.now (cc)) (cc)) (λ f x r q k. search rules)
    ∙ word_by_fold (agrees a.see a.val) a.label.now
