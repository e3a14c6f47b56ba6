-- `rests::stays`: the fold over the states is the union of what is found at each.
use Rattle.std.proofs.Common.{rules, tests, refl, ◌∙◌, bit_and, bit_or, get_or, ◌^◌}
use Rattle.std.proofs.lemmas.Iterator.{YieldsList-from_range}
use Rattle.std.proofs.lemmas.Iterator.Consumers.{fold_from_yields_List}
use Rattle.walk.proofs.Folded.{stays_by_fold}
use Rattle.walk.proofs.rests.stays.Goals as goal

pub returns : goal.returns
returns c =
    let next = c.args.next.now in
    fold_from_yields_List _ (λ r s. bit_or r (bit_and (get_or next s 0) (2 ^ s))) 0 _ c.fold.ensures.ran
    (YieldsList-from_range 0 64 64 refl refl) (λ a x b q k. search (rules, tests)) ∙ stays_by_fold next
