-- `knots::farther`: what the search has in common with the lost is where q leads among them.
use Rattle.std.proofs.Common.{rules, inl, Fits, w64, refl, sym, ◌∙◌, get_or}
use Rattle.graphs.specs.Walk.{first_in}
use Rattle.nearest.specs.Graph.{nodes_below}
use Rattle.model.specs.Reaching.{meet_says}
use Rattle.walk.specs.Ways.{none_in, some_in, alone_near}
use Rattle.walk.specs.Knots.{farther_none, farther_some}
use Rattle.walk.proofs.knots.farther.Goals as goal

pub returns-then-is_empty : goal.returns-then-is_empty
returns-then-is_empty c =
    let small = nodes_below c.args.live.now c.requires.1 in
    inl (refl, λ y r m. none_in _ (sym c.is_empty.ensures ∙ c.if-is_empty.true) y (small y (first_in r.1)) m)

pub returns-then-is_empty-2 : goal.returns-then-is_empty-2
returns-then-is_empty-2 c =
    let a = c.args in
    let small = nodes_below a.live.now c.requires.1 in
    let n = alone_near a.q c.requires.2 small c.alone-here.ensures c.nearest-ahead.ensures in
    farther_none _ _ _ small n c.meet-away.ensures (sym c.is_empty-2.ensures ∙ c.if-is_empty-2.true)

pub some_pair-requires : goal.some_pair-requires
some_pair-requires c =
    some_in _ (λ v h. let word : Fits w64 (get_or c.meet-away.result.words v 0) = search (rules, c.meet-away.type_inv) in word.fits) (sym c.is_empty-2.ensures ∙ c.if-is_empty-2.false)

pub returns-then-is_empty-3 : goal.returns-then-is_empty-3
returns-then-is_empty-3 c =
    let a = c.args in
    let small = nodes_below a.live.now c.requires.1 in
    let n = alone_near a.q c.requires.2 small c.alone-here.ensures c.nearest-ahead.ensures in
    farther_some _ _ _ small n c.meet-away.ensures c.some_pair.ensures.held

pub some_pair-requires-2 : goal.some_pair-requires-2
some_pair-requires-2 c =
    some_in _ (λ v h. let word : Fits w64 (get_or c.meet-last.result.words v 0) = search (rules, c.meet-last.type_inv) in word.fits) (sym c.is_empty-3.ensures ∙ c.if-is_empty-3.false)

pub returns : goal.returns
returns c =
    let a = c.args in
    let small = nodes_below a.live.now c.requires.1 in
    let n = alone_near a.q c.requires.2 small c.alone-here.ensures c.nearest-ahead.ensures in
    farther_some _ _ _ small n c.meet-away.ensures ((meet_says _ _ _ _).0 (rw c.meet-last.ensures at c.some_pair-2.ensures.held)).1.0
