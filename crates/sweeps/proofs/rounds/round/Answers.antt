-- `rounds::round`: the fold is what is left after the goals.
use Rattle.std.proofs.Common.{rules, arith, ap, refl, ◌∙◌, ◌+◌, length}
use Rattle.std.proofs.lemmas.Iterator.{YieldsList-from_range}
use Rattle.std.proofs.lemmas.Iterator.Consumers.{fold_from_yields_List}
use Rattle.sweeps.specs.Rounds.{round_of}
use Rattle.sweeps.proofs.Made.{after_goal, goals_by_fold}
use Rattle.sweeps.proofs.rounds.round.Goals as goal

pub returns : goal.returns
unfolding round_of
returns c =
    let a = c.args in
    let n = length a.fair.now + a.parts in
    let folded = fold_from_yields_List _ (after_goal a.fair.now a.next.now a.leave.now a.enter.now a.settled.now c.valuations-count.result)
    c.movers-start.result c.fold.result c.fold.ensures.ran (YieldsList-from_range 0 n n refl (omega arith)) (λ f x r q k. search rules) in
    ap (λ (p : _). p.words) folded
    ∙ goals_by_fold a.fair.now a.next.now a.leave.now a.enter.now a.settled.now c.valuations-count.result c.movers-start.result n
    ∙ rw (c.movers-start.ensures, c.valuations-count.ensures.0)
