-- `nearest::rank_word`: the pairs of the rest are still to get the rank.
use Rattle.nearest.specs.Ranking.{marking_turn, marking_end}
use Rattle.nearest.proofs.MemberTurns.{member_turn, member_end}
use Rattle.nearest.proofs.rank_word.Goals as goal

pub loop-s-preserved : goal.loop-s-preserved
loop-s-preserved c =
    let w = c.loop-s in
    let t = member_turn w.invariant.0 c.in-Some.ensures.steps in
    (t.fits, w.invariant.1, rw (t.others, t.lowest) (marking_turn _ _ _ _ _ _ c.requires.0 w.invariant.1 t.some w.invariant.0 w.invariant.2))

pub returns : goal.returns
returns c = marking_end _ _ _ _ _ _ (member_end c.in-None.ensures.steps.0) c.loop-s.invariant.2
