-- `nearest::drop_all`: those of the rest are still to be dropped.
use Rattle.nearest.specs.Places.{dropping_turn, dropping_end}
use Rattle.nearest.proofs.MemberTurns.{member_turn, member_end}
use Rattle.nearest.proofs.drop_all.Goals as goal

pub loop-v-preserved : goal.loop-v-preserved
loop-v-preserved c =
    let w = c.loop-v in
    let t = member_turn w.invariant.0 c.in-Some.ensures.steps in
    (t.fits, rw (t.others, c.without.ensures, t.lowest) (dropping_turn _ _ w.v-iterator.0 w.others t.some w.invariant.0 w.invariant.1))

pub returns : goal.returns
returns c = dropping_end _ _ _ _ (member_end c.in-None.ensures.steps.0) c.loop-v.invariant.1
