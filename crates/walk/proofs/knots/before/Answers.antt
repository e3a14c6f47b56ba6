-- `knots::before`: state by state, and for each by the words that it goes into.
use Rattle.std.proofs.Common.{zero-le, ◌≡◌, arith, rules}
use Rattle.nearest.proofs.MemberTurns.{member_turn, member_end}
use Rattle.walk.specs.Before.{entered_start, entering_start, entering_turn, entering_end, entered_end}
use Rattle.walk.proofs.knots.before.Goals as goal

pub loop-s-init : goal.loop-s-init
loop-s-init c = (zero-le, entered_start)

pub loop-t-init : goal.loop-t-init
loop-t-init c = rw (c.into_iter-t-iterator.ensures.into_iter_gives, c.members_in-t-items.ensures) (entering_start _ _ c.entry.ensures (search rules) c.loop-s.invariant.1)

pub loop-t-preserved : goal.loop-t-preserved
loop-t-preserved c =
    let t = member_turn c.loop-t.invariant.fits c.in-Some.ensures.steps in
    rw (t.others, c.single.ensures, t.lowest) (entering_turn _ _ t.some c.loop-t.invariant)

pub loop-s-preserved : goal.loop-s-preserved
loop-s-preserved c = (omega arith, entering_end _ _ (member_end c.in-None.ensures.steps.0) c.loop-t.invariant)

pub returns : goal.returns
returns c =
    let end : c.loop-s.s ≡ 64 = omega arith in
    entered_end (rw end at c.loop-s.invariant.1)
