-- `nearest::lower`: none of the pairs passed is of low rank, so one is found before the end.
use Rattle.std.proofs.Common.{arith}
use Rattle.nearest.specs.Scan.{word_on, word_found, word_end}
use Rattle.nearest.proofs.MemberTurns.{member_turn, member_end}
use Rattle.nearest.proofs.lower.Goals as goal

pub loop-s-preserved : goal.loop-s-preserved
loop-s-preserved c =
    let t = member_turn c.loop-s.invariant.fits c.in-Some.ensures.steps in
    rw t.others (word_on _ _ t.some c.loop-s.invariant (λ h. omega (arith, c.if-ranks-y.false, rw (← t.lowest) at h)))

pub loop-w-preserved : goal.loop-w-preserved
loop-w-preserved c = (omega (arith, c.loop-w-test.true), word_end _ _ (member_end c.in-None.ensures.steps.0) c.loop-s.invariant)

pub returns-then-ranks-y : goal.returns-then-ranks-y
returns-then-ranks-y c =
    let t = member_turn c.loop-s.invariant.fits c.in-Some.ensures.steps in
    rw t.lowest (word_found _ _ t.some c.loop-s.invariant (omega (arith, c.loop-w-test.true)) (rw (← t.lowest) c.if-ranks-y.true))
