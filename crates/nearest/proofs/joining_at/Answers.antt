-- `nearest::joining_at`: what is found, and what joins at the valuations left, is what joins. Where no state is beside those found, none does.
use Rattle.std.proofs.Common.{sym, ap, ◌∙◌, bit_or, rules, Fits, w64}
use lib.Bits.{or_lt, or_zero_r}
use Rattle.pairs.specs.Post.{post_none}
use Rattle.sweeps.specs.Sweeps.{movers_at}
use Rattle.nearest.specs.Joining.{joins_all, joins_turn}
use Rattle.nearest.proofs.MemberTurns.{member_turn, member_end}
use Rattle.nearest.proofs.joining_at.Goals as goal

pub returns-then-others-eq0 : goal.returns-then-others-eq0
unfolding movers_at
returns-then-others-eq0 c = rw c.if-others-eq0.true

pub loop-w-init : goal.loop-w-init
loop-w-init c =
    let a = c.args in
    (search rules, search rules, rw (c.into_iter-w-iterator.ensures.into_iter_gives, c.members_in-w-items.ensures, c.requires.2) (joins_all a.next.now a.leave.now a.enter.now a.count a.front.now a.others a.v c.requires.0))

pub loop-w-preserved : goal.loop-w-preserved
loop-w-preserved c =
    let w = c.loop-w in
    let a = c.args in
    let t = member_turn w.invariant.0 c.in-Some.ensures.steps in
    let turn = joins_turn a.next.now a.leave.now a.enter.now a.count a.front.now a.others a.v w.found _ _ _ _ _ w.w-iterator.0 (search rules) w.invariant.1 t.some w.invariant.0 t.lowest
    c.without.ensures c.both-in-loop-w.ensures c.both.ensures c.moving-found.ensures in
    (t.fits, or_lt 64 _ _ w.invariant.1 (let word : Fits w64 c.moving-found.result = search rules in word.fits), rw t.others (turn ∙ w.invariant.2))

pub returns : goal.returns
returns c = sym (or_zero_r c.loop-w.found) ∙ ap (bit_or c.loop-w.found) (sym (post_none _)) ∙ rw (member_end c.in-None.ensures.steps.0) at c.loop-w.invariant.2
