-- `nearest::moving`: what is found, and what of the rest has a move, is what has one.
use Rattle.std.proofs.Common.{rules, sym, ◌∙◌}
use lib.Bits.{or_zero_r}
use Rattle.nearest.specs.Joining.{moving_none, moving_turn}
use Rattle.nearest.proofs.MemberTurns.{member_turn, member_end}
use Rattle.nearest.proofs.moving.Goals as goal

pub loop-s-init : goal.loop-s-init
loop-s-init c = (search rules, rw (c.into_iter-s-iterator.ensures.into_iter_gives, c.members_in-s-items.ensures, c.only.ensures) (moving_none c.args.next.now c.args.target c.args.tried))

pub loop-s-preserved : goal.loop-s-preserved
loop-s-preserved c =
    let w = c.loop-s in
    let t = member_turn w.invariant.0 c.in-Some.ensures.steps in
    let turn = moving_turn c.args.next.now c.args.target w.found w.s-iterator.0 t.some w.invariant.0 in
    (t.fits, rw (t.others, c.only-found.ensures, c.single.ensures, c.entry.ensures, t.lowest) (turn ∙ w.invariant.1))

pub returns : goal.returns
returns c = sym (or_zero_r c.loop-s.found) ∙ rw (member_end c.in-None.ensures.steps.0) at c.loop-s.invariant.1
