-- `nearest::joining`: the words of the rest are still to be worked out.
use Rattle.std.proofs.Common.{◌∙◌, ◌≤◌, arith, rules}
use Rattle.std.proofs.lemmas.Nat.{and_le_l}
use Rattle.words.specs.Lowest.{others_of}
use Rattle.sweeps.specs.Sweeps.{movers_at}
use Rattle.sweeps.specs.Laws.{movers_words}
use Rattle.nearest.specs.Places.{filling_start, filling_turn, filling_end}
use Rattle.nearest.proofs.MemberTurns.{member_turn, member_end}
use Rattle.nearest.proofs.joining.Goals as goal

pub loop-v-init : goal.loop-v-init
unfolding movers_at
loop-v-init c =
    rw (c.into_iter-v-iterator.ensures.into_iter_gives, c.members_in-v-items.ensures)
    (search rules, c.requires.2, filling_start _ _ _ (λ v l e. rw (c.requires.3.none v l e)))

pub loop-v-preserved : goal.loop-v-preserved
loop-v-preserved c =
    let w = c.loop-v in
    let t = member_turn w.invariant.0 c.in-Some.ensures.steps in (
      t.fits,
      (let left : others_of w.v-iterator.0 ≤ w.v-iterator.0 = and_le_l w.v-iterator.0 _ in omega (arith, t.others, w.invariant.1)),
      rw (t.others, c.only-some.ensures, c.single.ensures, t.lowest)
          (filling_turn _ _ w.v-iterator.0 w.some _ w.words c.requires.0 t.some w.invariant.0 w.invariant.1 (rw t.lowest at c.joining_at-word.ensures) w.invariant.2),
    )

pub returns : goal.returns
returns c =
    let a = c.args in
    let (all, held) = filling_end _ _ _ _ _ (member_end c.in-None.ensures.steps.0) c.loop-v.invariant.2 in
    (all ∙ movers_words a.next.now a.leave.now a.enter.now a.count a.front.now a.others.now, held)
