-- `nearest::rank_all`: the words of the rest are still to be marked.
use Rattle.std.proofs.Common.{◌∙◌, rules}
use Rattle.nearest.specs.Ranking.{marked_start, marked_more, marked_end}
use Rattle.nearest.proofs.MemberTurns.{member_turn, member_end}
use Rattle.nearest.proofs.rank_all.Goals as goal

pub loop-v-init : goal.loop-v-init
loop-v-init c =
    rw (c.into_iter-v-iterator.ensures.into_iter_gives, c.members_in-v-items.ensures)
    (search rules, c.requires.0, marked_start c.args.joining.now _ _ _ c.requires.1)

pub loop-v-preserved : goal.loop-v-preserved
loop-v-preserved c =
    let w = c.loop-v in
    let t = member_turn w.invariant.0 c.in-Some.ensures.steps in (
      t.fits,
      c.rank_word.ensures.size ∙ w.invariant.1,
      rw t.others (marked_more c.args.joining.now _ _ _ _ _ t.some w.invariant.0 w.invariant.2 (rw t.lowest at c.rank_word.ensures)),
    )

pub returns : goal.returns
returns c = marked_end c.args.joining.now _ _ _ _ (member_end c.in-None.ensures.steps.0) c.loop-v.invariant.2
