-- `nearest::nearest`: each sweep gives its number as rank to what joins (`Sweeping`), and adds a pair or is the last.
use Rattle.std.proofs.Common.{arith, ◌∙◌, rules, get_or, Fits, w64}
use Rattle.words.specs.Folds.{count_le}
use Rattle.model.specs.Sets.{nodes_of}
use Rattle.pairs.specs.Sets.{Words}
use Rattle.sweeps.specs.Sweeps.{without_set}
use Rattle.nearest.specs.Places.{held_low, held_only, only_less, movers_only}
use Rattle.nearest.specs.Search.{sweeping_start, sweeping_more, sweeping_less, sweeping_end}
use Rattle.nearest.proofs.nearest.Goals as goal

pub loop-more-init : goal.loop-more-init
loop-more-init c =
    let a = c.args in
    let met = c.meet in
    let words : Words met.result.words = record { long = search rules; fits = λ v h. let word : Fits w64 (get_or met.result.words v 0) = search rules in word.fits } in (
      search rules,
      c.held_at-held.ensures,
      rw c.held_at-places.ensures (held_low _ _),
      rw c.held_at-places.ensures (held_only _ _),
      sweeping_start a.next.now a.leave.now a.enter.now a.count c.requires.0 a.z.now a.goal.now c.requires.1 words met.ensures c.without.ensures,
    )

pub overflow_add-rank : goal.overflow_add-rank
overflow_add-rank c =
    let w = c.loop-more in
    omega (arith, w.invariant.4.ranking.few, count_le 4096 (nodes_of (without_set c.args.z.now w.others)))

pub rank_all-requires : goal.rank_all-requires
rank_all-requires c =
    let more = c.joining-more in
    (c.loop-more.invariant.0, rw more.ensures.1 (movers_only _ _ _ _ _ _ more.ensures.0))

pub drop_all-requires : goal.drop_all-requires
drop_all-requires c =
    let more = c.joining-more in
    (c.loop-more.invariant.4.words, rw more.ensures.1 (movers_only _ _ _ _ _ _ more.ensures.0))

pub loop-more-smaller : goal.loop-more-smaller
loop-more-smaller c =
    let start = c.before.before in
    let a = start.args in
    rw c.drop_all.ensures (sweeping_less a.next.now a.leave.now a.enter.now a.count start.requires.0 a.z.now a.goal.now start.requires.1 c.loop-more.others c.loop-more.front _ c.loop-more.ranks _
    c.loop-more.rank c.loop-more.invariant.4 c.joining-more.ensures.0 c.joining-more.ensures.1 (omega (arith, c.if-more-eq0.false)))

pub loop-more-preserved : goal.loop-more-preserved
loop-more-preserved c =
    let start = c.before.before in
    let a = start.args in (
      c.rank_all.ensures.size ∙ c.loop-more.invariant.0,
      c.joining-more.ensures.1,
      c.loop-more.invariant.2,
      rw c.drop_all.ensures (only_less _ start.requires.0 c.loop-more.invariant.3),
      rw c.drop_all.ensures (sweeping_more a.next.now a.leave.now a.enter.now a.count start.requires.0 a.z.now a.goal.now start.requires.1 c.loop-more.others c.loop-more.front _ c.loop-more.ranks _
          c.loop-more.rank c.loop-more.invariant.4 c.joining-more.ensures.0 c.joining-more.ensures.1 (omega (arith, c.if-more-eq0.false)) c.rank_all.ensures),
    )

pub returns : goal.returns
returns c =
    let a = c.args in
    rw c.without-then-more-eq0.ensures (sweeping_end a.next.now a.leave.now a.enter.now a.count c.requires.0 a.z.now a.goal.now c.requires.1 c.loop-more.others c.loop-more.front _ c.loop-more.ranks _
    c.loop-more.rank c.loop-more.invariant.4 c.joining-more.ensures.0 c.joining-more.ensures.1 c.if-more-eq0.true)
