-- `reach::reaching`: the set is on its way to the pairs that reach the goal; each sweep but the last adds one.
use Rattle.std.proofs.Common.{sym, ◌∙◌, rules, get_or, Fits, w64}
use Rattle.pairs.specs.Sets.{length_join}
use Rattle.sweeps.specs.Laws.{sweeping_start, sweeping_less, sweeping_more, sweeping_end}
use Rattle.sweeps.proofs.reach.reaching.Goals as goal

pub loop-more-init : goal.loop-more-init
loop-more-init c = (
  record { long = search rules; fits = λ v h. let word : Fits w64 (get_or c.meet-set.result.words v 0) = search rules in word.fits },
  rw c.meet-set.ensures (sweeping_start _ _ _ _ _ _),
)

pub loop-more-smaller : goal.loop-more-smaller
loop-more-smaller c =
    let a = c.before.before.before.args in
    let empty = c.is_empty.ensures in
    rw c.join-set.ensures
    (sweeping_less a.next.now a.leave.now a.enter.now a.count a.within.now a.goal.now c.loop-more.set.words _ _ c.loop-more.invariant.0
    c.without-others.ensures c.movers-more.ensures (sym empty ∙ c.if-is_empty.false))

pub loop-more-preserved : goal.loop-more-preserved
loop-more-preserved c =
    let a = c.before.before.before.args in
    let empty = c.is_empty.ensures in (
      record { long = rw c.join-set.ensures (length_join _ _); fits = λ v h. let word : Fits w64 (get_or c.join-set.result.words v 0) = search rules in word.fits },
      rw c.join-set.ensures
          (sweeping_more a.next.now a.leave.now a.enter.now a.count a.within.now a.goal.now c.loop-more.set.words _ _ c.loop-more.invariant.0
          c.without-others.ensures c.movers-more.ensures (sym empty ∙ c.if-is_empty.false) c.loop-more.invariant.1),
    )

pub returns : goal.returns
returns c =
    let a = c.before.before.before.args in
    let empty = c.is_empty.ensures in
    sweeping_end a.next.now a.leave.now a.enter.now a.count a.within.now a.goal.now c.loop-more.set.words _ _ c.loop-more.invariant.0
    c.without-others.ensures c.movers-more.ensures (sym empty ∙ c.if-is_empty.true) c.loop-more.invariant.1
