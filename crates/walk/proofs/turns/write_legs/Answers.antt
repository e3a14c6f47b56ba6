-- `turns::write_legs`: the way so far meets the first k debts (`Going`). From a live pair every debt is reached.
use Rattle.std.proofs.Common.{add-one, arith, ◌≡◌, ◌+◌, length}
use mathlib.Core.List.Memᴰ
use Rattle.nearest.specs.Graph.{nodes_below}
use Rattle.walk.specs.Debts.{debt_in, debts_to}
use Rattle.walk.specs.Legs.{going_start, going_in, going_on}
use Rattle.walk.proofs.turns.write_legs.Goals as goal

pub loop-k-init : goal.loop-k-init
unfolding debts_to
loop-k-init c = (omega arith, going_start _ c.requires.inside)

pub write_way-leg-requires : goal.write_way-leg-requires
write_way-leg-requires c =
    let w = c.loop-k in
    let p = c.requires in
    let a = c.args in
    let i = going_in w.invariant.1 in
    let m = (p.fair _ i).meets _ (debt_in a.fair.now a.count a.settled.now (length a.fair.now + a.parts) w.k c.loop-k-test.true) in
    record {
      count_bound = (p.count_bound.0, nodes_below a.live.now p.count_bound.3 _ i, p.count_bound.3, omega (arith, w.invariant.1.short, w.invariant.1.written.size, p.count_bound, c.loop-k-test.true));
      inside = i;
      reaches = rw c.goal-debt.ensures m;
    }

pub loop-k-preserved : goal.loop-k-preserved
unfolding debts_to
loop-k-preserved c =
    let w = c.loop-k in
    let way = rw c.goal-debt.ensures at c.write_way-leg.ensures in
    (omega (arith, c.loop-k-test.true), rw add-one (going_on w.invariant.1 way (λ h m. Memᴰ.cases_cons m)))

pub returns : goal.returns
returns c =
    let all : c.loop-k.k ≡ length c.args.fair.now + c.args.parts = omega arith in
    rw all at c.loop-k.invariant.1
