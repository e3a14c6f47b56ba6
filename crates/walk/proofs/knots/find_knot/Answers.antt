-- `knots::find_knot`: x leads to q. Where q leads to none that does not lead back it is the knot; else less is reached from where it leads.
use Rattle.std.proofs.Common.{rules, get_or, Fits, w64}
use Rattle.graphs.specs.Walk.{last_in, stay}
use Rattle.nearest.specs.Graph.{nodes_below}
use Rattle.walk.specs.Ways.{alone_near}
use Rattle.walk.specs.Knots.{turned_farther, knotted, knot_on, knot_less}
use Rattle.walk.proofs.knots.find_knot.Goals as goal

pub loop-q-init : goal.loop-q-init
loop-q-init c = stay c.requires.inside

pub alone-here-requires : goal.alone-here-requires
alone-here-requires c = nodes_below c.args.live.now c.requires.count_bound.1 _ (last_in c.loop-q.invariant.1)

pub farther-on-requires : goal.farther-on-requires
farther-on-requires c =
    let p = c.requires.count_bound in
    (p.0, p.1, nodes_below c.args.live.now p.1 _ (last_in c.loop-q.invariant.1))

pub loop-q-smaller : goal.loop-q-smaller
loop-q-smaller c =
    let a = c.args in
    let w = c.loop-q in
    let small = nodes_below a.live.now c.requires.count_bound.1 in
    let n = alone_near w.q (small _ (last_in w.invariant.1)) small c.alone-here.ensures c.nearest-back.ensures in
    let f = turned_farther c.before-earlier.ensures a.leave.now a.enter.now a.count c.farther-on.ensures in
    knot_less a.live.now c.nearest-back.result.words _ c.requires.count_bound.1
    (λ v h. let word : Fits w64 (get_or c.nearest-back.result.words v 0) = search (rules, c.nearest-back.type_inv) in word.fits) c.without-lost.ensures w.invariant n c.if-on-q.false f

pub loop-q-preserved : goal.loop-q-preserved
loop-q-preserved c =
    let a = c.args in
    let w = c.loop-q in
    let small = nodes_below a.live.now c.requires.count_bound.1 in
    let n = alone_near w.q (small _ (last_in w.invariant.1)) small c.alone-here.ensures c.nearest-back.ensures in
    let f = turned_farther c.before-earlier.ensures a.leave.now a.enter.now a.count c.farther-on.ensures in
    knot_on a.live.now c.nearest-back.result.words _ c.requires.count_bound.1
    (λ v h. let word : Fits w64 (get_or c.nearest-back.result.words v 0) = search (rules, c.nearest-back.type_inv) in word.fits) c.without-lost.ensures w.invariant n c.if-on-q.false f

pub returns : goal.returns
returns c =
    let a = c.args in
    let w = c.loop-q in
    let small = nodes_below a.live.now c.requires.count_bound.1 in
    let n = alone_near w.q (small _ (last_in w.invariant.1)) small c.alone-here.ensures c.nearest-back.ensures in
    let f = turned_farther c.before-earlier.ensures a.leave.now a.enter.now a.count c.farther-on.ensures in
    knotted a.live.now c.nearest-back.result.words _ c.requires.count_bound.1
    (λ v h. let word : Fits w64 (get_or c.nearest-back.result.words v 0) = search (rules, c.nearest-back.type_inv) in word.fits) c.without-lost.ensures w.invariant n c.if-on-q.true f
