-- `movers::movers`: after the last turn the words are those of the pairs with a move.
use Rattle.std.proofs.Common.{◌≡◌, ◌∙◌, arith}
use Rattle.sweeps.specs.Laws.{movers_words}
use Rattle.sweeps.proofs.movers.movers.Goals as goal

pub returns : goal.returns
returns c =
    let a = c.args in
    let end : c.loop-v.v ≡ a.count = omega arith in
    c.loop-v.invariant ∙ rw end (movers_words a.next.now a.leave.now a.enter.now a.count a.set.now a.within.now)
