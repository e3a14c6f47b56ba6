-- `movers::movers`: the words passed are those of the pairs with a move, the others still 0.
use Rattle.std.proofs.Common.{◌≡◌, ◌≤◌, ◌-◌, get_or}
use Rattle.words.specs.Below.{words_below}
use Rattle.sweeps.specs.Sweeps.{movers_at}
use Rattle.sweeps.proofs.movers.movers.Given as goal

abbrev pub invariant-loop-v : goal.invariant-loop-v
invariant-loop-v l =
    l.words ≡ words_below l.v (λ u. movers_at l.next l.leave l.enter l.count l.set (get_or l.within u 0) u)
