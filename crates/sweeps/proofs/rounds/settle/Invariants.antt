-- `rounds::settle`: the set is on its way to the pairs that reach every goal again and again; each round but the last drops one.
use Rattle.pairs.specs.Sets.{Words}
use Rattle.sweeps.specs.Laws.{pairs_in}
use Rattle.sweeps.specs.Turns.{Rounding}
use Rattle.sweeps.proofs.rounds.settle.Given as goal

abbrev pub invariant-loop-less : goal.invariant-loop-less
invariant-loop-less l =
    Words l.set.words × Rounding l.fair l.next l.leave l.enter l.settled l.parts l.initial.set.words l.set.words

abbrev pub decreases-loop-less : goal.decreases-loop-less
decreases-loop-less l = pairs_in l.set.words
