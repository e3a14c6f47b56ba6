-- `numbers::number_rows`: the rows passed have the numbers of their classes, and the first rows among them are counted.
use Rattle.std.proofs.Common.{◌≤◌, ◌≡◌}
use Rattle.joined.specs.Written.{written}
use Rattle.joined.specs.Table.{leaders_in, rank_in}
use Rattle.joined.proofs.numbers.number_rows.Given as goal

abbrev pub invariant-loop-r : goal.invariant-loop-r
invariant-loop-r l = (l.class ≡ written l.r (rank_in l.initial.class) l.initial.class) × (l.count ≡ leaders_in l.r l.initial.class) × (l.count ≤ l.r)
