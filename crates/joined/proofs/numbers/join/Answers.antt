-- `numbers::join`: what the rounds leave is a list of first rows, and its numbers are those of the classes.
use Rattle.std.proofs.Common.{◌∙◌, arith, rules}
use Rattle.machines.proofs.Rounds.{agree_sorts}
use Rattle.machines.specs.Joined.{joined}
use Rattle.machines.specs.Held.{machine_of}
use Rattle.joined.specs.Join.{leading, leaders_counted, ranks_written}
use Rattle.joined.proofs.numbers.join.Goals as goal

pub number_rows-requires : goal.number_rows-requires
number_rows-requires c =
    let a = c.args in
    (search rules, search rules, leading (agree_sorts a.c (machine_of a.outputs.now a.cells.now a.n a.c) a.n) _ _ _ c.requires.2 c.settle.ensures.0)

pub returns : goal.returns
unfolding joined
returns c =
    let a = c.args in
    let sorts = agree_sorts a.c (machine_of a.outputs.now a.cells.now a.n a.c) a.n in
    let settled = c.settle.ensures in
    let numbered = c.number_rows.ensures in (
      ranks_written sorts _ _ _ c.requires.2 settled.0 _ numbered.0,
      settled.1,
      numbered.1 ∙ leaders_counted sorts _ _ _ c.requires.2 settled.0 _ (omega arith),
    )
