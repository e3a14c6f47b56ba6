-- `rounds::cells_agree`: the cells agree at each column.
use Rattle.std.proofs.Common.{rules, ◌*◌}
use Rattle.joined.proofs.Ranges.{all_found_by}
use Rattle.joined.specs.Table.{cell_agrees, cells_agree}
use Rattle.joined.proofs.rounds.cells_agree.Goals as goal

pub returns : goal.returns
unfolding cells_agree
returns c = all_found_by _ _ _ _ (cell_agrees c.args.cells.now c.args.class.now (c.args.s * c.args.c) (c.args.r * c.args.c)) c.all.ensures.ran (λ k b q call. search rules)
