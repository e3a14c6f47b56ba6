-- `store`: the block, copied into its row.
use Rattle.std.proofs.Common.{rules, arith}
use Rattle.explored.proofs.Stored.{stored_copied}
use Rattle.explored.proofs.store.Goals as goal

pub returns : goal.returns
returns c = stored_copied 130 c.args.row c.args.state.now c.args.room.now (search rules) (omega arith) c.copy_from_slice.ensures.after _ (omega arith)
