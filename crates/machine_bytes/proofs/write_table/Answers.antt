-- `write_table`: the bytes passed are written.
use Rattle.machines.specs.Bytes.{table_byte}
use Rattle.joined.specs.Written.{written_none, written_turn}
use Rattle.machine_bytes.proofs.write_table.Goals as goal

pub loop-p-init : goal.loop-p-init
loop-p-init c = written_none _ _

pub loop-p-preserved : goal.loop-p-preserved
unfolding table_byte
loop-p-preserved c = written_turn _ _ _ _ _ c.loop-p.invariant c.row_byte.ensures
