-- `row_byte`: the output in two bytes, then the cells.
use Rattle.machines.specs.Bytes.{byte_high, byte_low, byte_cell}
use Rattle.machine_bytes.proofs.row_byte.Goals as goal

pub returns-then-i-eq0 : goal.returns-then-i-eq0
returns-then-i-eq0 c = byte_high _ _ _ _ c.if-i-eq0.true c.joined_output-output.ensures

pub returns-else-i-eq0 : goal.returns-else-i-eq0
returns-else-i-eq0 c = byte_low _ _ _ _ c.if-i-eq0.false c.if-i-lt2.true c.joined_output-output.ensures

pub returns-else-i-lt2 : goal.returns-else-i-lt2
returns-else-i-lt2 c = byte_cell _ _ _ _ c.if-i-lt2.false c.joined_cell.ensures
