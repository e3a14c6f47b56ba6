-- `plant::table_text::hex_end`. A number, then LF.
use native.Mathlib.Omega.{arith}
use Rattle.plant.specs.Lines.{hex_line_lem}
use Rattle.plant.proofs.table_text.hex_end.Goals as goal

pub returns : goal.returns
returns c = hex_line_lem c.hex-n.ensures c.expect.ensures (omega arith)
