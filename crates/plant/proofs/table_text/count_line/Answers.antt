-- `plant::table_text::count_line`. A key, then a count.
use native.Mathlib.Omega.{arith}
use Rattle.plant.specs.Lines.{count_line_lem}
use Rattle.plant.proofs.table_text.count_line.Goals as goal

pub returns : goal.returns
returns c = count_line_lem c.expect_all.ensures (omega arith) c.count.ensures
