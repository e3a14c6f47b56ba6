-- `plant::table_text::parse`. The lines, one after the other.
use Rattle.plant.specs.Read.{parsed}
use Rattle.plant.proofs.table_text.parse.Goals as goal

pub returns : goal.returns
returns c =
    parsed _ _ _ _ _ _ _ _ _ _ _ _ _ _ _ _ c.width_of-width.ensures.0 c.count_line-props.ensures c.count_line-states.ensures c.expect_all-key.ensures
    c.hex_end-start.ensures c.count_line-just.ensures c.read_fair.ensures c.read_rows.ensures
