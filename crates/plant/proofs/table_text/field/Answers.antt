-- `plant::table_text::field`. A key, then a number.
use Rattle.plant.specs.Lines.{field_line}
use Rattle.plant.proofs.table_text.field.Goals as goal

pub returns : goal.returns
returns c = field_line c.args.name.now _ c.expect_all-d.ensures c.expect_count-e.ensures c.hex_end.ensures c.requires.2
