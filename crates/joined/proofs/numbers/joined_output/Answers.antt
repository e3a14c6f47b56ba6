-- `numbers::joined_output`: the output of the first row that becomes row j.
use Rattle.std.proofs.Common.{◌∙◌}
use Rattle.joined.specs.Join.{output_read}
use Rattle.joined.proofs.numbers.joined_output.Goals as goal

pub returns : goal.returns
returns c = c.entry.ensures ∙ output_read c.requires _ _ c.first_row.ensures.0
