-- `write_output`: the table, and then the rest. Assumes nothing.
use Rattle.transcript.specs.Said.{table_text, output_of, file_of}
use Rattle.transcript.proofs.Cases.{refused_said, accepted_said}
use Rattle.std.proofs.Common.{arith}
use Rattle.std.proofs.lemmas.Grind.{common_steps}
use Rattle.transcript.proofs.write_output.Goals as goal

pub returns-in-Err : goal.returns-in-Err
unfolding output_of
returns-in-Err c = grind (arith, common_steps, table_text, file_of, refused_said)

pub returns : goal.returns
unfolding output_of
returns c = grind (arith, common_steps, table_text, file_of, accepted_said)
