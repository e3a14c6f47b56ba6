-- `lines::put_number`: the digits are those of `decimal`, and at most 20. Assumes nothing.
use Rattle.std.proofs.Common.{arith}
use Rattle.io.specs.Digits.{last_digits}
use Rattle.report.proofs.Places.{counted}
use Rattle.std.proofs.lemmas.Grind.{common_steps}
use Rattle.day_writer.proofs.lines.put_number.Goals as goal

pub returns : goal.returns
returns c = grind (arith, common_steps, last_digits, counted)
