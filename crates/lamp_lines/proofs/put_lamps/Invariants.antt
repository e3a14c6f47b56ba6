-- `put_lamps`: line by line. Assumes nothing.
use Rattle.std.proofs.Common.{◌+◌, ◌*◌, ◌≤◌}
use Rattle.report.specs.Line.{Put}
use Rattle.lamp_lines.specs.Lines.{byte_lines}
use Rattle.lamp_lines.proofs.put_lamps.Given as goal

abbrev pub invariant-loop-n : goal.invariant-loop-n
invariant-loop-n l = (l.end ≤ l.at + 70 * l.n) × Put l.initial.out l.at (byte_lines l.n l.verdicts l.lefts l.numbers) l.out l.end
