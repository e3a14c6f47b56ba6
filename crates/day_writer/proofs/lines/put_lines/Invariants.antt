-- `lines::put_lines`: the loop has put the lines before this one. Assumes nothing.
use Rattle.std.proofs.Common.{◌*◌, ◌≤◌}
use Rattle.writing.specs.Put.{Put}
use Rattle.day_writer.specs.Text.{lines_text}
use Rattle.day_writer.proofs.lines.put_lines.Given as goal

abbrev pub invariant-loop-line : goal.invariant-loop-line
invariant-loop-line l = (l.end ≤ 105 * l.line-index) × Put l.initial.buffer 0 (lines_text l.fn.sheet.lines l.line-index) l.buffer l.end
