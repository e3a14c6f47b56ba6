-- `plant_writer::lines::put_rows` meets its contract: the loop has put the lines of the states below k. Assumes nothing.
use Rattle.writing.specs.Put.{Put}
use Rattle.text.specs.Written.{text_of}
use Rattle.plant.specs.Written.{lines_below}
use Rattle.plant_writer.specs.Pieces.{row_lines}
use Rattle.plant_writer.proofs.lines.put_rows.Given as goal

abbrev pub invariant-loop-k : goal.invariant-loop-k
invariant-loop-k l = Put l.initial.buffer l.initial.end (text_of (lines_below l.k (row_lines l.width l.label l.next))) l.buffer l.end
