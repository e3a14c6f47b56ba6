-- `plant_writer::lines::put_fair` meets its contract: the loop has put the lines below k. Assumes nothing.
use Rattle.std.proofs.Common.{◌≤◌, length}
use Rattle.writing.specs.Put.{Put}
use Rattle.text.specs.Written.{text_of}
use Rattle.plant.specs.Written.{lines_below}
use Rattle.plant_writer.specs.Pieces.{fair_line}
use Rattle.plant_writer.proofs.lines.put_fair.Given as goal

abbrev pub invariant-loop-k : goal.invariant-loop-k
invariant-loop-k l = (l.k ≤ length l.fair) × Put l.initial.buffer l.initial.end (text_of (lines_below l.k (fair_line l.fair))) l.buffer l.end
