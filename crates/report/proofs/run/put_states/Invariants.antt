-- `report::run::put_states` meets its contract: state by state (`put_more`).
-- Assumes nothing.
use Rattle.std.proofs.Common.{◌+◌, ◌*◌, ◌≤◌}
use Rattle.report.specs.Text.{states_text}
use Rattle.report.specs.Line.{Put}
use Rattle.report.proofs.run.put_states.Given as goal

abbrev pub invariant-loop-i : goal.invariant-loop-i
invariant-loop-i l = (l.end ≤ l.at + 4 * l.i) × Put l.initial.buffer l.at (states_text l.i l.states) l.buffer l.end
