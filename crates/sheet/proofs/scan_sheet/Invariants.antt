-- `sheet::scan_sheet` meets its contract. The loop's invariant: from here on, in the state reached, the machine answers what it answers from the start;
-- and the numbers in the state are small. Assumes nothing.
use Rattle.std.proofs.Common.{◌≤◌, ◌+◌, ◌≡◌, drop}
use Rattle.sheet.specs.Machine.{size_of, scan_from, begin}
use Rattle.sheet.proofs.scan_sheet.Given as goal

abbrev pub invariant-loop-at : goal.invariant-loop-at
invariant-loop-at l = (size_of l.state ≤ l.at + 3) × (scan_from l.lines l.state l.at (drop l.at l.text) ≡ begin l.text)
