-- `scanner::scan_text` meets its contract. The loop's invariant: from here on, in the state reached, the scanner answers what it answers from the start;
-- and no more parentheses are open than bytes are read. Assumes nothing.
use Rattle.std.proofs.Common.{◌≤◌, ◌≡◌, length, drop}
use Rattle.syntax.specs.Scan.{scan_from, scan}
use Rattle.scanner.proofs.scan_text.Given as goal

abbrev pub invariant-loop-at : goal.invariant-loop-at
invariant-loop-at l = (l.at ≤ length l.text) × (l.state.depth ≤ l.at) × (scan_from l.state l.at (drop l.at l.text) ≡ scan l.text)
