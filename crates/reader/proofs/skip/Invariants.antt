-- `reader::skip` meets its contract. The loop's invariant: from here on stand the tokens that stood from `from` on. Assumes nothing.
use Rattle.std.proofs.Common.{◌≤◌, ◌≡◌, length}
use Rattle.syntax.specs.Bytes.{tokens}
use Rattle.reader.proofs.skip.Given as goal

abbrev pub invariant-loop-at : goal.invariant-loop-at
invariant-loop-at l = (l.from ≤ l.at) × (l.at ≤ length l.text) × (tokens l.text l.at ≡ tokens l.text l.from)
