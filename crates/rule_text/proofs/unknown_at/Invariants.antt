-- `rule::rule_text::unknown_at` meets its contract. The loop's invariant: the answer from here on is the answer. Assumes nothing.
use Rattle.std.proofs.Common.{◌≤◌, ◌≡◌, length, drop}
use Rattle.rule_text.specs.Reading.{unknown_at}
use Rattle.rule_text.proofs.unknown_at.Given as goal

abbrev pub invariant-loop-at : goal.invariant-loop-at
invariant-loop-at l = (l.at ≤ length l.text) × (unknown_at l.props l.at (drop l.at l.text) ≡ unknown_at l.props 0 l.text)
