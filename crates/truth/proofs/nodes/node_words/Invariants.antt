-- `nodes::node_words`: `words` has the words behind the nodes passed.
use mathlib.Core.Path.{◌≡◌}
use Prim.Native.Nat.{◌≤◌, ◌*◌}
use Rattle.truth.specs.Nodes.{nodes_after}
use Rattle.truth.proofs.nodes.node_words.Given as goal

abbrev pub invariant-loop-at : goal.invariant-loop-at
invariant-loop-at l =
    (l.at ≤ l.fn.rule.len) × (l.words ≡ nodes_after l.fn.rule.nodes l.fn.label l.fn.begins l.fn.numbers (l.at * 64))
