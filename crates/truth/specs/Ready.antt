-- What the loops ask of labels and rule.
use Rattle.std.specs.Prelude.{ℕ, ◌≤◌, List, length}
use Rattle.meaning.specs.Limits.{most_states, most_nodes, most_parts}
use Rattle.syntax.specs.declared.Rule.{Rule}
use Rattle.shape.specs.Shape.{parts_in}

pub record Ready (label : List ℕ) (rule : Rule) : Type 0 where
  pub labels : length label ≤ most_states
  pub long : rule.len ≤ most_nodes
  pub few : parts_in rule ≤ most_parts
