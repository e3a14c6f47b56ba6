-- More of specs/Node. The pairs of a table and a rule as the nodes of a finite graph: the pair of s and v is node v * 64 + s, bit s of word v.
use mathlib.Core.Logic.Iff
use Rattle.std.specs.Prelude.{ℕ, ◌^◌, ◌≤◌, ◌<◌}
use Rattle.std.proofs.Common.{arith}
use Rattle.graphs.specs.Sets.{Nodes, Below}
use Rattle.meaning.specs.Says.{Says}
use Rattle.meaning.specs.Formula.{Formula, parts}
use Rattle.meaning.specs.Run.{Plant}
use Rattle.words.specs.Truth.{says_and}
use Rattle.words.specs.Tests.{lt_says}
use Rattle.theory.specs.Node.{state_of, values_of}
use Rattle.theory.specs.Node as of_node

module _ (T : Plant) (f : Formula) where
  abbrev valid : Nodes
  valid = of_node.valid T f

  -- which it says
  pub valid_says : (x : ℕ) → Says (valid x) ((state_of x < T.states) × (values_of x < 2 ^ parts f))
  unfolding of_node.valid
  valid_says x = says_and (lt_says (state_of x) T.states) (lt_says (values_of x) (2 ^ parts f))

  -- at most 64 * 64 pairs
  pub valid_below : 2 ^ parts f ≤ 64 → Below 4096 valid
  valid_below few x i =
      let v : values_of x < 2 ^ parts f = ((valid_says x).0 i).1 in
      omega arith
