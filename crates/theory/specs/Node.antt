-- The pairs of a table and a rule as the nodes of a finite graph: the pair of s and v is node v * 64 + s, bit s of word v.
use mathlib.Core.Logic.Iff
use Rattle.std.specs.Prelude.{ℕ, ◌+◌, ◌*◌, ◌/◌, ◌%◌, ◌^◌, ◌<◌, ◌≡◌, ◌↔◌, ◌&&◌, List, ◌++◌, map, ltb, length}
use Rattle.std.proofs.Common.{arith, length-append}
use Rattle.std.proofs.Math.ListN.{length-map}
use Rattle.meaning.specs.Bit.{bit}
use Rattle.graphs.specs.Sets.{Nodes}
use Rattle.graphs.specs.Walk.{Edges}
use Rattle.meaning.specs.Formula.{Formula, parts}
use Rattle.meaning.specs.Run.{Plant, label_of}
use Rattle.meaning.specs.Step.{Part, table, leads}
use Rattle.theory.specs.Move.{settled}
use Rattle.theory.specs.Each.{Each, each_append, each_map}
use Rattle.theory.specs.Parts.{length_table}

-- the pair of s and v as a node, and back
abbrev pub node : ℕ → ℕ → ℕ
node s v = v * 64 + s

abbrev pub state_of : ℕ → ℕ
state_of x = x % 64

abbrev pub values_of : ℕ → ℕ
values_of x = x / 64

pub node_first : (s v : ℕ) → s < 64 → state_of (node s v) ≡ s
node_first s v low = omega arith

pub node_second : (s v : ℕ) → s < 64 → values_of (node s v) ≡ v
node_second s v low = omega arith

-- the state is in the set J; the part c is settled
abbrev pub in_set : ℕ → Nodes
in_set J x = bit J (state_of x)

-- the part c is settled
abbrev pub settled_at : Plant → Part → Nodes
settled_at T c x = settled c (label_of T (state_of x)) (values_of x)

module _ (T : Plant) (f : Formula) where
  -- the nodes are the pairs of the table's states and the rule's values
  unfoldable pub valid : Nodes
  valid x = ltb (state_of x) T.states && ltb (values_of x) (2 ^ parts f)

  -- a pair leads to a pair
  abbrev pub edge : Edges
  edge x y = leads T f (state_of x) (values_of x) (state_of y) (values_of y)

  -- what a loop has to meet: each fairness set, and each part settled
  unfoldable pub goals : List Nodes
  goals = map in_set T.fair ++ map (settled_at T) (table f 0)

  -- of each goal: of each fairness set, and of each part
  pub each_goal : (P : Nodes → Type 0) → Each P goals ↔ (Each (λ J. P (in_set J)) T.fair × Each (λ c. P (settled_at T c)) (table f 0))
  unfolding goals
  each_goal P =
      Iff.trans (each_append P (map in_set T.fair) (map (settled_at T) (table f 0))) (Iff.and (each_map P in_set T.fair) (each_map P (settled_at T) (table f 0)))

  -- at most 4 and 6 of them
  pub length_goals : length goals ≡ length T.fair + parts f
  unfolding goals
  length_goals = rw (length-append, length-map T.fair, length-map (table f 0), length_table f 0)
