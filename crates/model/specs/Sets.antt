-- Sets of the pairs of a table and a rule, as 64 words and as sets of nodes.
use Rattle.std.specs.Prelude.{ℕ, ◌^◌, ◌≤◌, ◌<◌, ◌≡◌, ◌↔◌, false, List, length}
use Rattle.std.proofs.Common.{arith, sym, ◌∙◌, ⊎_elim}
use Rattle.std.proofs.Math.Bool.{So}
use Rattle.std.proofs.lemmas.Bool.{false≢true}
use Rattle.pairs.specs.Sets.{inside, pairs_ext, same_of, equal_same}
use Rattle.graphs.specs.Sets.{Nodes, ◌⊆◌}
use Rattle.graphs.specs.Count.{grown}
use Rattle.words.specs.Below.{count_below}
use Rattle.meaning.specs.Formula.{Formula, parts}
use Rattle.meaning.specs.Run.{Plant}
use Rattle.theory.specs.Node.{node, node_first, node_second, state_of, values_of, valid}
use Rattle.theory.proofs.Node.{valid_says, valid_below}
use Rattle.words.specs.Truth.{so_ext}

-- the words hold pairs of the table's states and the rule's values only: what check 9 leaves of a state or a live set
pub record PairSet (T : Plant) (f : Formula) (Z : List ℕ) : Type 0 where
  pub long : length Z ≡ 64
  pub range : (s v : ℕ) → So (inside Z s v) → (s < T.states) × (v < 2 ^ parts f)

-- the set as a set of nodes
abbrev pub nodes_of : List ℕ → Nodes
nodes_of Z x = inside Z (state_of x) (values_of x)

pub at_node : (Z : List ℕ) (s v : ℕ) → s < 64 → nodes_of Z (node s v) ≡ inside Z s v
at_node Z s v low = rw (node_first s v low, node_second s v low)

module _ {T : Plant} {f : Formula} where
  pub nodes_valid : {Z : List ℕ} → PairSet T f Z → nodes_of Z ⊆ valid T f
  nodes_valid z x i = (valid_says T f x).1 (z.range (state_of x) (values_of x) i)

  module _ (few : T.states ≤ 64) {Y Z : List ℕ} (y : PairSet T f Y) (z : PairSet T f Z) where
    pub node_inside : nodes_of Y ⊆ nodes_of Z → (s v : ℕ) → So (inside Y s v) → So (inside Z s v)
    node_inside h s v i =
        let low : s < 64 = (let k = (y.range s v i).0 in omega arith) in
        rw (at_node Z s v low) at (h (node s v) (rw (at_node Y s v low) i))

    -- sets with the same pairs are equal
    pub sets_ext : ((s v : ℕ) → So (inside Y s v) ↔ So (inside Z s v)) → Y ≡ Z
    sets_ext h = pairs_ext Y Z y.long z.long (λ s v _. so_ext (inside Y s v) (inside Z s v) (h s v).0 (h s v).1)

  module _ (few : T.states ≤ 64) (most : 2 ^ parts f ≤ 64) {Y Z : List ℕ} (y : PairSet T f Y) (z : PairSet T f Z) where
    -- a superset that is not the same has more pairs
    pub set_grown : nodes_of Y ⊆ nodes_of Z → (Y ≡ Z → ⊥) → count_below 4096 (nodes_of Y) < count_below 4096 (nodes_of Z)
    set_grown sub e = ⊎_elim
        (λ back. absurd (e (sets_ext few y z (λ s v. (node_inside few y z sub s v, node_inside few z y back s v)))))
        (λ l. l)
        (grown 4096 sub (λ x i. valid_below T f most x (nodes_valid z x i)))

-- the test of sameness failed
pub differ : {Y Z : List ℕ} → same_of Y Z ≡ false → Y ≡ Z → ⊥
differ {Y} {Z} e p = false≢true (sym e ∙ rw p (equal_same Z))
