-- Witnesses: a fair lasso that shows a pair of a set to be live, and what it is behind the walk that led there.
use Rattle.std.specs.Prelude.{ℕ, ◌≤◌, Bool, not, List, length}
use Rattle.std.proofs.Math.Bool.{So}
use Rattle.pairs.specs.Sets.{inside, empty_of}
use Rattle.graphs.specs.Sets.{Nodes, ◌⊆◌}
use Rattle.graphs.specs.Walk.{Edges, walk_widen}
use Rattle.graphs.specs.Lasso.{Ring}
use Rattle.meaning.specs.Formula.{Formula}
use Rattle.meaning.specs.Run.{Plant, Lasso, FairLasso}
use Rattle.meaning.specs.Pair.{PairAt}
use Rattle.meaning.specs.Limits.{most_stem, most_loop}
use Rattle.theory.specs.Node.{edge, goals}
use Rattle.model.specs.LiveSet.{meet_of, live_set}

-- what the call writes: a lasso within the bounds, by which some pair of the set is live
pub record Witness (T : Plant) (f : Formula) (set : List ℕ) (L : Lasso) : Type 0 where
  pub state : ℕ
  pub values : ℕ
  pub held : So (inside set state values)
  pub walk : FairLasso T L
  pub pair : PairAt T f L 0 state values
  pub stem : length L.stem ≤ most_stem
  pub loop : length L.loop ≤ most_loop

-- whether the set has a live pair: where it has none, the call refuses with 13
unfoldable pub has_live : Plant → Formula → List ℕ → Bool
has_live T f set = not (empty_of (meet_of set (live_set T f)))

pub lasso_widen : {edge : Edges} {goals : List Nodes} {Y Z : Nodes} {x : ℕ} {xs ys : List ℕ} → Y ⊆ Z → Ring edge goals Y x xs ys → Ring edge goals Z x xs ys
lasso_widen h l = record {
  knot = l.knot;
  comes = walk_widen h l.comes;
  turns = record { walks = walk_widen h l.turns.walks; moves = l.turns.moves; meets = l.turns.meets };
}
