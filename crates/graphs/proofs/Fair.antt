-- More of specs/Fair. The live nodes as the largest set in which every node has an edge and reaches every goal (Emerson and Lei).
use Rattle.std.specs.Prelude.{ℕ, zero, suc, ◌<◌, ◌↔◌, ◌⊎◌, ◌&&◌, not, List}
use Rattle.std.proofs.Common.{inl, inr, ⊎_elim, arith}
use Rattle.std.proofs.Math.Bool.{So}
use Rattle.words.specs.Truth.{so_not_not, says_dec, says_not, says_and}
use Rattle.words.specs.Below.{count_below}
use Rattle.words.specs.Folds.{any_says}
use Rattle.graphs.specs.Sets.{Nodes, Below}
use Rattle.graphs.specs.Walk.{Edges, last_in, Reach, stay}
use Rattle.graphs.specs.Sweep.{goes}
use Rattle.graphs.proofs.Sweep.{goes_iff}
use Rattle.graphs.specs.Search.{fewer}
use Rattle.graphs.specs.Core.{Core, LiveNode, live_over, live_widen}
use Rattle.graphs.specs.Fair.{Fair, Lives, home}

module _ (N : ℕ) {edge : Edges} {goals : List Nodes} {Z : Nodes} (small : Below N Z) (fair : Fair edge goals Z) where
  reach : (a b : ℕ) → So (goes N edge Z a b) ↔ Reach edge Z a b
  reach = goes_iff N edge Z small

  -- one step of the search: x is a core, or leads to a node from which less is reached
  pub descend : (x : ℕ) → So (Z x) → Core edge goals Z x ⊎ ((y : ℕ) × Reach edge Z x y × (count_below N (goes N edge Z y) < count_below N (goes N edge Z x)))
  descend x i = elim (says_dec (any_says (λ y. goes N edge Z x y && not (goes N edge Z y x)) _
      (λ y. says_and (reach x y) (says_not (reach y x))) N)) [
        | yes (y, _, (r, o)) ↦ inr (y, r, fewer N small (reach x) (reach y) ((reach x y).1 r) (λ e. o ((reach y x).0 e)))
        | no d ↦ inl (home fair i λ y r. (reach y x).0 (so_not_not (goes N edge Z y x) λ o. d (y, small y (last_in r.1), (r, λ e. o ((reach y x).1 e)))))
      ]

  down : (k x : ℕ) → count_below N (goes N edge Z x) < k → So (Z x) → LiveNode edge goals Z x
  down zero x l i = absurd (omega arith)
  down (suc k) x l i = ⊎_elim (λ c. (x, stay i, c)) (λ w. live_over w.1 (down k w.0 (omega arith) (last_in w.1.1))) (descend x i)

  -- every node of a fair set is live in it
  pub fair_live : (x : ℕ) → So (Z x) → LiveNode edge goals Z x
  fair_live x i = down (suc (count_below N (goes N edge Z x))) x (omega arith) i

module _ (N : ℕ) {edge : Edges} {goals : List Nodes} {W : Nodes} (small : Below N W) where
  -- the characterisation: membership is being live
  pub lives_iff : {Z : Nodes} → Lives edge goals W Z → (x : ℕ) → So (Z x) ↔ LiveNode edge goals W x
  lives_iff c x = (λ i. live_widen c.inside (fair_live N (λ y j. small y (c.inside y j)) c.fair x i), c.keeps x)
