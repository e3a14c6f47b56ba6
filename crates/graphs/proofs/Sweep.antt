-- More of specs/Sweep. The closure computed: N - 1 sweeps are enough, since each but the last finds a node. So N - 1 steps are enough for any walk.
use mathlib.Core.Logic.Iff
use Prim.Native.Nat.{ℕ, zero, suc, pred, ◌≤◌, ◌<◌}
use Rattle.std.specs.Prelude.{refl, ◌↔◌, ◌⊎◌, length}
use Rattle.std.proofs.Math.Logic.{inl, inr, ⊎_elim, ⊎_map}
use Rattle.std.proofs.Math.Bool.{So}
use mathlib.Core.List.{List, [], ◌∷◌}
use native.Mathlib.Omega.{arith}
use Rattle.words.specs.Truth.{says_itself, says_and, says_or, and_says}
use Rattle.words.specs.Tests.{eq_says}
use Rattle.words.specs.Below.{count_below}
use Rattle.words.specs.Folds.{any_says, count_le}
use Rattle.graphs.specs.Sets.{Nodes, ◌⊆◌, Below, only}
use Rattle.graphs.specs.Count.{count_pos, grown, comes_to_rest}
use Rattle.graphs.specs.Walk.{Edges, Walk, done, on, last_in, Reach, Meets}
use Rattle.graphs.specs.Close.{Closure, closure_iff, to_iff}
use Rattle.graphs.specs.Sweep as of_sweep

module _ (N : ℕ) (edge : Edges) where
  abbrev enters : Nodes → Nodes
  enters = of_sweep.enters N edge

  enters_iff : (C : Nodes) → Below N C → (x : ℕ) → So (enters C x) ↔ ((y : ℕ) × So (edge x y) × So (C y))
  unfolding of_sweep.enters
  enters_iff C small x = Iff.trans (any_says _ _ (λ y. and_says (edge x y) (C y)) N)
      (λ (y, _, (e, c)). (y, e, c), λ (y, e, c). (y, small y c, (e, c)))

  module _ (Z T : Nodes) where
    abbrev turns : ℕ → Nodes
    turns = of_sweep.turns N edge Z T

    abbrev close : Nodes
    close = of_sweep.close N edge Z T

    turns_in : (r : ℕ) → turns r ⊆ Z
    unfolding of_sweep.turns
    turns_in zero x e = ((and_says (Z x) (T x)).0 e).0
    turns_in (suc r) x e = ((and_says (Z x) _).0 e).0

    module _ (small : Below N Z) where
      turns_below : (r : ℕ) → Below N (turns r)
      turns_below r x e = small x (turns_in r x e)

      turn_iff : (r x : ℕ) → So (turns (suc r) x) ↔ (So (Z x) × (So (turns r x) ⊎ ((y : ℕ) × So (edge x y) × So (turns r y))))
      unfolding of_sweep.turns
      turn_iff r x = says_and (says_itself (Z x)) (says_or (says_itself (turns r x)) (enters_iff (turns r) (turns_below r) x))

      found : (r : ℕ) {x t : ℕ} {xs : List ℕ} → length xs ≤ r → So (T t) → Walk edge Z x xs t → So (turns r x)
      unfolding of_sweep.turns
      found zero l e (done {a} i) = (and_says (Z a) (T a)).1 (i, e)
      found zero l e (on i d w) = absurd (omega arith)
      found (suc r) l e (done {a} i) = (turn_iff r a).1 (i, inl (found r (omega arith) e (done i)))
      found (suc r) l e (on {a} {b} i d w) = (turn_iff r a).1 (i, inr (b, d, found r (omega arith) e w))

      walk_of : (r x : ℕ) → So (turns r x) → (t : ℕ) × (xs : List ℕ) × (length xs ≤ r) × So (T t) × Walk edge Z x xs t
      unfolding of_sweep.turns
      walk_of zero x e = let f = (and_says (Z x) (T x)).0 e in (x, [], omega arith, f.1, done f.0)
      walk_of (suc r) x e = let f = (turn_iff r x).0 e in ⊎_elim
          (λ g. let w = walk_of r x g in (w.0, w.1, omega (arith, w.2), w.3, w.4))
          (λ g. let w = walk_of r g.0 g.2 in (w.0, x ∷ w.1, omega (arith, w.2), w.3, on f.0 g.1 w.4)) f.1

      abbrev Still : ℕ → Type 0
      Still = of_sweep.Still N edge Z T small

      still : Still (pred N)
      still x e =
          let w = walk_of (suc (pred N)) x e in
          let z : w.0 < N = small w.0 (last_in w.4) in
          let t : 0 < count_below N (turns 0) = count_pos N (turns 0) w.0 z (found 0 (omega arith) w.3 (done (last_in w.4))) in
          comes_to_rest {Still = Still} (λ r. count_below N (turns r)) N
          (λ r. grown N (λ y f. let v = walk_of r y f in found (suc r) (omega (arith, v.2)) v.3 v.4) (turns_below (suc r)))
          (λ r s y f. let g = (turn_iff (suc r) y).0 f in (turn_iff r y).1 (g.0, ⊎_map (s y) (λ h. (h.0, h.1, s h.0 h.2)) g.1))
          (λ r. count_le N (turns r)) (pred N) (omega arith) x e

      close_closure : Closure edge Z T close
      unfolding of_sweep.close
      close_closure = record {
        part = record {
          inside = turns_in (pred N);
          targets = λ x i e. found (pred N) (omega arith) e (done i);
          sound = λ x e. let w = walk_of (pred N) x e in (w.0, w.3, (w.1, w.4));
        };
        back = λ x y i d e. let w = walk_of (pred N) y e in still x (found (suc (pred N)) (omega (arith, w.2)) w.3 (on i d w.4));
      }

      -- a walk to T need take no more than N - 1 steps
      short : {x : ℕ} → Meets edge Z T x → (t : ℕ) × (xs : List ℕ) × (length xs < N) × So (T t) × Walk edge Z x xs t
      unfolding of_sweep.close
      short {x} m =
          let w = walk_of (pred N) x ((closure_iff close_closure x).1 m) in
          let l : w.0 < N = small w.0 (last_in w.4) in
          (w.0, w.1, omega (arith, l, w.2), w.3, w.4)

  module _ (Z : Nodes) where
    abbrev goes : ℕ → Nodes
    goes = of_sweep.goes N edge Z

    module _ (small : Below N Z) where
      pub goes_iff : (a b : ℕ) → So (goes a b) ↔ Reach edge Z a b
      unfolding of_sweep.goes
      goes_iff a b = to_iff (close_closure Z (only b) small) a

      -- what is reached is reached in less than N steps
      pub short_reach : {a b : ℕ} → Reach edge Z a b → (xs : List ℕ) × (length xs < N) × Walk edge Z a xs b
      short_reach {b} r = let w = short Z (only b) small (b, (eq_says b b).1 refl, r) in (w.1, w.2, rw ((eq_says w.0 b).0 w.3) at w.4)
