-- Where a loop can begin: a pair to which all leads back that it leads to.
use Rattle.std.specs.Prelude.{ℕ, ◌<◌, ◌≡◌, refl, ◌↔◌, ◌⊎◌, true, List, length}
use Rattle.std.proofs.Common.{arith, inl, inr, ⊎_elim}
use Rattle.std.proofs.Math.Logic.{⊎_map}
use Rattle.std.proofs.Math.Bool.{So}
use Rattle.words.specs.Below.{count_below}
use Rattle.words.specs.Truth.{so_not_not}
use Rattle.pairs.specs.Sets.{Fit, empty_of}
use Rattle.graphs.specs.Sets.{Nodes, Below, only}
use Rattle.graphs.specs.Walk.{Edges, first_in, last_in, Reach, over, stay}
use Rattle.graphs.specs.Close.{to_iff}
use Rattle.graphs.specs.Rank.{Nearest}
use Rattle.graphs.specs.Sweep.{goes}
use Rattle.graphs.proofs.Sweep.{goes_iff}
use Rattle.graphs.specs.Search.{fewer}
use Rattle.theory.specs.Node.{state_of, values_of}
use Rattle.model.specs.Sets.{nodes_of}
use Rattle.model.specs.LiveSet.{meet_of}
use Rattle.model.specs.Reaching.{meet_says}
use Rattle.sweeps.specs.Sweeps.{without_set}
use Rattle.sweeps.specs.Laws.{without_inside, inside_without}
use Rattle.nearest.specs.Graph.{nodes_below, moves_of}
use Rattle.walk.specs.Ways.{none_in}
use Rattle.walk.specs.Before.{Before, turned_move, turned_reach}

-- by the moves turned round: r is a node of L to which q leads; or it is q, which leads to none
abbrev pub Farther : Edges → Nodes → Nodes → ℕ → ℕ → Type 0
Farther edge Z L q r = ((r ≡ q) × ((y : ℕ) → Reach edge Z y q → ¬ So (L y))) ⊎ (Reach edge Z r q × So (L r))

-- the same by the moves themselves
abbrev pub Onto : Edges → Nodes → Nodes → ℕ → ℕ → Type 0
Onto edge Z L q r = ((r ≡ q) × ((y : ℕ) → Reach edge Z q y → ¬ So (L y))) ⊎ (Reach edge Z q r × So (L r))

pub turned_farther : {next before : List ℕ} → Before next before → (leave enter : List ℕ) (count : ℕ) {Z L : Nodes} {q r : ℕ}
    → Farther (moves_of before enter leave count) Z L q r → Onto (moves_of next leave enter count) Z L q r
turned_farther b leave enter count = ⊎_map
    (λ g. (g.0, λ y w. g.1 y (turned_reach (λ x y. (turned_move b leave enter count x y).1) w)))
    (λ g. (turned_reach (λ x y. (turned_move b leave enter count y x).0) g.0, g.1))

-- what the search from q has in common with the lost
module _ {edge : Edges} {Z : Nodes} {q : ℕ} {rank : ℕ → ℕ} (lost ahead away : List ℕ) (small : Below 4096 Z) (n : Nearest 4096 edge Z (only q) (nodes_of ahead) rank)
    (is : away ≡ meet_of lost ahead) where
  pub farther_none : empty_of away ≡ true → Farther edge Z (nodes_of lost) q q
  farther_none none = inl (
    refl,
    λ y r m.
        let l = small y (first_in r.1) in
        none_in away none y l (rw is ((meet_says lost ahead (state_of y) (values_of y)).1 (omega arith, (m, (to_iff n.closure y).1 r)))),
  )

  pub farther_some : {y : ℕ} → So (nodes_of away y) → Farther edge Z (nodes_of lost) q y
  farther_some {y} i = let (_, (m, a)) = (meet_says lost ahead (state_of y) (values_of y)).0 (rw is at i) in inr ((to_iff n.closure y).0 a, m)

-- x leads to q, and all that q leads to leads back
pub record Knotted (edge : Edges) (Z : Nodes) (x q : ℕ) (C : Nodes) (rank : ℕ → ℕ) : Type 0 where
  pub comes : Reach edge Z x q
  pub near : Nearest 4096 edge Z (only q) C rank
  pub home : (y : ℕ) → Reach edge Z q y → So (C y)

module _ {edge : Edges} {Z : Nodes} {x q : ℕ} {C : Nodes} {rank : ℕ → ℕ} (h : Knotted edge Z x q C rank) where
  -- x is one of those that lead there
  pub knotted_in : So (C x)
  knotted_in = (to_iff h.near.closure x).1 h.comes

  -- the same of q itself
  pub knotted_there : Knotted edge Z q q C rank
  knotted_there = record { comes = stay (last_in h.comes.1); near = h.near; home = h.home }

-- the pairs of z that are not found
without_nodes : (z found : List ℕ) → length z ≡ 64 → Fit found → (x : ℕ) → So (nodes_of (without_set z found) x) ↔ (So (nodes_of z x) × ¬ So (nodes_of found x))
without_nodes z found long fits x = (
  λ i. let (_, _, h, out) = without_inside z found fits (state_of x) (values_of x) i in (h, out),
  λ (i, out). let l = nodes_below z long x i in inside_without z found fits (state_of x) (values_of x) (omega arith) (omega arith) i out,
)

module _ {edge : Edges} (z known lost : List ℕ) (long : length z ≡ 64) (fits : Fit known) (is : lost ≡ without_set z known) {x q : ℕ} {rank : ℕ → ℕ}
    (r : Reach edge (nodes_of z) x q) (n : Nearest 4096 edge (nodes_of z) (only q) (nodes_of known) rank) where
  abbrev Z : Nodes
  Z = nodes_of z

  small : Below 4096 Z
  small = nodes_below z long

  -- a pair is lost that does not lead back
  astray : (y : ℕ) → So (nodes_of lost y) ↔ (So (Z y) × ¬ So (nodes_of known y))
  astray y = rw is (without_nodes z known long fits y)

  -- where q leads to none that is lost, the search is over
  pub knotted : {y : ℕ} → y ≡ q → Onto edge Z (nodes_of lost) q y → Knotted edge Z x q (nodes_of known) rank
  knotted {y} e f = record {
    comes = r;
    near = n;
    home = λ t way. so_not_not (nodes_of known t) (λ out. ⊎_elim
        (λ g. g.1 t way ((astray t).1 (last_in way.1, out)))
        (λ g. ((astray y).0 g.1).1 (rw e ((to_iff n.closure q).1 (stay (last_in r.1))))) f);
  }

  -- else less is reached from where it leads
  module _ {y : ℕ} (d : y ≡ q → ⊥) (f : Onto edge Z (nodes_of lost) q y) where
    way : Reach edge Z q y
    way = ⊎_elim (λ g. absurd (d g.0)) (λ g. g.0) f

    pub knot_on : Reach edge Z x y
    knot_on = over r way

    pub knot_less : count_below 4096 (goes 4096 edge Z y) < count_below 4096 (goes 4096 edge Z q)
    knot_less = fewer 4096 small (goes_iff 4096 edge Z small q) (goes_iff 4096 edge Z small y) ((goes_iff 4096 edge Z small q y).1 way)
        (λ b. ⊎_elim (λ g. d g.0) (λ g. ((astray y).0 g.1).1 ((to_iff n.closure y).1 ((goes_iff 4096 edge Z small y q).0 b))) f)
