-- Steps of the walk: a pair of a set, the way down the ranks, and the moves that lie open.
use Rattle.std.specs.Prelude.{ℕ, ◌/◌, ◌%◌, ◌^◌, ◌≤◌, ◌<◌, ◌≡◌, refl, ◌↔◌, ◌⊎◌, true, false, List, length, get_or, set, replicate}
use Rattle.std.proofs.Common.{arith, sym, ◌∙◌, ⊎_elim, get_or-set_same, get_or-set_other, eqb-true, eq-eqb}
use Rattle.std.proofs.Math.Decide.{ℕ_discrete}
use Rattle.std.proofs.Math.Bool.{So}
use Rattle.std.proofs.lemmas.Bool.{false≢true}
use Rattle.std.proofs.lemmas.List.{get_or-replicate, length-replicate}
use Rattle.words.specs.Laws.{bit_single, bit_zero}
use Rattle.words.specs.Within.{members_below}
use Rattle.pairs.specs.Sets.{Fit, empty_of, occupied, occupant}
use Rattle.graphs.specs.Sets.{Nodes, Below, only}
use Rattle.graphs.specs.Walk.{Edges}
use Rattle.graphs.specs.Close.{closure_target}
use Rattle.graphs.specs.Rank.{Nearest}
use Rattle.theory.specs.Node.{node, state_of, values_of}
use Rattle.model.specs.Sets.{nodes_of, at_node}
use Rattle.model.specs.LiveSet.{meet_of}
use Rattle.model.specs.Reaching.{meet_says}
use Rattle.nearest.specs.Graph.{nodes_below, moves_by, move_of_lem, onward_of, onward_nodes}
use Rattle.nearest.specs.Ranking.{rank_of}
use Rattle.nearest.specs.Scan.{Lower}
use Rattle.words.specs.Tests.{eq_says}

-- a pair of both sets
pub meet_nodes : (a b : List ℕ) → length b ≡ 64 → (x : ℕ) → So (nodes_of (meet_of a b) x) ↔ (So (nodes_of a x) × So (nodes_of b x))
meet_nodes a b long x = (
  λ e. ((meet_says a b (state_of x) (values_of x)).0 e).1,
  λ (i, j). let l = nodes_below b long x j in (meet_says a b (state_of x) (values_of x)).1 (omega arith, (i, j)),
)

-- y is a pair of the set
pub record Some (set : List ℕ) (y : ℕ) : Type 0 where
  pub small : y < 4096
  pub held : So (nodes_of set y)

-- the ranks fall along some move, down to 0
pub record Slope (edge : Edges) (C : Nodes) (rank : ℕ → ℕ) : Type 0 where
  pub below : Below 4096 C
  pub falls : (x : ℕ) → So (C x) → (rank x ≡ 0) ⊎ ((y : ℕ) × So (edge x y) × So (C y) × (rank y < rank x))

pub record Downhill (edge : Edges) (C : Nodes) (rank : ℕ → ℕ) (x y : ℕ) : Type 0 where
  pub small : y < 4096
  pub moves : So (edge x y)
  pub inside : So (C y)
  pub less : rank y < rank x

pub nearest_slope : {edge : Edges} {Z T C : Nodes} {rank : ℕ → ℕ} → Below 4096 Z → Nearest 4096 edge Z T C rank → Slope edge C rank
nearest_slope small n = record { below = λ x i. small x (n.ranked.inside x i); falls = n.ranked.falls }

pub nearest_target : {edge : Edges} {Z T S C : Nodes} {rank : ℕ → ℕ} → ((x : ℕ) → So (Z x) → So (T x) ↔ So (S x))
    → Nearest 4096 edge Z T C rank → Nearest 4096 edge Z S C rank
nearest_target h n = record {
  closure = closure_target h n.closure;
  ranked = n.ranked;
  ends = λ x e z. (h x (n.ranked.inside x e)).0 (n.ends x e z);
}

-- an empty set has no pair, and another has one
pub none_in : (set : List ℕ) → empty_of set ≡ true → (y : ℕ) → y < 4096 → ¬ So (nodes_of set y)
none_in set none y l i = let w : y / 64 < 64 = omega arith in false≢true (sym (occupied set (y % 64) (y / 64) w i) ∙ none)

pub some_in : (set : List ℕ) → Fit set → empty_of set ≡ false → (y : ℕ) × Some set y
some_in set fits some =
    let (s, v, l, i) = occupant set some in
    let small = (members_below 64 (get_or set v 0)).0 (fits v l) s i in
    (node s v, record { small = omega arith; held = rw (at_node set s v small) i })

-- ---- the set of one pair

unfoldable pub alone_of : ℕ → List ℕ
alone_of x = set (replicate 64 0) (x / 64) (2 ^ (x % 64))

pub alone_nodes : (x k : ℕ) → x < 4096 → k < 4096 → So (nodes_of (alone_of x) k) ↔ So (only x k)
unfolding alone_of
alone_nodes x k lx lk = (λ e. rw (here e) ((eq_says x x).1 refl), λ e. rw ((eq_says k x).0 e) there)
  where
    low : x / 64 < length (replicate {A = ℕ} 64 0)
    low = rw (length-replicate {A = ℕ} 64 0) (omega arith)

    there : So (nodes_of (set (replicate 64 0) (x / 64) (2 ^ (x % 64))) x)
    there = rw (get_or-set_same (replicate {A = ℕ} 64 0) (x / 64) (2 ^ (x % 64)) 0 low, bit_single) (eq-eqb (x % 64) (x % 64) refl)

    here : So (nodes_of (set (replicate 64 0) (x / 64) (2 ^ (x % 64))) k) → k ≡ x
    here e = elim (ℕ_discrete (k / 64) (x / 64)) [
      | yes p ↦ (let q : k % 64 ≡ x % 64 = eqb-true (k % 64) (x % 64) (rw (p, get_or-set_same (replicate {A = ℕ} 64 0) (x / 64) (2 ^ (x % 64)) 0 low, bit_single) at e) in omega arith)
      | no d ↦ (let z : k / 64 < 64 = omega arith in
          absurd (false≢true (sym (bit_zero (k % 64)) ∙ rw (get_or-set_other (replicate {A = ℕ} 64 0) (x / 64) (k / 64) (2 ^ (x % 64)) 0 d, get_or-replicate {A = ℕ} 64 (k / 64) 0 0 z) at e)))
    ]

-- the search for q alone
pub alone_near : (q : ℕ) {edge : Edges} {Z C : Nodes} {rank : ℕ → ℕ} {words : List ℕ} → q < 4096 → Below 4096 Z → words ≡ alone_of q
    → Nearest 4096 edge Z (nodes_of words) C rank → Nearest 4096 edge Z (only q) C rank
alone_near q low small is n = nearest_target (λ x i. rw is (alone_nodes q x low (small x i))) n

-- ---- the moves that lie open

module _ (next : List ℕ) (src dst : ℕ → ℕ → ℕ) (n : ℕ) (few : n ≤ 64) where
  abbrev edge : Edges
  edge = moves_by next src dst n

  module _ (words ranks : List ℕ) (slope : Slope edge (nodes_of words) (rank_of ranks)) (x : ℕ) (i : So (nodes_of words x)) (above : 0 < rank_of ranks x) where
    step : (y : ℕ) × So (edge x y) × So (nodes_of words y) × (rank_of ranks y < rank_of ranks x)
    step = ⊎_elim (λ z. absurd (omega arith)) (λ f. f) (slope.falls x i)

    low : x / 64 < n
    low = (move_of_lem next src dst n x step.0 step.1).from_low

    pub slope_lower : {ways : List ℕ} → ways ≡ onward_of next src dst n words x → (y : ℕ) × Lower ways ranks (rank_of ranks x) y
    slope_lower e = (
      step.0,
      record {
        small = slope.below step.0 step.2;
        held = rw e ((onward_nodes next src dst n few words x step.0 low).1 (step.1, step.2));
        less = step.3;
      },
    )

    pub lower_downhill : {ways : List ℕ} {y : ℕ} → ways ≡ onward_of next src dst n words x → Lower ways ranks (rank_of ranks x) y
        → Downhill edge (nodes_of words) (rank_of ranks) x y
    lower_downhill {y} e l =
        let (m, j) = (onward_nodes next src dst n few words x y low).0 (rw e at l.held) in
        record { small = l.small; moves = m; inside = j; less = l.less }

  module _ (words : List ℕ) (x : ℕ) (low : x / 64 < n) {ways : List ℕ} (is : ways ≡ onward_of next src dst n words x) where
    -- a move into the set is one of those that lie open
    pub open_some : {y : ℕ} → y < 4096 → So (edge x y) → So (nodes_of words y) → Some ways y
    open_some {y} l e i = record { small = l; held = rw is ((onward_nodes next src dst n few words x y low).1 (e, i)) }

    pub some_open : {y : ℕ} → Some ways y → So (edge x y) × So (nodes_of words y)
    some_open {y} s = (onward_nodes next src dst n few words x y low).0 (rw is at s.held)
