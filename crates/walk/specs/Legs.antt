-- The stretches of the walk: down the ranks to a debt or to where it stays, by way of each debt, and back to where the loop began.
use Rattle.std.specs.Prelude.{ℕ, suc, ◌+◌, ◌*◌, ◌%◌, ◌≤◌, ◌<◌, ◌≡◌, refl, ◌⊎◌, length, set}
use native.Mathlib.Omega.{arith}
use Rattle.std.proofs.Common.{sym}
use Rattle.std.proofs.Math.Bool.{So}
use mathlib.Core.List.{List, [], ◌∷◌, ◌++◌, Memᴰ}
use Rattle.graphs.specs.Sets.{Nodes, only}
use Rattle.graphs.specs.Walk.{Edges, on, done, last_in, walk_on, walk_widen}
use Rattle.graphs.specs.Fair.{Fair}
use Rattle.graphs.specs.Rank.{Nearest}
use Rattle.graphs.specs.Lasso.{Tour, Ring, Trail, trail_start, trail_on, trail_end}
use Rattle.words.specs.Over
use Rattle.walk.specs.Rests.{Resting}
use Rattle.walk.specs.Knots.{Knotted, knotted_in}
use Rattle.walk.specs.Written.{states, Written, written_start, written_on, written_join, written_widen, written_over}
use Rattle.words.specs.Tests.{eq_says}
use Rattle.words.specs.Folds.{count_le}

-- the way from x down to y, where the rank is 0, is written, and is no longer than the rank of x
pub record Led (edge : Edges) (C : Nodes) (rank : ℕ → ℕ) (x y : ℕ) (before now : List ℕ) (at to : ℕ) : Type 0 where
  pub small : y < 4096
  pub inside : So (C y)
  pub ends : rank y ≡ 0
  pub written : Written edge C x y before now at to
  pub short : to ≤ at + rank x

-- a way from x to y, a node of g, is written
pub record Way (edge : Edges) (Z g : Nodes) (x y : ℕ) (before now : List ℕ) (at to : ℕ) : Type 0 where
  pub written : Written edge Z x y before now at to
  pub meets : So (g y)
  pub short : to ≤ at + 4095

-- the loop so far, from q to a, with a node of each debt, k of them
pub record Going (edge : Edges) (debts : List Nodes) (Z : Nodes) (q a : ℕ) (before now : List ℕ) (to k : ℕ) : Type 0 where
  pub written : Written edge Z q a before now 0 to
  pub trail : Trail edge debts Z q a written.nodes
  pub short : to ≤ k * 4095

-- the way from x down to `last` is written, and then its state, which is the loop
pub record Rested (edge : Edges) (C : Nodes) (rank : ℕ → ℕ) (x : ℕ) (before now : List ℕ) (stem turn : ℕ) : Type 0 where
  pub last : ℕ
  pub between : List ℕ
  pub led : Led edge C rank x last before between 0 stem
  pub one : turn ≡ 1
  pub bytes : now ≡ Over.over (states led.written.nodes ++ last % 64 ∷ []) before

-- a loop from q is written at the front
pub record Turned (edge : Edges) (debts : List Nodes) (Z : Nodes) (q : ℕ) (before now : List ℕ) (to : ℕ) : Type 0 where
  pub nodes : List ℕ
  pub tour : Tour edge debts Z q q nodes
  pub count : length nodes ≡ to
  pub bytes : now ≡ Over.over (states nodes) before
  pub short : to ≤ 45056

-- a lasso from a node of A is written: its stem, its loop from the byte after it, and the rest stays
pub record Walked (edge : Edges) (debts : List Nodes) (Z A : Nodes) (before now : List ℕ) (stem turn : ℕ) : Type 0 where
  pub first : ℕ
  pub asked : So (A first)
  pub stem_nodes : List ℕ
  pub turn_nodes : List ℕ
  pub lasso : Ring edge debts Z first stem_nodes turn_nodes
  pub stem_count : length stem_nodes ≡ stem
  pub turn_count : length turn_nodes ≡ turn
  pub stem_short : stem ≤ 4095
  pub turn_short : turn ≤ 45056
  pub bytes : now ≡ Over.over (states stem_nodes ++ states turn_nodes) before

module _ {edge : Edges} {Z : Nodes} where
  pub going_start : {q : ℕ} (now : List ℕ) → So (Z q) → Going edge [] Z q q now now 0 0
  unfolding written_start
  going_start now i = record { written = written_start now 0 i; trail = trail_start i; short = omega arith }

  pub going_in : {debts : List Nodes} {q a : ℕ} {before now : List ℕ} {to k : ℕ} → Going edge debts Z q a before now to k → So (Z a)
  going_in s = last_in (s.written.walks)

  -- a rank is below the number of nodes
  pub near_low : {T C : Nodes} {rank : ℕ → ℕ} → Nearest 4096 edge Z T C rank → (x : ℕ) → So (C x) → rank x ≤ 4095
  near_low {C} n x i = omega (arith, n.ranked.low x i, count_le 4096 C)

  -- where x is of g already, there is nothing to write
  pub way_here : {g : Nodes} {x : ℕ} (now : List ℕ) (at : ℕ) → So (Z x) → So (g x) → Way edge Z g x x now now at at
  way_here now at i m = record { written = written_start now at i; meets = m; short = omega arith }

  pub way_led : {g C : Nodes} {rank : ℕ → ℕ} {x y : ℕ} {before now : List ℕ} {at to : ℕ} → Nearest 4096 edge Z g C rank → So (C x) → Led edge C rank x y before now at to
      → Way edge Z g x y before now at to
  way_led {x} {y} n i e = record {
    written = written_widen n.ranked.inside e.written;
    meets = n.ends y e.inside e.ends;
    short = omega (arith, e.short, near_low n x i);
  }

  pub going_on : {gs hs : List Nodes} {g : Nodes} {q a b : ℕ} {before now later : List ℕ} {to up k : ℕ} → Going edge gs Z q a before now to k
      → Way edge Z g a b now later to up → ((h : Nodes) → Memᴰ h hs → (h ≡ g) ⊎ Memᴰ h gs) → Going edge hs Z q b before later up (suc k)
  unfolding written_join
  going_on s e new = record {
    written = written_join s.written e.written;
    trail = trail_on s.trail e.written.walks e.meets new;
    short = omega (arith, s.short, e.short);
  }

  -- a move leads on from the end of the walk, to where all leads back
  pub turn_on : {debts : List Nodes} {q a : ℕ} {before now : List ℕ} {to k : ℕ} {C : Nodes} {rank : ℕ → ℕ} → Fair edge debts Z → Knotted edge Z q q C rank
      → Going edge debts Z q a before now to k → (y : ℕ) × So (edge a y) × So (C y)
  turn_on fair h s = let (y, e, j) = (fair _ (going_in s)).moves in (y, e, h.home y (_, walk_on s.written.walks e j))

  -- one move more, and back to q
  pub turn_end : {debts : List Nodes} {q a y b : ℕ} {before now later : List ℕ} {to up k : ℕ} {C : Nodes} {rank : ℕ → ℕ}
      → Going edge debts Z q a before now to k → k ≤ 10 → So (edge a y) → So (C y) → to < length now → Nearest 4096 edge Z (only q) C rank
      → Led edge C rank y b (set now to (a % 64)) later (to + 1) up → Turned edge debts Z q before later up
  unfolding written_start written_on written_join written_widen
  turn_end {q} {a} {y} {b} {now} {to} {up} {C} {rank} s few d i l n e =
      let p : b ≡ q = (eq_says _ _).0 (n.ends b e.inside e.ends) in
      let v = written_widen n.ranked.inside (rw p at e.written) in
      let w = written_join (written_on (written_start now to (going_in s)) d (n.ranked.inside y i) l) v in
      let u = written_join s.written w in
      record {
        nodes = u.nodes;
        tour = trail_end {ys = w.nodes} s.trail w.walks (omega arith);
        count = omega (arith, u.count);
        bytes = written_over u;
        short = omega (arith, s.short, e.short, near_low n y i);
      }

  -- the stem down to the knot, and the loop from there
  pub walked_far : {debts : List Nodes} {x q b : ℕ} {C : Nodes} {rank : ℕ → ℕ} {before now old new later : List ℕ} {stem turn : ℕ} → Knotted edge Z x q C rank
      → (e : Led edge C rank x b before now 0 stem) (t : Turned edge debts Z q old new turn)
      → later ≡ Over.over (states e.written.nodes ++ states t.nodes) before → Walked edge debts Z (only x) before later stem turn
  walked_far {x} {q} {b} h e t is =
      let n = h.near in
      let p : b ≡ q = (eq_says _ _).0 (n.ends b e.inside e.ends) in
      record {
        first = x;
        asked = (eq_says x x).1 refl;
        stem_nodes = e.written.nodes;
        turn_nodes = t.nodes;
        lasso = record { knot = q; comes = walk_widen n.ranked.inside (rw p at e.written.walks); turns = t.tour };
        stem_count = omega (arith, e.written.count);
        turn_count = t.count;
        stem_short = omega (arith, e.short, near_low n x (knotted_in h));
        turn_short = t.short;
        bytes = is;
      }

  module _ {debts : List Nodes} {A : Nodes} (x : ℕ) (held : So (A x)) where
    -- a lasso from x is one from a node of A
    pub walked_from : {before now : List ℕ} {stem turn : ℕ} → Walked edge debts Z (only x) before now stem turn → Walked edge debts Z A before now stem turn
    walked_from w = record {
      first = w.first;
      asked = rw ((eq_says w.first x).0 w.asked) held;
      stem_nodes = w.stem_nodes;
      turn_nodes = w.turn_nodes;
      lasso = w.lasso;
      stem_count = w.stem_count;
      turn_count = w.turn_count;
      stem_short = w.stem_short;
      turn_short = w.turn_short;
      bytes = w.bytes;
    }

    -- the stem down to where it stays
    pub walked_rest : {C : Nodes} {rank : ℕ → ℕ} {before now : List ℕ} {stem turn : ℕ} → Resting edge debts Z C rank → So (C x)
        → Rested edge C rank x before now stem turn → Walked edge debts Z A before now stem turn
    walked_rest h i r =
        let n = h.near in
        let e = r.led in
        let q = r.last in
        let goal = n.ends q e.inside e.ends in
        let live = n.ranked.inside q e.inside in
        record {
          first = x;
          asked = held;
          stem_nodes = e.written.nodes;
          turn_nodes = q ∷ [];
          lasso = record {
            knot = q;
            comes = walk_widen n.ranked.inside e.written.walks;
            turns = record { walks = on live (h.rests.moves q goal) (done live); moves = omega arith; meets = λ g m. (q, h.rests.meets q goal g m, Memᴰ.head refl) };
          };
          stem_count = omega (arith, e.written.count);
          turn_count = sym r.one;
          stem_short = omega (arith, e.short, near_low n x i);
          turn_short = omega (arith, r.one);
          bytes = r.bytes;
        }
