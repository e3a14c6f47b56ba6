-- What the walk found over the tables is: a witness. And what the search asks of the live set holds for the live set worked out.
use mathlib.Core.Logic.Iff
use Rattle.std.specs.Prelude.{ℕ, ◌+◌, ◌-◌, ◌/◌, ◌%◌, ◌^◌, ◌≤◌, ◌<◌, ◌≡◌, ◌↔◌, true}
use native.Mathlib.Omega.{arith}
use Rattle.std.proofs.Math.Decide.{dec_lt}
use Rattle.std.proofs.Common.{sym, subst}
use Rattle.std.proofs.Math.Bool.{So}
use mathlib.Core.List.{List, ◌++◌, Memᴰ}
use Rattle.std.proofs.Math.ListN.{length, get_or}
use Rattle.std.proofs.lemmas.List.{length-map}
use borrow.Author.Tests.{lt-ltb, le-ltb}
use Rattle.meaning.specs.Bit.{bit}
use Rattle.meaning.specs.Formula.{Formula, parts}
use Rattle.meaning.specs.Run.{Plant, Lasso}
use Rattle.meaning.specs.Limits.{AcceptedTable, Small}
use Rattle.pairs.specs.Sets.{occupant, inside_words}
use Rattle.moves.specs.Fit.{entry}
use Rattle.graphs.specs.Sets.{Nodes, ◌⊆◌}
use Rattle.graphs.specs.Walk.{Edges, first_in, last_in, Walk, walk_in, walk_along}
use Rattle.theory.specs.Node.{node, state_of, values_of, in_set, settled_at, valid, edge, goals, each_goal}
use Rattle.theory.proofs.Node.{valid_says}
use Rattle.graphs.specs.Core.{LiveNode, Keeps, live_stays}
use Rattle.graphs.specs.Fair.{Fair}
use Rattle.graphs.specs.Lasso.{Ring}
use Rattle.std.proofs.lemmas.Bool.{not-true}
use Rattle.meaning.specs.Step.{next_part, table}
use Rattle.theory.specs.Move.{settled}
use Rattle.theory.specs.Parts.{part_of, length_table}
use Rattle.theory.specs.Each.{each_member, each_of, each_at, each_places}
use Rattle.theory.proofs.Sound.{ring_states}
use Rattle.theory.proofs.Alive.{live_iff, valuations_few}
use Rattle.model.specs.LiveSet.{meet_of, live_set}
use Rattle.model.specs.Sets.{nodes_of, nodes_valid, at_node}
use Rattle.model.specs.Reaching.{meet_says}
use Rattle.model.specs.Moves.{from, to, leads_says}
use Rattle.model.specs.Tables.{Rows}
use Rattle.model.proofs.Lives.{live_set_lem, live_says}
use Rattle.model.specs.Witness.{Witness, has_live}
use Rattle.model.proofs.Witness.{ring_witness}
use Rattle.leads.specs.Halves.{from_in, to_in}
use Rattle.sweeps.specs.Rounds.{every_of, settled_in, goal_of}
use Rattle.nearest.specs.Graph.{moves_of, move_of_lem, of_move}
use Rattle.words.specs.Over.{over}
use Rattle.walk.specs.Debts.{debt_nodes, debts_to, debt_in, in_debts}
use Rattle.walk.specs.Legs.{Walked}

-- the bytes of a witness stand at the front of the buffer: its stem, its loop from the byte after it; the rest is as before
pub record Shows (T : Plant) (f : Formula) (asked before now : List ℕ) (stem turn : ℕ) : Type 0 where
  pub lasso : Lasso
  pub witness : Witness T f asked lasso
  pub stem_is : length lasso.stem ≡ stem
  pub turn_is : length lasso.loop ≡ turn
  pub bytes : now ≡ over (lasso.stem ++ lasso.loop) before

-- a node is that of its own pair
node_of : (x : ℕ) → node (state_of x) (values_of x) ≡ x
node_of x = omega arith

-- the halves are the moves of the rule, at the table's states
pub record RightHalves (T : Plant) (f : Formula) (leave enter : List ℕ) : Type 0 where
  pub leaves : (v w s : ℕ) → v < 2 ^ parts f → w < 2 ^ parts f → s < T.states → bit (from_in leave v w) s ≡ bit (from T f v w) s
  pub enters : (v w t : ℕ) → v < 2 ^ parts f → w < 2 ^ parts f → t < T.states → bit (to_in enter v w) t ≡ bit (to T f v w) t

-- T is the plant, f the rule, and rows are the settled states of its parts
module _ (T : Plant) (f : Formula) (A : AcceptedTable T) (small : Small f) (leave enter rows : List ℕ) (h : RightHalves T f leave enter) (d : Rows T f rows settled) where
  abbrev n : ℕ
  n = 2 ^ parts f

  abbrev moves : Edges
  moves = moves_of T.next leave enter n

  abbrev count : ℕ
  count = length T.fair + parts f

  abbrev debts : List Nodes
  debts = debts_to T.fair n rows count

  abbrev Z : Nodes
  Z = nodes_of (live_set T f)

  in_valid : Z ⊆ valid T f
  in_valid = nodes_valid (live_set_lem T f A small)

  -- the moves of the tables are those of the rule
  same_moves : (a b : ℕ) → So (valid T f a) → So (valid T f b) → So (moves a b) ↔ So (edge T f a b)
  same_moves a b i j =
      let (ls, lv) = (valid_says T f a).0 i in
      let (lt, lw) = (valid_says T f b).0 j in
      let leaves = h.leaves (a / 64) (b / 64) (a % 64) lv lw ls in
      let enters = h.enters (a / 64) (b / 64) (b % 64) lv lw lt in
      let says = leads_says T f (a / 64) (b / 64) (a % 64) (b % 64) ls lt in (
        λ e. let m = move_of_lem _ _ _ _ a b e in says.1 (rw leaves at m.leaves, m.allowed, rw enters at m.enters),
        λ e. let (l, n, t) = says.0 e in
            of_move _ _ _ _ a b (record { from_low = lv; to_low = lw; leaves = rw leaves l; allowed = n; enters = rw enters t }),
      )

  -- debt k as a goal
  abbrev Is : ℕ → Nodes → Type 0
  Is k g = (y : ℕ) → So (valid T f y) → debt_nodes T.fair n rows k y ≡ g y

  few : n ≤ 64
  few = valuations_few f small

  fair_is : (k : ℕ) → k < length T.fair → Is k (in_set (get_or T.fair k 0))
  unfolding goal_of every_of
  fair_is k l y i =
      rw (lt-ltb k (length T.fair) l, inside_words n (λ v. get_or T.fair k 0) few (state_of y) (values_of y), lt-ltb (values_of y) n ((valid_says T f y).0 i).1)

  part_is : (k : ℕ) → k < parts f → Is (length T.fair + k) (settled_at T (part_of f k))
  unfolding goal_of settled_in
  part_is k l y i =
      let (ls, lv) = (valid_says T f y).0 i in
      let e : length T.fair + k - length T.fair ≡ k = omega arith in
      rw (le-ltb (length T.fair + k) (length T.fair) (omega arith), e, inside_words n (λ v. entry rows v k) few (state_of y) (values_of y), lt-ltb (values_of y) n lv)
      (d.holds (values_of y) k (state_of y) lv l ls)

  goal_debt : (g : Nodes) → Memᴰ g (goals T f) → (k : ℕ) × (k < count) × Is k g
  goal_debt g m = each_member P m ((each_goal T f P).1 (
    each_places (λ J. P (in_set J)) 0 T.fair (λ k l. (k, omega arith, fair_is k l)),
    each_places (λ c. P (settled_at T c)) (next_part 0 (λ l v. true)) (table f 0)
        (λ k l. let low : k < parts f = rw (length_table f 0) at l in (length T.fair + k, omega arith, part_is k low)),
  ))
    where
      P : Nodes → Type 0
      P g = (k : ℕ) × (k < count) × Is k g

  debt_goal : (k : ℕ) → k < count → (g : Nodes) × Memᴰ g (goals T f) × Is k g
  debt_goal k l =
      let (fairs, others) = (each_goal T f (λ g. Memᴰ g (goals T f))).0 (each_of (λ g. Memᴰ g (goals T f)) (goals T f) (λ g m. m)) in
      elim (dec_lt k (length T.fair)) [
        | yes h ↦ (in_set (get_or T.fair k 0), each_at (λ J. Memᴰ (in_set J) (goals T f)) 0 T.fair fairs k h, fair_is k h)
        | no h ↦ (let r = k - length T.fair in
            let low : r < parts f = omega arith in
            let e : length T.fair + r ≡ k = omega arith in
            let here : r < length (table f 0) = rw (length_table f 0) low in (
              settled_at T (part_of f r),
              each_at (λ c. Memᴰ (settled_at T c) (goals T f)) (next_part 0 (λ l v. true)) (table f 0) others r here,
              rw e at (part_is r low),
            ))
      ]

  -- every live pair has a move to a live pair, and reaches every goal among them
  edge_fair : Fair (edge T f) (goals T f) Z
  edge_fair y i = live_stays keeps ((live y).0 i)
    where
      live : (y : ℕ) → So (Z y) ↔ LiveNode (edge T f) (goals T f) (valid T f) y
      live y =
          let low : y % 64 < 64 = omega arith in
          let says = live_says T f A small (y % 64) (y / 64) in
          let iff = live_iff T f A.few_states small (y % 64) (y / 64) low in
          rw (node_of y) at (Iff.trans says iff)

      keeps : Keeps (edge T f) (goals T f) (valid T f) Z
      keeps y l = (live y).1 l

  -- what the search requires
  pub live_fair : Fair moves debts Z
  live_fair y i =
      let s = edge_fair y i in
      let (z, e, j) = s.moves in
      record {
        moves = (z, (same_moves y z (in_valid y i) (in_valid z j)).1 e, j);
        meets = λ g' m.
            let (k, l, is) = in_debts T.fair n rows count m in
            let (g, t, same) = debt_goal k l in
            let (r, met, (steps, way)) = s.meets g t in
            (r, subst (λ (g : Nodes). So (g r)) (sym is) (rw (same r (in_valid r (last_in way))) met), (steps, walk_along (λ a b i j e. (same_moves a b (in_valid a i) (in_valid b j)).1 e) way));
      }

  pub live_asked : (asked : List ℕ) → So (has_live T f asked) → (y : ℕ) × (So (nodes_of asked y) × So (Z y))
  unfolding has_live
  live_asked asked e =
      let (s, v, _, i) = occupant (meet_of asked (live_set T f)) (not-true _ e) in
      let (_, (h, k)) = (meet_says asked (live_set T f) s v).0 i in
      let low : s < 64 = (let h = ((live_set_lem T f A small).range s v k).0 in let k = A.few_states in omega arith) in
      (node s v, (rw (at_node asked s v low) h, rw (at_node (live_set T f) s v low) k))

  along : {a b : ℕ} {ys : List ℕ} → Walk moves Z a ys b → Walk (edge T f) Z a ys b
  along w = walk_along (λ a b i j e. (same_moves a b (in_valid a i) (in_valid b j)).0 e) w

  -- and what it gives
  pub walked_shows : {asked before now : List ℕ} {stem turn : ℕ} → Walked moves debts Z (nodes_of asked) before now stem turn → Shows T f asked before now stem turn
  walked_shows {asked} w =
      let l = w.lasso in
      let lasso : Ring (edge T f) (goals T f) Z w.first w.stem_nodes w.turn_nodes = record {
        knot = l.knot;
        comes = along l.comes;
        turns = record {
          walks = along l.turns.walks;
          moves = l.turns.moves;
          meets = λ g m.
              let (k, low, same) = goal_debt g m in
              let (r, met, on) = l.turns.meets (debt_nodes T.fair n rows k) (debt_in T.fair n rows count k low) in
              (r, rw (same r (in_valid r (walk_in l.turns.walks on))) at met, on);
        };
      } in
      record {
        lasso = ring_states w.stem_nodes w.turn_nodes;
        witness = ring_witness T f A small asked (w.first % 64) (w.first / 64) w.stem_nodes w.turn_nodes w.asked (first_in (l.comes))
            (subst (λ (y : ℕ). Ring (edge T f) (goals T f) Z y w.stem_nodes w.turn_nodes) (sym (node_of w.first)) lasso)
            (omega (arith, w.stem_count, w.stem_short)) (omega (arith, w.turn_count, w.turn_short));
        stem_is = rw length-map w.stem_count;
        turn_is = rw length-map w.turn_count;
        bytes = w.bytes;
      }
