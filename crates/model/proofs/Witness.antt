-- More of specs/Witness. Witnesses: a fair lasso that shows a pair of a set to be live, and what it is behind the walk that led there.
use Rattle.std.specs.Prelude.{ℕ, ◌≤◌, ◌<◌, ◌≡◌, Bool, true, false, List, length}
use Rattle.std.proofs.Common.{arith}
use Rattle.std.proofs.Math.Bool.{So}
use Rattle.std.proofs.lemmas.List.{length-map}
use Rattle.pairs.specs.Sets.{inside, occupied, occupant}
use Rattle.graphs.specs.Lasso.{Ring}
use Rattle.std.proofs.lemmas.Bool.{not-true}
use Rattle.meaning.specs.Says.{Says}
use Rattle.meaning.specs.Formula.{Formula}
use Rattle.meaning.specs.Run.{Plant, Lasso}
use Rattle.meaning.specs.Event.{History, now}
use Rattle.meaning.specs.Pair.{Live}
use Rattle.meaning.specs.Verdict.{Chosen}
use Rattle.meaning.specs.Limits.{AcceptedTable, Small, most_stem, most_loop}
use Rattle.theory.specs.Join.{walk_then}
use Rattle.theory.specs.Node.{node, edge, goals}
use Rattle.theory.proofs.Sound.{ring_states, ring_fair, ring_pair}
use Rattle.theory.proofs.Alive.{valuations_few, live_short}
use Rattle.theory.specs.Witness.{witness_run}
use Rattle.model.specs.LiveSet.{meet_of, live_set}
use Rattle.model.specs.Reaching.{meet_says}
use Rattle.model.specs.Sets.{nodes_of, nodes_valid}
use Rattle.model.proofs.Lives.{live_set_lem, live_says}
use Rattle.model.specs.Monitor.{Monitor, side}
use Rattle.model.proofs.Means.{Means, Begun}
use Rattle.model.specs.Witness.{Witness, has_live, lasso_widen}

module _ (T : Plant) (f : Formula) (A : AcceptedTable T) (small : Small f) where
  -- then there is a witness, and not otherwise
  pub witness_says : (set : List ℕ) → Says (has_live T f set) ((L : Lasso) × Witness T f set L)
  unfolding has_live
  witness_says set = (
    λ e.
        let (s, v, _, i) = occupant (meet_of set (live_set T f)) (not-true _ e) in
        let (_, (h, k)) = (meet_says set (live_set T f) s v).0 i in
        let (l, stem, _, loop) = live_short T f A.few_states small A.few_fair s v ((live_says T f A small s v).0 k) in
        (l.lasso, record { state = s; values = v; held = h; walk = l.walk; pair = l.pair; stem = stem; loop = loop }),
    λ (L, w).
        let l : Live T f w.state w.values = record { lasso = L; walk = w.walk; pair = w.pair } in
        let low : w.values < 64 = (let k = w.pair.small in let p = valuations_few f small in omega arith) in
        rw (occupied (meet_of set (live_set T f)) w.state w.values low
        ((meet_says set (live_set T f) w.state w.values).1 (low, (w.held, (live_says T f A small w.state w.values).1 l)))),
  )

  -- a lasso of pairs, as code walks it in the live set: its states are a witness
  pub ring_witness : (set : List ℕ) (s v : ℕ) (xs ys : List ℕ) → So (inside set s v) → So (inside (live_set T f) s v)
      → Ring (edge T f) (goals T f) (nodes_of (live_set T f)) (node s v) xs ys → length xs ≤ most_stem → length ys ≤ most_loop → Witness T f set (ring_states xs ys)
  ring_witness set s v xs ys held live l stem loop =
      let low : s < 64 = (let h = ((live_set_lem T f A small).range s v live).0 in let k = A.few_states in omega arith) in
      let r = lasso_widen (nodes_valid (live_set_lem T f A small)) l in
      record {
        state = s;
        values = v;
        held = held;
        walk = ring_fair T f s v low xs ys r;
        pair = ring_pair T f s v low xs ys r;
        stem = rw length-map stem;
        loop = rw length-map loop;
      }

  -- after events, some walk that agrees with them leads to the witness, and the one behind the other is a run of that kind
  pub witness_joined : (m : Monitor) (h : History) → Means T f m h → (b : Bool) (L : Lasso) → Witness T f (side m b) L
      → (walk : List ℕ) × (length walk ≡ now h) × Chosen T f b h (walk_then walk L)
  witness_joined m h k b L w =
      witness_run T f b h w.state w.values (marked m.seen k.begun) ((k.says b w.state w.values).0 w.held)
      (record { lasso = L; walk = w.walk; pair = w.pair })
    where
      marked : (seen : Bool) → Begun seen h → h.mark ≤ now h
      marked true begun = omega arith
      marked false begun = rw begun (omega arith)
