-- A lasso of nodes that meets every goal makes its first pair live: its states are a fair lasso, and its values are the right ones.
use Rattle.std.specs.Prelude.{ℕ, suc, ◌+◌, ◌%◌, ◌<◌, ◌≡◌, List, map, length, get_or}
use Rattle.std.proofs.Common.{mod-lt, sym, ap, ◌∙◌, ⊎_elim}
use Rattle.std.proofs.Math.Bool.{So}
use Rattle.std.proofs.lemmas.List.{length-map}
use Rattle.meaning.specs.Bit.{bit}
use Rattle.graphs.specs.Lasso.{Ring}
use Rattle.meaning.specs.Formula.{Formula}
use Rattle.meaning.specs.Run.{Plant, Lasso, FairLasso, state_at, label_of, next_of, labels_along}
use Rattle.meaning.specs.Pair.{PairAt, Live}
use Rattle.meaning.specs.Step.{fits, table}
use Rattle.theory.specs.Each.{Each, each_of, each_at, each_imp}
use Rattle.theory.specs.Until.{Again}
use Rattle.theory.specs.Join.{below_or_beyond, in_stem, in_loop}
use Rattle.theory.proofs.Lasting.{lasting}
use Rattle.theory.specs.Node.{node, node_first, node_second, state_of, values_of, valid, edge, settled_at, goals, each_goal}
use Rattle.theory.proofs.Node.{valid_says}
use Rattle.theory.specs.Ring.{ring_first, ring_moves, ring_within, ring_meets, ring_again}
use Rattle.words.specs.Lists.{at_map}
use Rattle.words.specs.Truth.{and_says}

-- a lasso seen through g
abbrev image : (ℕ → ℕ) → Lasso → Lasso
image g K = record { stem = map g K.stem; loop = map g K.loop }

image_at_lem : (g : ℕ → ℕ) (K : Lasso) → 0 < length K.loop → (i : ℕ) → state_at (image g K) i ≡ g (state_at K i)
image_at_lem g K loops i = ⊎_elim stem (λ (j, e). round j e) (below_or_beyond (length K.stem) i)
  where
    stem : i < length K.stem → state_at (image g K) i ≡ g (state_at K i)
    stem lt = in_stem (image g K) i (rw length-map lt) ∙ at_map g K.stem i 0 0 lt ∙ ap g (sym (in_stem K i lt))

    round : (j : ℕ) → i ≡ length K.stem + j → state_at (image g K) i ≡ g (state_at K i)
    round j e =
        let there : state_at (image g K) (length K.stem + j) ≡ get_or (map g K.loop) (j % length K.loop) 0 =
        rw (length-map K.stem g, length-map K.loop g) at (in_loop (image g K) j) in
        rw e (there ∙ at_map g K.loop (j % length K.loop) 0 0 (mod-lt j loops) ∙ ap g (sym (in_loop K j)))

-- the states of a lasso of nodes
abbrev pub ring_states : List ℕ → List ℕ → Lasso
ring_states xs ys = record { stem = map state_of xs; loop = map state_of ys }

module _ (T : Plant) (f : Formula) (s v : ℕ) (low : s < 64) (xs ys : List ℕ) (l : Ring (edge T f) (goals T f) (valid T f) (node s v) xs ys) where
  abbrev K : Lasso
  K = record { stem = xs; loop = ys }

  abbrev L : Lasso
  L = ring_states xs ys

  state : (i : ℕ) → state_at L i ≡ state_of (state_at K i)
  state i = image_at_lem state_of K l.turns.moves i

  steps : (i : ℕ) → So (bit (next_of T (state_of (state_at K i))) (state_of (state_at K (suc i))))
      × So (fits f (label_of T (state_of (state_at K i))) (values_of (state_at K i)) (label_of T (state_of (state_at K (suc i)))) (values_of (state_at K (suc i))))
  steps i = (and_says _ _).0 (ring_moves l i)

  -- the states are a fair lasso
  pub ring_fair : FairLasso T (ring_states xs ys)
  ring_fair = record {
    loops = rw length-map l.turns.moves;
    within = λ i. rw (state i) ((valid_says T f (state_at K i)).0 (ring_within l i)).0;
    moves = λ i. rw (state i, state (suc i)) (steps i).0;
    fair = λ j lt.
        let (i, h, m) = each_at _ 0 T.fair ((each_goal T f _).0 (each_of _ (goals T f) (ring_meets l))).0 j lt in
        (i, rw length-map h, rw (at_map state_of ys i 0 0 h) m);
  }

  settled_again : Each (λ c. Again (λ i. settled_at T c (state_at K i))) (table f 0)
  settled_again = ((each_goal T f (λ g. Again (λ i. g (state_at K i)))).0 (each_of _ (goals T f) (ring_again l))).1

  -- that gives the parts of s and v at its first position
  pub ring_pair : PairAt T f (ring_states xs ys) 0 s v
  ring_pair = record {
    state = state 0 ∙ ap state_of (ring_first l) ∙ node_first s v low;
    gives = rw first at (lasting (labels_along T L) (λ i. values_of (state_at K i)) f (λ i. rw (state i, state (suc i)) (steps i).1)
        (each_imp _ _ (λ c h i. let (j, le, m) = h i in (j, le, rw (state j) m)) (table f 0) settled_again) 0);
    small = rw first at ((valid_says T f (state_at K 0)).0 (ring_within l 0)).1;
  }
    where
      first : values_of (state_at K 0) ≡ v
      first = ap values_of (ring_first l) ∙ node_second s v low

  -- the pair is live by these states
  unfoldable pub ring_live : Live T f s v
  ring_live = record { lasso = ring_states xs ys; walk = ring_fair; pair = ring_pair }
