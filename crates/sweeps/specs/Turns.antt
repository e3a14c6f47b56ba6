-- Each round drops pairs until it drops none.
use Prim.Native.Nat.{ℕ, zero, suc, ◌+◌, ◌-◌, ◌^◌, ◌<◌}
use Rattle.std.proofs.Common.{arith, add-one, ⊎_elim}
use Rattle.std.specs.Prelude.{◌≡◌, true, false, List, length, get_or}
use Rattle.std.proofs.Math.Bool.{So}
use Rattle.words.specs.Folds.{count_le}
use Rattle.words.specs.Lists.{entry_inside, length_words}
use Rattle.words.specs.Within.{members_below}
use Rattle.words.specs.Truth.{so_ext}
use Rattle.pairs.specs.Sets.{Words, inside, length_join, pairs_ext, same_of}
use Rattle.moves.specs.Leading.{leading_of}
use Rattle.graphs.specs.Count.{grown}
use Rattle.theory.specs.Node.{node, state_of, values_of}
use Rattle.model.specs.Sets.{nodes_of, at_node, differ}
use Rattle.model.specs.LiveSet.{meet_of, enough}
use Rattle.model.specs.Reaching.{meet_says}
use Rattle.leads.specs.Halves.{from_in, to_in}
use Rattle.model.specs.Settle.{settle_keeps, Settling, settling_start, settling_more, settling_end}
use Rattle.sweeps.specs.Sweeps.{movers_of, sweep_of, reaching_of}
use Rattle.sweeps.specs.Laws.{pairs_in, reaching_inside}
use Rattle.sweeps.specs.Rounds.{goal_of, goals_after, round_of, settle_of}

-- a smaller set of words has fewer pairs
pub fewer : (Y Z : List ℕ) → length Y ≡ 64 → Words Z → ((s v : ℕ) → So (inside Y s v) → So (inside Z s v)) → same_of Y Z ≡ false → pairs_in Y < pairs_in Z
fewer Y Z long z sub e = ⊎_elim
    (λ back. absurd (differ e (pairs_ext Y Z long z.long (λ s v l. so_ext (inside Y s v) (inside Z s v) (sub s v) (λ i.
    let low = (members_below 64 (get_or Z v 0)).0 (z.fits v l) s i in
    rw (at_node Y s v low) at (back (node s v) (rw (at_node Z s v low) i)))))))
    (λ l. l)
    (grown 4096 (λ x. sub (state_of x) (values_of x)) (λ x i. let h = entry_inside Z (values_of x) (state_of x) i in let k = z.long in omega arith))

-- and is one of words
within_words : (Y Z : List ℕ) → length Y ≡ 64 → Words Z → ((s v : ℕ) → So (inside Y s v) → So (inside Z s v)) → Words Y
within_words Y Z long z sub = record {
  long = long;
  fits = λ v l. (members_below 64 (get_or Y v 0)).1 (λ s i. (members_below 64 (get_or Z v 0)).0 (z.fits v l) s (sub s v i));
}

reaching_long : (next leave enter : List ℕ) (count : ℕ) (within goal : List ℕ) → length (reaching_of next leave enter count within goal) ≡ 64
unfolding reaching_of sweep_of meet_of
reaching_long next leave enter count within goal =
    settle_keeps (sweep_of next leave enter count within) same_of (λ B. length B ≡ 64) (λ B _. length_join B _) enough (meet_of within goal) (length_words 64 _)

module _ (fair next leave enter settled : List ℕ) (parts : ℕ) where
  module _ (count : ℕ) (start : List ℕ) where
    -- a goal more
    pub goals_turn : (g : ℕ) (set goal found : List ℕ) → set ≡ goals_after fair next leave enter settled count start g → goal ≡ goal_of fair count settled g
        → found ≡ reaching_of next leave enter count set goal → found ≡ goals_after fair next leave enter settled count start (g + 1)
    unfolding goals_after
    goals_turn g set goal found e h r = rw (add-one, ← e, ← h) r

    goals_long : (g : ℕ) → length start ≡ 64 → length (goals_after fair next leave enter settled count start g) ≡ 64
    unfolding goals_after
    goals_long zero long = long
    goals_long (suc g) long = reaching_long next leave enter count (goals_after fair next leave enter settled count start g) (goal_of fair count settled g)

    goals_inside : (g s v : ℕ) → So (inside (goals_after fair next leave enter settled count start g) s v) → So (inside start s v)
    unfolding goals_after
    goals_inside zero s v i = i
    goals_inside (suc g) s v i = goals_inside g s v (reaching_inside next leave enter count _ _ s v i)

  abbrev round : List ℕ → List ℕ
  round = round_of fair next leave enter settled parts

  round_long : (Z : List ℕ) → length (round Z) ≡ 64
  unfolding round_of movers_of meet_of
  round_long Z = goals_long (2 ^ parts) _ (length fair + parts) (length_words 64 _)

  round_inside : (Z : List ℕ) (s v : ℕ) → So (inside (round Z) s v) → So (inside Z s v)
  unfolding round_of movers_of
  round_inside Z s v i = ((meet_says Z (leading_of next (from_in leave) (to_in enter) (2 ^ parts) Z) s v).0 (goals_inside (2 ^ parts) _ (length fair + parts) s v i)).1.0

  -- ---- the loop of rounds

  abbrev pub Rounding : List ℕ → List ℕ → Type 0
  Rounding all = Settling round same_of (λ Z. 4096 - pairs_in Z) 4096 enough all

  pub rounding_start : (all : List ℕ) → Rounding all all
  rounding_start all = settling_start _ _ _ 4096 enough all (omega arith)

  module _ (set less : List ℕ) (words : Words set) (is : less ≡ round set) where
    drops : same_of less set ≡ false → pairs_in (round set) < pairs_in set
    drops e = fewer (round set) set (round_long set) words (round_inside set) (rw is at e)

    pub rounding_words : Words less
    rounding_words = rw is (within_words (round set) set (round_long set) words (round_inside set))

    pub rounding_less : same_of less set ≡ false → pairs_in less < pairs_in set
    rounding_less e = rw is (drops e)

    module _ (all : List ℕ) (k : Rounding all set) where
      pub rounding_more : same_of less set ≡ false → Rounding all less
      rounding_more e = rw is (settling_more _ _ _ _ _ _ set k (omega arith) (rw is at e) (omega (arith, drops e, count_le 4096 (nodes_of set))))

      pub rounding_end : same_of less set ≡ true → set ≡ settle_of fair next leave enter settled parts all
      unfolding settle_of
      rounding_end e = settling_end _ _ _ _ _ _ set k (omega arith) (rw is at e)
