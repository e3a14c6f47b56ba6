-- Rounds of sweeps. Goal g is fairness set g, and beyond these part g - length fair settled.
use Rattle.std.specs.Prelude.{ℕ, zero, suc, ◌+◌, ◌-◌, ◌^◌, cond, List, ltb, length, get_or}
use Rattle.words.specs.Below.{words_below}
use Rattle.pairs.specs.Sets.{same_of}
use Rattle.moves.specs.Fit.{entry}
use Rattle.model.specs.Settle.{settle}
use Rattle.model.specs.LiveSet.{enough}
use Rattle.sweeps.specs.Sweeps.{movers_of, reaching_of}

-- the same states at each valuation
unfoldable pub every_of : ℕ → ℕ → List ℕ
every_of count word = words_below count (λ v. word)

-- the pairs that settle part k
unfoldable pub settled_in : ℕ → List ℕ → ℕ → List ℕ
settled_in count settled k = words_below count (λ v. entry settled v k)

unfoldable pub goal_of : List ℕ → ℕ → List ℕ → ℕ → List ℕ
goal_of fair count settled g = cond (ltb g (length fair)) (every_of count (get_or fair g 0)) (settled_in count settled (g - length fair))

-- goal by goal, the pairs that reach it: after g goals
unfoldable pub goals_after : List ℕ → List ℕ → List ℕ → List ℕ → List ℕ → ℕ → List ℕ → ℕ → List ℕ
goals_after fair next leave enter settled count start zero = start
goals_after fair next leave enter settled count start (suc g) =
    reaching_of next leave enter count (goals_after fair next leave enter settled count start g) (goal_of fair count settled g)

module _ (fair next leave enter settled : List ℕ) (parts : ℕ) where
  -- one round: the pairs with a move within the set, and of these those that reach every goal, one after the other
  unfoldable pub round_of : List ℕ → List ℕ
  round_of all = goals_after fair next leave enter settled (2 ^ parts) (movers_of next leave enter (2 ^ parts) all all) (length fair + parts)

  -- round after round, until nothing changes
  unfoldable pub settle_of : List ℕ → List ℕ
  settle_of all = settle round_of same_of enough all

  -- and so from all pairs of a table with so many states
  unfoldable pub lasting_of : ℕ → List ℕ
  lasting_of states = settle_of (every_of (2 ^ parts) (2 ^ states - 1))
