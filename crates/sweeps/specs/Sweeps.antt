-- Sets of pairs that sweeps work out: `leave` and `enter` say which states a move may leave and enter, in halves.
use Rattle.std.specs.Prelude.{ℕ, List, get_or}
use Rattle.std.specs.Int.Bits.{bit_and}
use Rattle.words.specs.Word.{without_of}
use Rattle.words.specs.Below.{words_below}
use Rattle.pairs.specs.Sets.{join_of, same_of}
use Rattle.moves.specs.Leading.{leading_via, leading_at, leading_of}
use Rattle.model.specs.Settle.{settle}
use Rattle.model.specs.LiveSet.{meet_of, enough}
use Rattle.leads.specs.Halves.{from_in, to_in}

-- the pairs of p that are not in q
unfoldable pub without_set : List ℕ → List ℕ → List ℕ
without_set p q = words_below 64 (λ v. without_of (get_or p v 0) (get_or q v 0))

module _ (next leave enter : List ℕ) (count : ℕ) where
  -- the states at v with a move into the pairs of the set at w
  abbrev pub via_at : List ℕ → ℕ → ℕ → ℕ
  via_at set v w = leading_via next (from_in leave) (to_in enter) count set v w

  -- the members of `within` at v with a move into the set
  unfoldable pub movers_at : List ℕ → ℕ → ℕ → ℕ
  movers_at set within v = bit_and within (leading_at next (from_in leave) (to_in enter) count set v)

  -- the pairs of `within` with a move into the set
  unfoldable pub movers_of : List ℕ → List ℕ → List ℕ
  movers_of set within = meet_of within (leading_of next (from_in leave) (to_in enter) count set)

  -- one sweep: the set, and the pairs of `within` that are not in it and have a move into it
  unfoldable pub sweep_of : List ℕ → List ℕ → List ℕ
  sweep_of within set = join_of set (movers_of set (without_set within set))

  -- the pairs of `within` that reach the goal within it
  unfoldable pub reaching_of : List ℕ → List ℕ → List ℕ
  reaching_of within goal = settle (sweep_of within) same_of enough (meet_of within goal)
