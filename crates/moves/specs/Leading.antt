-- The pairs with a move into a set of pairs. A move from (s, v) to (t, w) is allowed where s is in src v w, t in next s, and t in dst v w.
use Rattle.std.specs.Prelude.{ℕ, List, get_or}
use Rattle.std.specs.Int.Bits.{bit_and}
use Rattle.words.specs.Below.{union_below, words_below}
use Rattle.moves.specs.Back.{pre_of}

module _ (next : List ℕ) (src dst : ℕ → ℕ → ℕ) (n : ℕ) where
  -- the states at v with a move into the pairs of the set at w
  abbrev pub leading_via : List ℕ → ℕ → ℕ → ℕ
  leading_via set v w = bit_and (pre_of next (bit_and (get_or set w 0) (dst v w))) (src v w)

  -- into its pairs at any valuation below n
  unfoldable pub leading_at : List ℕ → ℕ → ℕ
  leading_at set v = union_below n (leading_via set v)

  unfoldable pub leading_of : List ℕ → List ℕ
  leading_of set = words_below n (leading_at set)
