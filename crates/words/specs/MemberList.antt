-- The members of a set, as a list: what an iterator over a set gives.
use Rattle.std.specs.Prelude.{ℕ, zero, suc, List, [], ◌∷◌, bit_and}
use Rattle.words.specs.Lowest.{lowest_of}

-- at most so many of them
abbrev pub members_by : ℕ → ℕ → List ℕ
members_by zero x = []
members_by (suc n) zero = []
members_by (suc n) (suc x) = lowest_of (suc x) ∷ members_by n (bit_and (suc x) x)

-- the members of a set, the lowest first
unfoldable pub members_of : ℕ → List ℕ
members_of x = members_by x x
