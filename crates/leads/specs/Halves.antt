-- The words of two valuations in halves: entry x * 8 + h of the first 512 words is what the first parts ask by the last digits h of the other
-- valuation, entry 512 + x * 8 + h what the other parts ask by its first digits.
use Rattle.std.specs.Prelude.{ℕ, zero, suc, ◌+◌, ◌-◌, ◌*◌, ◌/◌, ◌%◌, ◌^◌, cond, List, ltb, get_or, set, replicate}
use Rattle.std.specs.Int.Bits.{bit_and}
use Rattle.meaning.specs.Bit.{bit}
use Rattle.words.specs.Below.{shared_below}
use Rattle.pairs.specs.Post.{post_of}
use Rattle.moves.specs.Fit.{entry, agreeing, unfolded}

-- what `many` parts from `first` on ask of the state left, and of the state entered
unfoldable pub fitting_from : ℕ → ℕ → List ℕ → List ℕ → ℕ → ℕ → ℕ
fitting_from first many low high v w = shared_below (2 ^ 64 - 1) many (λ j. agreeing (bit v (first + j)) (unfolded low high v w (first + j)))

unfoldable pub meeting_from : ℕ → ℕ → ℕ → List ℕ → ℕ → ℕ → ℕ
meeting_from first many nexts operand v w =
    shared_below (2 ^ 64 - 1) many (λ j. cond (bit nexts (first + j)) (agreeing (bit v (first + j)) (entry operand w (first + j))) (2 ^ 64 - 1))

-- how many parts the first half has
abbrev pub middle_of : ℕ → ℕ
middle_of parts = cond (ltb parts 3) parts 3

-- 1,024 words after n turns: f i at i, and g i at 512 + i, for each i below n
unfoldable pub halves_after : (ℕ → ℕ) → (ℕ → ℕ) → ℕ → List ℕ
halves_after f g zero = replicate 1024 0
halves_after f g (suc n) = set (set (halves_after f g n) n (f n)) (n + 512) (g n)

-- for v and a half of w: what the parts ask of the state left, `mid` parts in the first half and `rest` in the other
abbrev pub leaving_after : ℕ → ℕ → List ℕ → List ℕ → ℕ → List ℕ
leaving_after mid rest low high =
    halves_after (λ i. fitting_from 0 mid low high (i / 8) (i % 8)) (λ i. fitting_from mid rest low high (i / 8) (i % 8 * 8))

-- for w and a half of v: what they ask of the state entered
abbrev pub entering_after : ℕ → ℕ → ℕ → List ℕ → ℕ → List ℕ
entering_after mid rest nexts operand =
    halves_after (λ i. meeting_from 0 mid nexts operand (i % 8) (i / 8)) (λ i. meeting_from mid rest nexts operand (i % 8 * 8) (i / 8))

unfoldable pub leaving_of : ℕ → List ℕ → List ℕ → List ℕ
leaving_of parts low high = leaving_after (middle_of parts) (parts - middle_of parts) low high 512

unfoldable pub entering_of : ℕ → ℕ → List ℕ → List ℕ
entering_of parts nexts operand = entering_after (middle_of parts) (parts - middle_of parts) nexts operand 512

-- the word of x and y: both halves of y
abbrev pub both_of : List ℕ → ℕ → ℕ → ℕ
both_of halves x y = bit_and (get_or halves (x * 8 + y % 8) 0) (get_or halves (x * 8 + y / 8 + 512) 0)

-- the states that a move from v to w may leave, and those that it may enter
abbrev pub from_in : List ℕ → ℕ → ℕ → ℕ
from_in leave v w = both_of leave v w

abbrev pub to_in : List ℕ → ℕ → ℕ → ℕ
to_in enter v w = both_of enter w v

abbrev pub moved_of : List ℕ → List ℕ → List ℕ → ℕ → ℕ → ℕ → ℕ
moved_of next leave enter held v w = bit_and (post_of next (bit_and held (from_in leave v w))) (to_in enter v w)
