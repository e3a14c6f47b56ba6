-- The states of a list.
use Rattle.std.specs.Prelude.{ℕ, ◌+◌, ◌*◌, ◌-◌, Bool, cond, List, [], ◌∷◌, eqb, ltb, length, take, drop}
use Rattle.report_text.specs.declared.Part.{Part}

-- the bytes of a part of the text, where it fits
unfoldable pub part_of : Part → List ℕ → List ℕ
part_of p s = cond (ltb (length s) p.upto) [] (cond (ltb p.upto p.from) [] (take (p.upto - p.from) (drop p.from s)))

-- a number with one digit more; no state is over 254
unfoldable pub with_digit : ℕ → ℕ → ℕ
with_digit n b = let more = n * 10 + (b - 48) in cond (ltb 255 more) 255 more

-- a comma ends a number
abbrev pub ends : ℕ → Bool
ends b = eqb b 44

unfoldable pub grown : ℕ → ℕ → ℕ
grown n b = cond (ends b) 0 (with_digit n b)

-- the states of a list, of which the first begins with the digits of n
unfoldable pub states_from : ℕ → List ℕ → List ℕ
states_from n [] = n ∷ []
states_from n (b ∷ s) = cond (ends b) (n ∷ states_from 0 s) (states_from (with_digit n b) s)

unfoldable pub states_of : List ℕ → List ℕ
states_of [] = []
states_of (b ∷ s) = states_from 0 (b ∷ s)
