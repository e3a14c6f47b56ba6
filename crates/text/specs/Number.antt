-- Numbers in a text: hexadecimal of a width, and decimal counts below 100.
use Rattle.std.specs.Prelude.{ℕ, zero, suc, ◌+◌, ◌*◌, ◌/◌, ◌%◌, ◌≤◌, ◌≡◌, Bool, true, false, cond, ◌||◌, List, [], ◌∷◌, ◌++◌, ltb, get_or}
use Rattle.std.proofs.Math.Bool.{So}
use Rattle.std.proofs.Common.{arith}
use Rattle.text.specs.Slot.{Slot, exactly, digit, digit_value}

-- the digit that a byte is, and 0 where it is none
unfoldable pub digit_or0 : ℕ → ℕ
digit_or0 b = cond (ltb (digit_value b) 16) (digit_value b) 0

-- a number in hexadecimal, the digit of highest weight first
unfoldable pub hex_slots : ℕ → ℕ → List Slot
hex_slots zero n = []
hex_slots (suc w) n = hex_slots w (n / 16) ++ (digit (n % 16) ∷ [])

-- the number of w digits that a text begins with
unfoldable pub hex_guess : ℕ → List ℕ → ℕ
hex_guess zero s = 0
hex_guess (suc w) s = hex_guess w s * 16 + digit_or0 (get_or s w 0)

-- how many digits a set of propositions has where there are so many: two, and four where they are more than 8
unfoldable pub width_of : ℕ → ℕ
width_of props = cond (ltb 8 props) 4 2

pub width_between : (props : ℕ) → (2 ≤ width_of props) × (width_of props ≤ 4)
unfolding width_of
width_between props = by_test (ltb 8 props)
  where
    by_test : (b : Bool) → (2 ≤ cond b 4 2) × (cond b 4 2 ≤ 4)
    by_test true = (omega arith, omega arith)
    by_test false = (omega arith, omega arith)

-- a number below 100 in decimal, with no leading zero: its first digit, the slot behind that, and what still follows. `end` is the byte that ends it
unfoldable pub lead_of : ℕ → ℕ
lead_of n = cond (ltb n 10) n (n / 10)

unfoldable pub next_of : ℕ → ℕ → Slot
next_of end n = cond (ltb n 10) (exactly end) (digit (n % 10))

unfoldable pub last_of : ℕ → ℕ → List Slot
last_of end n = cond (ltb n 10) [] (exactly end ∷ [])

-- the slots of such a number and its end
unfoldable pub count_slots : ℕ → ℕ → List Slot
count_slots end n = digit (lead_of n) ∷ next_of end n ∷ last_of end n

-- the count from lo to hi that begins with the digits d and e, or else with d alone; lo where none begins so
unfoldable pub count_of : ℕ → ℕ → ℕ → ℕ → ℕ
count_of lo hi d e =
    cond ((ltb d lo || ltb 9 d) || ltb hi d) lo (cond ((ltb d 1 || ltb 9 e) || ltb hi (d * 10 + e)) d (d * 10 + e))

-- its cases
pub count_none : (lo hi d e : ℕ) → So ((ltb d lo || ltb 9 d) || ltb hi d) → count_of lo hi d e ≡ lo
unfolding count_of
count_none lo hi d e out = rw out

module _ (lo hi d e : ℕ) (one : ((ltb d lo || ltb 9 d) || ltb hi d) ≡ false) where
  pub count_one : So ((ltb d 1 || ltb 9 e) || ltb hi (d * 10 + e)) → count_of lo hi d e ≡ d
  unfolding count_of
  count_one out = rw (one, out)

  pub count_two : ((ltb d 1 || ltb 9 e) || ltb hi (d * 10 + e)) ≡ false → count_of lo hi d e ≡ d * 10 + e
  unfolding count_of
  count_two two = rw (one, two)

-- the count that a text begins with
abbrev pub count_guess : ℕ → ℕ → List ℕ → ℕ
count_guess lo hi s = count_of lo hi (digit_value (get_or s 0 0)) (digit_value (get_or s 1 0))
