-- Going backward over positions.
use Rattle.std.specs.Prelude.{ℕ, zero, suc, Bool}

-- what position i hands on, with d positions from i up to the end: there `end` is handed on, and each position makes of what lies ahead
-- what it hands on itself
unfoldable pub back : (ℕ → Bool → Bool) → Bool → ℕ → ℕ → Bool
back step end zero i = end
back step end (suc d) i = step i (back step end d (suc i))
