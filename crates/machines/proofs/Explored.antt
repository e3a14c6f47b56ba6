-- More of specs/Explored. Exploring what steps: rows are its states as first reached. A loop fills the cells place by place, a state not met before gets the next row.
use Prim.Native.Nat.{ℕ, ◌+◌, ◌*◌, ◌/◌, ◌%◌, ◌≤◌, ◌<◌}
use Rattle.std.specs.Prelude.{◌≡◌, length, get_or, set}
use Rattle.std.proofs.Math.Path.{sym, ap}
use Rattle.std.proofs.Common.{◌∙◌, mul-le-mul_right}
use mathlib.Core.List.{List}
use native.Mathlib.Omega.{arith}
use Rattle.std.proofs.Math.Decide.{ℕ_discrete}
use Rattle.machines.specs.Grown.{grown_new}
use Rattle.machines.specs.Explored.{Exploring}
use Rattle.machines.specs.Explored as of_explored

module _ {S : Type 0} {c : ℕ} {step : S → ℕ → S} {opening : S} where
  module _ {state : ℕ → S} {cells : List ℕ} {places rows : ℕ} (exploring : Exploring c step opening state cells places rows) where
    -- a turn: the next state stands at row x, which is one of the rows met or the next
    module _ (room : places < length cells) (left : places < rows * c) (after : ℕ → S) (kept : (r : ℕ) → r < rows → after r ≡ state r)
        (x : ℕ) (next : after x ≡ step (state (places / c)) (places % c)) where
      abbrev moves_on : x ≤ rows → (q : ℕ) → q < places + 1 → after (get_or (set cells places x) q 0) ≡ step (after (q / c)) (q % c)
      moves_on = of_explored.moves_on {S = S} {c = c} {step = step} {opening = opening} {state = state} {cells = cells} {places = places} {rows = rows} exploring room left after kept x next

      pub exploring_new : x ≡ rows → ((r : ℕ) → r < rows → state r ≡ after x → ⊥) → Exploring c step opening after (set cells places x) (places + 1) (rows + 1)
      exploring_new e fresh = record {
        grown = rw e (grown_new exploring.grown room left);
        first = kept 0 exploring.grown.some ∙ exploring.first;
        apart = λ r s a b i. elim (ℕ_discrete r rows) [
          | yes p ↦ elim (ℕ_discrete s rows) [ yes q ↦ omega arith | no q ↦ absurd (fresh s (omega arith) (sym (kept s (omega arith)) ∙ sym i ∙ ap after (p ∙ sym e))) ]
          | no p ↦ elim (ℕ_discrete s rows) [
            | yes q ↦ absurd (fresh r (omega arith) (sym (kept r (omega arith)) ∙ i ∙ ap after (q ∙ sym e)))
            | no q ↦ exploring.apart r s (omega arith) (omega arith) (sym (kept r (omega arith)) ∙ i ∙ kept s (omega arith))
          ]
        ];
        moves = moves_on (omega arith);
        behind = omega (arith, mul-le-mul_right {m = rows} {n = rows + 1} c (omega arith));
      }
