-- More of specs/Made. What is promised of a fixed machine that is made of something that steps.
use Rattle.std.specs.Prelude.{ℕ, ◌+◌, ◌*◌, ◌<◌, ◌≡◌, List, get_or}
use Rattle.std.proofs.Common.{sym, ◌∙◌}
use Rattle.machines.specs.Machine.{Machine, Equal}
use Rattle.machines.specs.Held.{machine_of}
use Rattle.machines.proofs.Unique.{canonical_unique}
use Rattle.machines.specs.Explored.{Exploring}
use Rattle.machines.specs.Joined.{joined}
use Rattle.machines.specs.Bytes.{table_byte, bytes_equal}
use Rattle.machines.proofs.Agrees.{joined_fixed, joined_agrees}
use Rattle.machines.specs.Made.{Made}

module _ {S : Type 0} {c : ℕ} {step : S → ℕ → S} {answer : S → ℕ} {opening : S} {m n : Machine} (made : Made c step answer opening m) where
  -- there is one such machine
  pub made_unique : Made c step answer opening n → Equal c m n
  made_unique other = canonical_unique made.canonical other.canonical (record { after = λ w h. made.agrees w h ∙ sym (other.agrees w h) })

  -- so that its bytes are determined
  pub made_bytes : Made c step answer opening n → (p : ℕ) → p < m.rows * (c + 2) → table_byte c m p ≡ table_byte c n p
  made_bytes other p l = bytes_equal (made_unique other) p l

-- exploring and joining make it
pub joined_made : {S : Type 0} {c : ℕ} {step : S → ℕ → S} {opening : S} {state : ℕ → S} {cells : List ℕ} {rows : ℕ} → Exploring c step opening state cells (rows * c) rows
    → (answer : S → ℕ) (outputs : List ℕ) → ((r : ℕ) → r < rows → get_or outputs r 0 ≡ answer (state r)) → Made c step answer opening (joined c (machine_of outputs cells rows c))
joined_made explored answer outputs told = record {
  canonical = (joined_fixed explored answer outputs told).canonical;
  agrees = joined_agrees explored answer outputs told;
}
