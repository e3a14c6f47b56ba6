-- What a loop has to meet, one debt after another: first each fairness set, then each part settled.
use Prim.Native.Nat.{ℕ, zero, suc, ◌<◌}
use native.Mathlib.Omega.{arith}
use Rattle.std.proofs.Math.Decide.{ℕ_discrete}
use Rattle.std.specs.Prelude.{◌≡◌}
use Rattle.std.proofs.Common.{ap}
use Rattle.std.proofs.Math.Logic.{⊎_elim}
use mathlib.Core.List.Memᴰ
use mathlib.Core.List.{List, [], ◌∷◌, Memᴰ}
use Rattle.graphs.specs.Sets.{Nodes}
use Rattle.model.specs.Sets.{nodes_of}
use Rattle.sweeps.specs.Rounds.{goal_of}

module _ (fair : List ℕ) (count : ℕ) (settled : List ℕ) where
  -- the pairs that meet debt k
  abbrev pub debt_nodes : ℕ → Nodes
  debt_nodes k = nodes_of (goal_of fair count settled k)

  -- the first n debts
  unfoldable pub debts_to : ℕ → List Nodes
  debts_to zero = []
  debts_to (suc k) = debt_nodes k ∷ debts_to k

  pub debt_in : (n k : ℕ) → k < n → Memᴰ (debt_nodes k) (debts_to n)
  unfolding debts_to
  debt_in zero k l = absurd (omega arith)
  debt_in (suc n) k l = elim (ℕ_discrete k n) [
    | yes p ↦ Memᴰ.head (ap debt_nodes p)
    | no d ↦ Memᴰ.tail (debt_in n k (omega arith))
  ]

  -- a member of the debts is one of them
  pub in_debts : (n : ℕ) {h : Nodes} → Memᴰ h (debts_to n) → (k : ℕ) × (k < n) × (h ≡ debt_nodes k)
  unfolding debts_to
  in_debts zero m = absurd (Memᴰ.not-nil m)
  in_debts (suc n) m = ⊎_elim (λ p. (n, omega arith, p)) (λ m. let (k, l, p) = in_debts n m in (k, omega arith, p)) (Memᴰ.cases_cons m)
