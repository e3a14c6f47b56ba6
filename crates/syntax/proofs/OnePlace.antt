-- A text has one place of refusal 5, and one of refusal 6.
use Prim.Native.Nat.{ℕ, suc, ◌+◌, ◌-◌, ◌≤◌, ◌<◌}
use mathlib.Core.Path.{◌≡◌, ap, ◌∙◌}
use mathlib.Core.Logic.{◌⊎◌, inl, inr}
use mathlib.Core.List.{List, ◌++◌, append_assoc}
use native.Mathlib.Omega.{arith}
use lib.ListN.{length, take, drop}
use lib.Seq.{take-add}
use Rattle.syntax.specs.Grammar.{Viable, Refused, Unknown}

-- what begins a text that is begun begins a text
viable_front : (p q : List ℕ) → Viable (p ++ q) → Viable p
viable_front p q v = record { rest = q ++ v.rest; rule = v.rule; says = rw (append_assoc p q v.rest) at v.says }

viable_less : (s : List ℕ) (j k : ℕ) → j ≤ k → Viable (take k s) → Viable (take j s)
viable_less s j k h v =
    let e : k ≡ j + (k - j) = omega arith in
    let t : take k s ≡ take j s ++ take (k - j) (drop j s) = ap (λ n. take n s) e ∙ take-add j (k - j) s in
    viable_front (take j s) (take (k - j) (drop j s)) (rw t at v)

within : (s : List ℕ) (k : ℕ) → Refused s k → k ≤ length s
within s k r = go r.here
  where
    go : (k ≡ length s) ⊎ ((k < length s) × (Viable (take (suc k) s) → ⊥)) → k ≤ length s
    go (inl e) = omega arith
    go (inr h) = let lt = h.0 in omega arith

not_before : (s : List ℕ) (k m : ℕ) → Refused s k → Refused s m → k < m → ⊥
not_before s k m r x lt = go r.here
  where
    go : (k ≡ length s) ⊎ ((k < length s) × (Viable (take (suc k) s) → ⊥)) → ⊥
    go (inl e) = omega (arith, within s m x)
    go (inr h) = h.1 (viable_less s (suc k) m (omega arith) x.before)

same : (k m : ℕ) → (k < m → ⊥) → (m < k → ⊥) → k ≡ m
same k m f g = omega (arith, f, g)

pub one_place : (s : List ℕ) (k m : ℕ) → Refused s k → Refused s m → k ≡ m
one_place s k m r x = same k m (not_before s k m r x) (not_before s m k x r)

not_earlier : (q : ℕ) (s : List ℕ) (k m : ℕ) → Unknown q s k → Unknown q s m → k < m → ⊥
not_earlier q s k m x y lt = omega (arith, x.beyond, y.before k x.which lt x.here)

pub one_unknown : (q : ℕ) (s : List ℕ) (k m : ℕ) → Unknown q s k → Unknown q s m → k ≡ m
one_unknown q s k m x y = same k m (not_earlier q s k m x y) (not_earlier q s m k y x)
