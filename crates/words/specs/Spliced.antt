-- A list into which a loop lays other entries, one behind the other from a place on.
use Prim.Native.Nat.{ℕ, zero, suc, ◌+◌, ◌-◌, ◌≤◌, ◌<◌}
use Rattle.std.specs.Prelude.{◌≡◌, cond, ltb, length, get_or}
use Rattle.std.proofs.Math.Path.{refl}
use Rattle.std.proofs.Common.{sym, ap₂, ◌∙◌, arith, get_or-set_same, lt-ltb, le-ltb}
use mathlib.Core.List.{List}
use Rattle.std.proofs.Math.Decide.{ℕ_discrete, dec_lt}
use Rattle.std.proofs.Math.Numerals.{add-one}
use Rattle.std.proofs.Math.ListN.{set, length-set}
use Rattle.std.proofs.Math.Seq.{get_or-set_other}
use Rattle.words.specs.Below.{list_below}
use Rattle.words.specs.Lists.{list_of}

-- the n entries from place b on are f 0, f 1, ..
unfoldable pub spliced : List ℕ → ℕ → (ℕ → ℕ) → ℕ → List ℕ
spliced w b f zero = w
spliced w b f (suc n) = set (spliced w b f n) (b + n) (f n)

-- what then stands at place p
abbrev pub spliced_at : List ℕ → ℕ → (ℕ → ℕ) → ℕ → ℕ → ℕ
spliced_at w b f n p = cond (ltb p b) (get_or w p 0) (cond (ltb p (b + n)) (f (p - b)) (get_or w p 0))

module _ (w : List ℕ) (b : ℕ) (f : ℕ → ℕ) where
  -- before the first turn
  pub spliced_none : w ≡ spliced w b f 0
  unfolding spliced
  spliced_none = refl

  -- a turn as a loop has it: the list is as it should be, and so are the place and the number stored
  pub spliced_turn : (n : ℕ) (l : List ℕ) (x : ℕ) → l ≡ spliced w b f n → x ≡ f n → set l (b + n) x ≡ spliced w b f (n + 1)
  unfolding spliced
  spliced_turn n l x e h = rw add-one (ap₂ (λ (l : List ℕ) (y : ℕ). set l (b + n) y) e h)

  pub length_spliced : (n : ℕ) → length (spliced w b f n) ≡ length w
  unfolding spliced
  length_spliced zero = refl
  length_spliced (suc n) = length-set (spliced w b f n) (b + n) (f n) ∙ length_spliced n

  before : (n p : ℕ) → p < b → get_or (spliced w b f n) p 0 ≡ get_or w p 0
  unfolding spliced
  before zero p l = refl
  before (suc n) p l = get_or-set_other (spliced w b f n) (b + n) p (f n) 0 (λ e. omega arith) ∙ before n p l

  behind : (n p : ℕ) → b + n ≤ p → get_or (spliced w b f n) p 0 ≡ get_or w p 0
  unfolding spliced
  behind zero p l = refl
  behind (suc n) p l = get_or-set_other (spliced w b f n) (b + n) p (f n) 0 (λ e. omega arith) ∙ behind n p (omega arith)

  within : (n k : ℕ) → k < n → b + k < length w → get_or (spliced w b f n) (b + k) 0 ≡ f k
  unfolding spliced
  within zero k l h = absurd (omega arith)
  within (suc n) k l h = elim (ℕ_discrete k n) [
    | yes e ↦ rw e (get_or-set_same (spliced w b f n) (b + n) (f n) 0 (omega (arith, length_spliced n)))
    | no d ↦ get_or-set_other (spliced w b f n) (b + n) (b + k) (f n) 0 (λ e. d (omega arith)) ∙ within n k (omega (arith, d)) h
  ]

  pub spliced_at_lem : (n p : ℕ) → p < length w → get_or (spliced w b f n) p 0 ≡ spliced_at w b f n p
  spliced_at_lem n p l = elim (dec_lt p b) [
    | yes low ↦ rw (lt-ltb p b low) (before n p low)
    | no high ↦ elim (dec_lt p (b + n)) [
      | yes low ↦ rw (le-ltb p b (omega arith), lt-ltb p (b + n) low) (at (p - b) (omega arith) (omega arith))
      | no far ↦ rw (le-ltb p b (omega arith), le-ltb p (b + n) (omega arith)) (behind n p (omega arith))
    ]
  ]
    where
      at : (k : ℕ) → b + k ≡ p → (k < n) → get_or (spliced w b f n) p 0 ≡ f k
      at k e low = rw (← e) (within n k low (omega arith))

  -- after the last turn
  pub spliced_all : (m n : ℕ) → length w ≡ m → spliced w b f n ≡ list_below m (spliced_at w b f n)
  spliced_all m n full =
      sym (list_of m (spliced_at w b f n) (spliced w b f n) (length_spliced n ∙ full) (λ p l. sym (spliced_at_lem n p (omega arith))))
