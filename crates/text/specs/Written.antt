-- What is written into slots fits them.
use Rattle.std.specs.Prelude.{ℕ, zero, suc, ◌+◌, ◌%◌, ◌≤◌, ◌<◌, ◌≡◌, refl, Bool, true, false, cond, List, [], ◌∷◌, ◌++◌, map, ltb, length, take, drop}
use Rattle.std.proofs.Common.{zero-le, ap, arith, lt-ltb, le-ltb, ltb-true, ltb-false, eq-eqb, eqb-true}
use Rattle.text.specs.Cases.{if_below}
use Rattle.text.specs.Slot.{Slot, exactly, digit, admits, written, matched, digit_value, digit_byte}

-- a digit that is written is read back
pub digit_back : (v : ℕ) → v < 16 → digit_value (digit_byte v) ≡ v
unfolding digit_value digit_byte
digit_back v h = by_test (ltb v 10) refl
  where
    by_test : (x : Bool) → ltb v 10 ≡ x → digit_value (cond x (v + 48) (v + 87)) ≡ v
    by_test true e = let l = ltb-true v 10 e in rw (le-ltb (v + 48) 48 (omega arith), lt-ltb (v + 48) 58 (omega arith)) (omega arith)
    by_test false e =
        let l = ltb-false v 10 e in
        rw (le-ltb (v + 87) 48 (omega arith), le-ltb (v + 87) 58 (omega arith), le-ltb (v + 87) 65 (omega arith), le-ltb (v + 87) 71 (omega arith), le-ltb (v + 87) 97 (omega arith), lt-ltb (v + 87) 103 (omega arith)) (omega arith)

pub written_fits : (t : Slot) → admits t (written t) ≡ true
unfolding admits written
written_fits (exactly x) = eq-eqb x x refl
written_fits (digit n) = eq-eqb _ _ (digit_back (n % 16) (omega arith))

-- the text that is written into slots
abbrev pub text_of : List Slot → List ℕ
text_of ts = map written ts

-- as far as a text fits, it can be gone on with, to all of the slots
pub written_rest : (i : ℕ) (s : List ℕ) (ts : List Slot) → i ≤ matched s ts → matched (take i s ++ text_of (drop i ts)) ts ≡ length ts
unfolding matched
written_rest zero s [] h = on_none s
  where
    on_none : (s : List ℕ) → matched [] [] ≡ 0
    on_none s = refl
written_rest zero s (t ∷ ts) h = rw (written_fits t) (ap suc (written_rest zero [] ts zero-le))
written_rest (suc i) [] ts h = absurd (omega arith)
written_rest (suc i) (b ∷ s) [] h = absurd (omega arith)
written_rest (suc i) (b ∷ s) (t ∷ ts) h = by_test (admits t b) h (written_rest i s ts)
  where
    by_test :
        (x : Bool) → suc i ≤ cond x (suc (matched s ts)) 0 → (i ≤ matched s ts → matched (take i s ++ text_of (drop i ts)) ts ≡ length ts)
        → cond x (suc (matched (take i s ++ text_of (drop i ts)) ts)) 0 ≡ suc (length ts)
    by_test true l h = ap suc (h (omega arith))
    by_test false l h = absurd (omega arith)

-- ---- the digits of a text made small

-- a byte as it is written into a slot that admits it: the digit of the same value
unfoldable pub small : Slot → ℕ → ℕ
small (exactly x) b = b
small (digit n) b = digit_byte (digit_value b)

-- the same of a text
unfoldable pub small_of : List Slot → List ℕ → List ℕ
small_of [] s = s
small_of (t ∷ ts) [] = []
small_of (t ∷ ts) (b ∷ s) = small t b ∷ small_of ts s

pub admits_small : (t : Slot) (b : ℕ) → admits t b ≡ true → small t b ≡ written t
unfolding admits written small
admits_small (exactly x) b h = eqb-true b x h
admits_small (digit n) b h = ap digit_byte (eqb-true (digit_value b) (n % 16) h)

-- what is no digit is not made one
digit_same : (v w : ℕ) → w < 16 → digit_byte v ≡ digit_byte w → v ≡ w
unfolding digit_byte
digit_same v w h =
    if_below v 10 (λ x. x ≡ digit_byte w → v ≡ w) (v + 48) (v + 87)
    (λ l. if_below w 10 (λ y. v + 48 ≡ y → v ≡ w) (w + 48) (w + 87) (λ m e. omega arith) (λ m e. absurd (omega arith)))
    (λ l. if_below w 10 (λ y. v + 87 ≡ y → v ≡ w) (w + 48) (w + 87) (λ m e. absurd (omega arith)) (λ m e. omega arith))

pub small_admits : (t : Slot) (b : ℕ) → small t b ≡ written t → admits t b ≡ true
unfolding admits written small
small_admits (exactly x) b h = eq-eqb b x h
small_admits (digit n) b h = eq-eqb (digit_value b) (n % 16) (digit_same (digit_value b) (n % 16) (omega arith) h)
