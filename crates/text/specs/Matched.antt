-- The laws of `matched`.
use Rattle.std.specs.Prelude.{ℕ, suc, ◌+◌, ◌≤◌, ◌<◌, ◌≡◌, refl, Bool, true, false, cond, List, [], ◌∷◌, ◌++◌, length, drop, get_or}
use Rattle.std.proofs.Common.{zero-le, ap, arith, ⊎_elim, eq-or-lt_of_le, length-append}
use Rattle.text.specs.Slot.{Slot, admits, matched}

pub matched_text : (s : List ℕ) (ts : List Slot) → matched s ts ≤ length s
unfolding matched
matched_text [] ts = zero-le
matched_text (b ∷ s) [] = zero-le
matched_text (b ∷ s) (t ∷ ts) = by_test (admits t b) (matched_text s ts)
  where
    by_test : (x : Bool) → matched s ts ≤ length s → cond x (suc (matched s ts)) 0 ≤ suc (length s)
    by_test true h = omega arith
    by_test false h = zero-le

pub matched_slots : (s : List ℕ) (ts : List Slot) → matched s ts ≤ length ts
unfolding matched
matched_slots [] ts = zero-le
matched_slots (b ∷ s) [] = zero-le
matched_slots (b ∷ s) (t ∷ ts) = by_test (admits t b) (matched_slots s ts)
  where
    by_test : (x : Bool) → matched s ts ≤ length ts → cond x (suc (matched s ts)) 0 ≤ suc (length ts)
    by_test true h = omega arith
    by_test false h = zero-le

-- where all of the first slots fit, the others are met by the rest of the text
pub matched_all : (s : List ℕ) (ts us : List Slot) → matched s ts ≡ length ts → matched s (ts ++ us) ≡ length ts + matched (drop (length ts) s) us
unfolding matched
matched_all s [] us h = omega arith
matched_all [] (t ∷ ts) us h = absurd (omega arith)
matched_all (b ∷ s) (t ∷ ts) us h = by_test (admits t b) h (matched_all s ts us)
  where
    by_test :
        (x : Bool) → cond x (suc (matched s ts)) 0 ≡ suc (length ts)
        → (matched s ts ≡ length ts → matched s (ts ++ us) ≡ length ts + matched (drop (length ts) s) us)
        → cond x (suc (matched s (ts ++ us))) 0 ≡ suc (length ts) + matched (drop (length ts) s) us
    by_test true e h = let i = h (omega arith) in omega arith
    by_test false e h = absurd (omega arith)

-- where not all of them fit, the others play no part
pub matched_less : (s : List ℕ) (ts us : List Slot) → matched s ts < length ts → matched s (ts ++ us) ≡ matched s ts
unfolding matched
matched_less s [] us h = absurd (omega arith)
matched_less [] (t ∷ ts) us h = refl
matched_less (b ∷ s) (t ∷ ts) us h = by_test (admits t b) h (matched_less s ts us)
  where
    by_test :
        (x : Bool) → cond x (suc (matched s ts)) 0 < suc (length ts) → (matched s ts < length ts → matched s (ts ++ us) ≡ matched s ts)
        → cond x (suc (matched s (ts ++ us))) 0 ≡ cond x (suc (matched s ts)) 0
    by_test true l h = ap suc (h (omega arith))
    by_test false l h = refl

pub matched_more : (s : List ℕ) (ts us : List Slot) → matched s ts ≤ matched s (ts ++ us)
matched_more s ts us =
    ⊎_elim (λ (e : matched s ts ≡ length ts). omega (arith, matched_all s ts us e)) (λ (l : matched s ts < length ts). omega (arith, matched_less s ts us l))
    (eq-or-lt_of_le (matched_slots s ts))

-- where all fit, all of both parts do
pub matched_both :
    (s : List ℕ) (ts us : List Slot) → matched s (ts ++ us) ≡ length (ts ++ us)
    → (matched s ts ≡ length ts) × (matched (drop (length ts) s) us ≡ length us)
matched_both s ts us h =
    ⊎_elim (λ (e : matched s ts ≡ length ts). (e, omega (arith, matched_all s ts us e, length-append ts us)))
    (λ (l : matched s ts < length ts). absurd (omega (arith, matched_less s ts us l, length-append ts us))) (eq-or-lt_of_le (matched_slots s ts))

-- what fits goes on to fit where more follows
pub matched_longer : (s r : List ℕ) (ts : List Slot) → matched s ts ≡ length ts → matched (s ++ r) ts ≡ length ts
unfolding matched
matched_longer [] r [] h = omega (arith, matched_slots r [])
matched_longer [] r (t ∷ ts) h = absurd (omega arith)
matched_longer (b ∷ s) r [] h = refl
matched_longer (b ∷ s) r (t ∷ ts) h = by_test (admits t b) h (matched_longer s r ts)
  where
    by_test : (x : Bool) → cond x (suc (matched s ts)) 0 ≡ suc (length ts) → (matched s ts ≡ length ts → matched (s ++ r) ts ≡ length ts)
        → cond x (suc (matched (s ++ r) ts)) 0 ≡ suc (length ts)
    by_test true e h = ap suc (h (omega arith))
    by_test false e h = absurd (omega arith)

-- ---- the first byte

pub first_admits : (s : List ℕ) (t : Slot) (ts : List Slot) → 0 < matched s (t ∷ ts) → (0 < length s) × (admits t (get_or s 0 0) ≡ true)
unfolding matched
first_admits [] t ts h = absurd (omega arith)
first_admits (b ∷ s) t ts h = (omega arith, by_test (admits t b) h)
  where
    by_test : (x : Bool) → 0 < cond x (suc (matched s ts)) 0 → x ≡ true
    by_test true h = refl
    by_test false h = absurd (omega arith)

pub admits_first : (s : List ℕ) (t : Slot) (ts : List Slot) → 0 < length s → admits t (get_or s 0 0) ≡ true → matched s (t ∷ ts) ≡ suc (matched (drop 1 s) ts)
unfolding matched
admits_first [] t ts h e = absurd (omega arith)
admits_first (b ∷ s) t ts h e = rw e
