-- Hexadecimal numbers are read back, whatever their width.
use mathlib.Core.Logic.Iff
use Rattle.std.specs.Prelude.{ℕ, zero, suc, ◌+◌, ◌*◌, ◌/◌, ◌%◌, ◌^◌, ◌≤◌, ◌<◌, ◌≡◌, refl, Bool, true, false, cond, List, [], ◌∷◌, ltb, length, drop, get_or}
use Rattle.std.proofs.Common.{sym, ap, ap₂, ◌∙◌, ⊎_elim, arith, length-append, get_or-drop, add-zero, lt-ltb, ltb-true, eqb-true}
use Rattle.text.specs.Cases.{below_or_beyond}
use Rattle.text.specs.Matched.{first_admits}
use Rattle.text.specs.Slot.{digit, admits, matched, digit_value}
use Rattle.text.specs.Number.{digit_or0, hex_slots, hex_guess}
use Rattle.text.specs.Form.{Form, Reads, both, seen, reads_seen, reads_both, reads_same}

pub digit_small : (b : ℕ) → digit_or0 b < 16
unfolding digit_or0
digit_small b = by_test (ltb (digit_value b) 16) refl
  where
    by_test : (x : Bool) → ltb (digit_value b) 16 ≡ x → cond x (digit_value b) 0 < 16
    by_test true e = ltb-true _ _ e
    by_test false e = omega arith

pub digit_of_lem : (b v : ℕ) → digit_value b ≡ v → v < 16 → digit_or0 b ≡ v
unfolding digit_or0
digit_of_lem b v e h = rw (e, lt-ltb v 16 h)

abbrev pub digit_guess : List ℕ → ℕ
digit_guess s = digit_or0 (get_or s 0 0)

-- one digit
unfoldable pub digit_form : Form ℕ
digit_form = record { Ok = λ v. v < 16; slots = λ v. digit v ∷ []; guess = digit_guess }

pub digit_reads : Reads digit_form
unfolding admits digit_form
digit_reads = record { fine = λ s. digit_small (get_or s 0 0); exact = λ v s h m. is v s h (omega arith); best = best }
  where
    is : (v : ℕ) (s : List ℕ) → v < 16 → 0 < matched s (digit v ∷ []) → digit_guess s ≡ v
    is v s h m = digit_of_lem (get_or s 0 0) v (eqb-true (digit_value (get_or s 0 0)) (v % 16) (first_admits s (digit v) [] m).1 ∙ omega arith) h

    best : (v : ℕ) (s : List ℕ) → v < 16 → matched s (digit v ∷ []) ≤ matched s (digit (digit_guess s) ∷ [])
    best v s h =
        ⊎_elim (λ (m : 0 < matched s (digit v ∷ [])). rw (is v s h m) (omega arith)) (λ (m : matched s (digit v ∷ []) ≤ 0). omega arith)
        (below_or_beyond 0 (matched s (digit v ∷ [])))

pub hex_length : (w n : ℕ) → length (hex_slots w n) ≡ w
unfolding hex_slots
hex_length zero n = refl
hex_length (suc w) n = omega (arith, length-append (hex_slots w (n / 16)) (digit (n % 16) ∷ []), hex_length w (n / 16))

-- a number of w digits
unfoldable pub hex : ℕ → Form ℕ
hex w = record { Ok = λ n. n < 16 ^ w; slots = hex_slots w; guess = hex_guess w }

pub hex_reads : (w : ℕ) → Reads (hex w)
unfolding hex_slots hex_guess hex both seen digit_form
hex_reads zero = record { fine = λ s. omega arith; exact = λ a s ok h. omega arith; best = λ a s ok. omega arith }
hex_reads (suc w) =
    reads_same
    (reads_seen (reads_both (hex_reads w) (λ q ok. digit_reads)) (λ n. n < 16 ^ suc w) (λ p. p.0 * 16 + p.1) (λ n. (n / 16, n % 16)) there back)
    (λ n. Iff.rfl) (λ n. refl) (λ s. ap (λ (k : ℕ). hex_guess w s * 16 + digit_or0 k) (sym (at s)))
  where
    there : (p : ℕ × ℕ) → (p.0 < 16 ^ w) × (p.1 < 16) → (p.0 * 16 + p.1 < 16 ^ suc w) × (((p.0 * 16 + p.1) / 16, (p.0 * 16 + p.1) % 16) ≡ p)
    there p ok = (omega arith, ap₂ (λ (q d : ℕ). (q, d)) (omega arith) (omega arith))

    back : (n : ℕ) → n < 16 ^ suc w → ((n / 16 < 16 ^ w) × (n % 16 < 16)) × (n / 16 * 16 + n % 16 ≡ n)
    back n h = ((omega arith, omega arith), omega arith)

    at : (s : List ℕ) → get_or (drop (length (hex_slots w (hex_guess w s))) s) 0 0 ≡ get_or s w 0
    at s = rw (hex_length, get_or-drop) (ap (λ (k : ℕ). get_or s k 0) (add-zero w))
