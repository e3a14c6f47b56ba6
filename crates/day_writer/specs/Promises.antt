-- What is promised of a sheet's text: how long it is at most. The contract of write_sheet is two equations: it answers `write_answer`, and leaves `write_buffer` in the buffer (Writing).
use Rattle.std.specs.Prelude.{ℕ, zero, suc, ◌+◌, ◌*◌, ◌/◌, ◌%◌, ◌^◌, ◌≤◌, ◌<◌, ◌≡◌, refl, Bool, true, false, cond, List, [], ◌∷◌, ◌++◌, ltb, length, get_or}
use Rattle.std.proofs.Common.{zero-le, arith, eq-or-lt_of_le, ⊎_elim, length-append, ltb-true, ltb-false}
use Rattle.io.specs.Digits.{hex_digit_ascii, last_digits}
use Rattle.answers.specs.declared.Verdict.{Verdict}
use Rattle.answers.specs.declared.Verdict.TheVariants.{Inconclusive, True, False, OutOfModel}
use Rattle.report.specs.Text.{places_from, decimal, word, verdict_key, lf}
use Rattle.stretches.specs.declared.Stretch.{Stretch}
use Rattle.stretches.specs.declared.DaySheet.{DaySheet}
use Rattle.stretches.specs.Sheet.{blank}
use Rattle.day_writer.specs.Text.{first_key, events_key, decided_key, dash, decided_text, field_text, end_text, line_text, lines_text, sheet_text}

-- ---- numbers

length_digits : (b k n : ℕ) → length (last_digits b k n) ≡ k
length_digits b zero n = refl
length_digits b (suc k) n = omega (arith, length-append (last_digits b k (n / b)) (hex_digit_ascii (n % b) ∷ []), length_digits b k (n / b))

any_places : (f k n : ℕ) → places_from f k n ≤ k + f
unfolding places_from
any_places zero k n = omega arith
any_places (suc f) k n = by (ltb n (10 ^ k)) (any_places f (suc k) n)
  where
    by : (b : Bool) → places_from f (suc k) n ≤ suc k + f → cond b k (places_from f (suc k) n) ≤ k + suc f
    by true h = omega arith
    by false h = omega arith

few_places : (f k m n : ℕ) → k ≤ m → n < 10 ^ m → places_from f k n ≤ m
unfolding places_from
few_places zero k m n low holds = low
few_places (suc f) k m n low holds = by (λ more. few_places f (suc k) m n more holds) (ltb n (10 ^ k)) refl
  where
    never : (a b : ℕ) → b ≤ a → a < b → ⊥
    never a b x y = omega arith

    by : (k < m → places_from f (suc k) n ≤ m) → (b : Bool) → ltb n (10 ^ k) ≡ b → places_from (suc f) k n ≤ m
    by on true e = rw e low
    by on false e = rw e (on (⊎_elim (λ same. absurd (never n (10 ^ k) (ltb-false n (10 ^ k) e) (rw (← same) at holds))) (λ more. more) (eq-or-lt_of_le low)))

-- a number has at most 20 digits, and one of 32 bits, or 2 to the 32, at most 10
any_number : (n : ℕ) → length (decimal n) ≤ 20
any_number n = omega (arith, length_digits 10 (places_from 19 1 n) n, any_places 19 1 n)

short_number : (n : ℕ) → n ≤ 2 ^ 32 → length (decimal n) ≤ 10
short_number n low = omega (arith, length_digits 10 (places_from 19 1 n) n, few_places 19 1 10 n (omega arith) (omega arith))

-- ---- lines

short_word : (v : Verdict) → length (word v) ≤ 12
short_word Inconclusive = omega arith
short_word True = omega arith
short_word False = omega arith
short_word OutOfModel = omega arith

short_decided : (d : ℕ) → length (decided_text d) ≤ 10
unfolding decided_text
short_decided d = by (ltb d (2 ^ 32)) refl
  where
    by : (b : Bool) → ltb d (2 ^ 32) ≡ b → length (cond b (decimal d) dash) ≤ 10
    by true e = let low = ltb-true d (2 ^ 32) e in short_number d (omega arith)
    by false e = omega arith

end_length : (v : Verdict) (d : ℕ) → length (end_text v d) ≤ 41
end_length v d =
    omega (
      arith,
      length-append (verdict_key ++ word v ++ decided_key ++ decided_text d) lf,
      length-append (verdict_key ++ word v ++ decided_key) (decided_text d),
      length-append (verdict_key ++ word v) decided_key,
      length-append verdict_key (word v),
      short_word v,
      short_decided d,
    )

line_length_lem : (l : Stretch) → length (line_text l) ≤ 14 + length (decimal l.first) + length (decimal l.events) + 41
line_length_lem l =
    omega (
      arith,
      length-append (field_text first_key l.first ++ field_text events_key l.events) (end_text l.verdict l.decided),
      length-append (field_text first_key l.first) (field_text events_key l.events),
      length-append first_key (decimal l.first),
      length-append events_key (decimal l.events),
      end_length l.verdict l.decided,
    )

-- ---- the text

any_lines : (ls : List Stretch) (k : ℕ) → length (lines_text ls k) ≤ 95 * k
unfolding lines_text
any_lines ls zero = zero-le
any_lines ls (suc k) =
    let l = get_or ls k blank in
    omega (arith, length-append (lines_text ls k) (line_text l), any_lines ls k, line_length_lem l, any_number l.first, any_number l.events)

-- A SHEET'S TEXT, whatever numbers are in it
pub at_most_6080 : (s : DaySheet) → s.count ≤ 64 → length (sheet_text s) ≤ 6080
at_most_6080 s few = omega (arith, any_lines s.lines s.count)

-- the numbers of a line are those of events
pub record Counted (l : Stretch) : Type 0 where
  pub first : l.first < 2 ^ 32
  pub events : l.events ≤ 2 ^ 32

short_lines : (ls : List Stretch) (k : ℕ) → ((i : ℕ) → i < k → Counted (get_or ls i blank)) → length (lines_text ls k) ≤ 75 * k
unfolding lines_text
short_lines ls zero counted = zero-le
short_lines ls (suc k) counted =
    let l = get_or ls k blank in
    let c = counted k (omega arith) in
    let first = c.first in
    omega (arith, length-append (lines_text ls k) (line_text l), short_lines ls k (λ i h. counted i (omega arith)), line_length_lem l, short_number l.first (omega arith), short_number l.events c.events)

-- and one whose numbers are those of events
pub at_most_4800 : (s : DaySheet) → s.count ≤ 64 → ((i : ℕ) → i < s.count → Counted (get_or s.lines i blank)) → length (sheet_text s) ≤ 4800
at_most_4800 s few counted = omega (arith, short_lines s.lines s.count counted)
