-- WHAT IS PROMISED OF THE WORDS OF A SHEET: a sheet that was stored is read back, all zero is the empty one, and nothing is cut off silently.
use Rattle.std.specs.Prelude.{ℕ, zero, suc, ◌+◌, ◌-◌, ◌≤◌, ◌<◌, ◌≡◌, true, false, length, replicate}
use Rattle.std.proofs.Math.Path.{refl, ap₂}
use Rattle.std.proofs.Common.{sym, ◌∙◌}
use Rattle.std.proofs.Math.Bool.{cond}
use mathlib.Core.List.{List}
use native.Mathlib.Omega.{arith}
use Rattle.std.proofs.Math.ListN.{get_or}
use borrow.Author.Tests.{lt-ltb, le-ltb, ne_eqb}
use Rattle.words.specs.Below.{all_below, list_below}
use Rattle.words.specs.Folds.{all_of}
use Rattle.words.specs.Lists.{of_list, list_at, zeros}
use Rattle.answers.specs.declared.Verdict.{Verdict}
use Rattle.answers.specs.declared.Verdict.TheVariants.{Inconclusive, True, False, OutOfModel}
use Rattle.answers.specs.Paper.{number_of}
use Rattle.stretches.specs.declared.Stretch.{Stretch}
use Rattle.stretches.specs.declared.DaySheet.{DaySheet}
use Rattle.stretches.specs.Sheet.{blank, empty_sheet}
use Rattle.day_words.specs.Words.{verdict_of, is_verdict, fits_in, line_in, lines_in, count_in, sheet_in, sheet_word, changed_word, with_sheet}

verdict_back : (v : Verdict) → verdict_of (number_of v) ≡ v
unfolding verdict_of
verdict_back Inconclusive = refl
verdict_back True = refl
verdict_back False = refl
verdict_back OutOfModel = refl

verdict_few : (v : Verdict) → number_of v < 4
verdict_few Inconclusive = omega arith
verdict_few True = omega arith
verdict_few False = omega arith
verdict_few OutOfModel = omega arith

-- ---- a sheet that was stored

module _ (w : List ℕ) (s : DaySheet) where
  word : (p : ℕ) → p < 257 → get_or (with_sheet w s) p 0 ≡ sheet_word s p
  unfolding with_sheet changed_word
  word p l = list_at 260 (changed_word w s) p (omega arith) ∙ rw (lt-ltb p 257 l) refl

  -- the words behind it stay
  pub behind_stay : (p : ℕ) → 257 ≤ p → p < 260 → get_or (with_sheet w s) p 0 ≡ get_or w p 0
  unfolding with_sheet changed_word
  behind_stay p a b = list_at 260 (changed_word w s) p b ∙ rw (le-ltb p 257 a) refl

  first_word : (k : ℕ) → k < 64 → get_or (with_sheet w s) (1 + k) 0 ≡ (get_or s.lines k blank).first
  unfolding sheet_word
  first_word k l =
      let same : 1 + k - 1 ≡ k = omega arith in
      word (1 + k) (omega arith) ∙ rw (ne_eqb (1 + k) 0 (λ e. omega arith), lt-ltb (1 + k) 65 (omega arith), same) refl

  events_word : (k : ℕ) → k < 64 → get_or (with_sheet w s) (65 + k) 0 ≡ (get_or s.lines k blank).events
  unfolding sheet_word
  events_word k l =
      let same : 65 + k - 65 ≡ k = omega arith in
      word (65 + k) (omega arith) ∙ rw (ne_eqb (65 + k) 0 (λ e. omega arith), le-ltb (65 + k) 65 (omega arith), lt-ltb (65 + k) 129 (omega arith), same) refl

  verdict_word_lem : (k : ℕ) → k < 64 → get_or (with_sheet w s) (129 + k) 0 ≡ number_of (get_or s.lines k blank).verdict
  unfolding sheet_word
  verdict_word_lem k l =
      let same : 129 + k - 129 ≡ k = omega arith in
      word (129 + k) (omega arith) ∙ rw (ne_eqb (129 + k) 0 (λ e. omega arith), le-ltb (129 + k) 65 (omega arith), le-ltb (129 + k) 129 (omega arith), lt-ltb (129 + k) 193 (omega arith), same) refl

  decided_word : (k : ℕ) → k < 64 → get_or (with_sheet w s) (193 + k) 0 ≡ (get_or s.lines k blank).decided
  unfolding sheet_word
  decided_word k l =
      let same : 193 + k - 193 ≡ k = omega arith in
      word (193 + k) (omega arith) ∙ rw (ne_eqb (193 + k) 0 (λ e. omega arith), le-ltb (193 + k) 65 (omega arith), le-ltb (193 + k) 129 (omega arith), le-ltb (193 + k) 193 (omega arith), same) refl

  fits : fits_in (with_sheet w s) ≡ true
  unfolding fits_in
  fits = all_of 64 (λ k. is_verdict (get_or (with_sheet w s) (129 + k) 0)) (λ k l. rw (verdict_word_lem k l) (lt-ltb _ 4 (verdict_few (get_or s.lines k blank).verdict)))

  pub stored_back : length s.lines ≡ 64 → sheet_in (with_sheet w s) ≡ s
  unfolding sheet_in count_in lines_in sheet_word
  stored_back long =
      let line : (k : ℕ) → k < 64 → line_in (with_sheet w s) k ≡ get_or s.lines k blank =
      λ k l. rw (first_word k l, events_word k l, verdict_word_lem k l, decided_word k l, verdict_back) refl in
      let lines : list_below 64 (line_in (with_sheet w s)) ≡ s.lines = of_list blank 64 (line_in (with_sheet w s)) s.lines long line in
      let count : cond (fits_in (with_sheet w s)) (get_or (with_sheet w s) 0 0) 65 ≡ s.count = rw fits (word 0 (omega arith)) in
      ap₂ (λ (n : ℕ) (ls : List Stretch). record { count = n; lines = ls }) count lines

-- ---- words that are all zero

pub zero_empty : sheet_in (replicate 260 0) ≡ empty_sheet
unfolding sheet_in count_in lines_in fits_in verdict_of
zero_empty =
    let line : (k : ℕ) → k < 64 → line_in (replicate 260 0) k ≡ get_or (replicate 64 blank) k blank =
    λ k l. rw (zeros 260 (1 + k), zeros 260 (65 + k), zeros 260 (129 + k), zeros 260 (193 + k)) (sym (blanks 64 k)) in
    let lines : list_below 64 (line_in (replicate 260 0)) ≡ replicate 64 blank = of_list blank 64 (line_in (replicate 260 0)) (replicate 64 blank) refl line in
    let fit : all_below 64 (λ k. is_verdict (get_or (replicate {A = ℕ} 260 0) (129 + k) 0)) ≡ true = all_of 64 _ (λ k l. rw (zeros 260 (129 + k)) refl) in
    ap₂ (λ (n : ℕ) (ls : List Stretch). record { count = n; lines = ls }) (rw (fit, zeros 260 0) refl) lines
  where
    blanks : (n k : ℕ) → get_or (replicate n blank) k blank ≡ blank
    blanks zero k = refl
    blanks (suc n) zero = refl
    blanks (suc n) (suc k) = blanks n k

-- ---- nothing is cut off silently: words of which one is no verdict are a sheet that counts too many

pub beyond_counts : (w : List ℕ) → fits_in w ≡ false → 64 < (sheet_in w).count
unfolding sheet_in count_in
beyond_counts w e = rw e (omega arith)
