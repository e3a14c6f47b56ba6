-- More of specs/Lines. A line for each lamp, with the number of its event, and the same from the bytes of verdicts and `left`.
use Prim.Native.Nat.{ℕ, zero, suc, ◌≤◌, ◌<◌}
use Rattle.std.proofs.Common.{arith, ap, ◌∙◌}
use Rattle.std.specs.Prelude.{◌≡◌, length, get_or}
use Rattle.std.proofs.Math.Path.{refl, ap₂}
use mathlib.Core.List.{List, ◌++◌, map}
use Rattle.std.proofs.lemmas.List.{length-map}
use Rattle.std.proofs.Math.ListN.{get_or-map, get_or-append}
use Rattle.answers.specs.declared.Verdict.{Verdict}
use Rattle.answers.specs.declared.Lamp.{Lamp}
use Rattle.answers.specs.Paper.{number_of}
use Rattle.report.specs.Text.{lamp_text}
use Rattle.course.specs.Course.{verdict_bytes, left_bytes}
use Rattle.lamp_lines.specs.Lines.{byte_lines, dark, lamp_of, lines_text, lines_to, number_back}

-- the bytes of lamps and their numbers, with whatever behind them, give their lines, where `left` fits a byte
module _ (lamps : List Lamp) (fits : left_bytes lamps ≡ map (λ (l : Lamp). l.left) lamps) (named : List ℕ) (as_many : length named ≡ length lamps) (verdicts lefts numbers : List ℕ) where
  lamp_back : (k : ℕ) → k < length lamps → lamp_of (get_or (verdict_bytes lamps ++ verdicts) k 0) (get_or (left_bytes lamps ++ lefts) k 0) ≡ get_or lamps k dark
  lamp_back k l =
      ap₂ lamp_of
      (get_or-append (verdict_bytes lamps) verdicts 0 k (rw length-map l) ∙ get_or-map (λ (l : Lamp). number_of l.verdict) lamps k dark)
      (get_or-append (left_bytes lamps) lefts 0 k (rw length-map l) ∙ ap (λ (s : List ℕ). get_or s k 0) fits ∙ get_or-map (λ (l : Lamp). l.left) lamps k dark)
      ∙ ap (λ (v : Verdict). record { verdict = v; left = (get_or lamps k dark).left }) (number_back (get_or lamps k dark).verdict)

  lines_back : (k : ℕ) → k ≤ length lamps → byte_lines k (verdict_bytes lamps ++ verdicts) (left_bytes lamps ++ lefts) (named ++ numbers) ≡ lines_to k (λ j. get_or named j 0) lamps
  unfolding byte_lines lines_to
  lines_back zero h = refl
  lines_back (suc k) h =
      ap₂ (λ (s t : List ℕ). s ++ t) (lines_back k (omega arith))
      (ap₂ lamp_text (get_or-append named numbers 0 k (omega (arith, as_many))) (lamp_back k (omega arith)))

  pub lines_are : byte_lines (length lamps) (verdict_bytes lamps ++ verdicts) (left_bytes lamps ++ lefts) (named ++ numbers) ≡ lines_text (λ j. get_or named j 0) lamps
  lines_are = lines_back (length lamps) (omega arith)
