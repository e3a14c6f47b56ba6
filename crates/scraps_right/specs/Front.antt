-- Lines of one form and of n bytes each, read from a text that is cut: its first lines alone are read as they are in the whole text; and every text ends behind
-- whole lines, or within a line that does not fit.
use Rattle.std.specs.Prelude.{ℕ, zero, suc, ◌+◌, ◌-◌, ◌≤◌, ◌<◌, ◌≡◌, refl, List, [], ◌∷◌, ◌++◌, take, drop}
use Rattle.std.proofs.Common.{add-one, arith, le_antisymm, eq-or-lt_of_le, ap, ◌∙◌, ⊎_elim, length-take, take-append-drop, take-take}
use Rattle.std.proofs.Math.Path.{sym, subst}
use Rattle.std.proofs.Math.ListN.{length}
use Rattle.std.proofs.Math.Seq.{take-nil}
use Rattle.text.specs.Cases.{below_or_beyond}
use Rattle.text.specs.Slot.{matched}
use Rattle.text.specs.Matched.{matched_text, matched_slots, matched_both}
use Rattle.text.specs.Form.{Form}
use Rattle.text.specs.Place.{Viable, Whole, reads_whole, viable_to, matched_shared}
use Rattle.text.specs.Promises.{fit_of}
use Rattle.text.specs.Many.{slots_below}
use Rattle.text.specs.Lines.{Fixed, line_start, lines_slots, line_at, start_grows, lines_long}
use Rattle.text.specs.LinesRead.{Fit, none_fit, line_on, next_start}

-- ---- a part of a part

same_front : (i j : ℕ) (s : List ℕ) → i ≡ j → take i s ≡ take j s
same_front i j s e = ap (λ (k : ℕ). take k s) e

pub drop_take : (a b : ℕ) (s : List ℕ) → drop a (take b s) ≡ take (b - a) (drop a s)
drop_take zero b s = same_front b (b - 0) s (omega arith)
drop_take (suc a) zero [] = sym (take-nil (0 - suc a))
drop_take (suc a) zero (x ∷ s) = same_front 0 (0 - suc a) (drop a s) (omega arith)
drop_take (suc a) (suc b) [] = sym (take-nil (suc b - suc a))
drop_take (suc a) (suc b) (x ∷ s) = drop_take a b s ∙ same_front (b - a) (suc b - suc a) (drop a s) (omega arith)

-- ---- one line

module _ {A : Type 0} {F : Form A} {n : ℕ} (fixed : Fixed F n) where
  whole : Whole F
  whole = reads_whole fixed.reads

  -- no text fits further than a line
  pub fit_low : (s : List ℕ) → fit_of F s ≤ n
  fit_low s = omega (arith, matched_slots s (F.slots (F.guess s)), fixed.bytes (F.guess s) (fixed.reads.fine s))

  -- how far a text fits is told by its first bytes
  pub fit_front : (s : List ℕ) (m : ℕ) → fit_of F s ≤ m → fit_of F (take m s) ≡ fit_of F s
  fit_front s m low = le_antisymm there back
    where
      x : List ℕ
      x = take m s

      there : fit_of F (take m s) ≤ fit_of F s
      there =
          let j = fit_of F x in
          let within : j ≤ length x = matched_text x (F.slots (F.guess x)) in
          let v : Viable F (take j x) = (viable_to whole x j within).1 (omega arith) in
          (viable_to whole s j (omega (arith, within, length-take m s))).0 (subst (Viable F) (take-take j m s (omega (arith, within, length-take m s))) v)

      back : fit_of F s ≤ fit_of F (take m s)
      back =
          let j = fit_of F s in
          let within : j ≤ length s = matched_text s (F.slots (F.guess s)) in
          let v : Viable F (take j s) = (viable_to whole s j within).1 (omega arith) in
          (viable_to whole x j (omega (arith, within, length-take m s))).0 (subst (Viable F) (sym (take-take j m s low)) v)

  -- and so is the value of a whole line
  pub guess_front : (s : List ℕ) (m : ℕ) → fit_of F s ≡ n → n ≤ m → F.guess (take m s) ≡ F.guess s
  guess_front s m fits long =
      let ts = F.slots (F.guess s) in
      let many : length ts ≡ n = fixed.bytes (F.guess s) (fixed.reads.fine s) in
      let same : take n (take m s) ++ drop n s ≡ s = ap (λ (l : List ℕ). l ++ drop n s) (take-take n m s long) ∙ take-append-drop n s in
      let room : n ≤ length (take m s) = omega (arith, length-take m s, matched_text s ts, fits) in
      let reach : n ≤ matched (take m s) ts = matched_shared n (take m s) (drop n s) ts room (subst (λ (l : List ℕ). n ≤ matched l ts) (sym same) (omega (arith, fits))) in
      fixed.reads.exact (F.guess s) (take m s) (fixed.reads.fine s) (omega (arith, matched_slots (take m s) ts, many, reach))

-- ---- lines

module _ {A : Type 0} (F : Form A) (n : ℕ) (fixed : Fixed F n) where
  -- where k + 1 lines fit, k do, and the line behind them
  pub last_fits : (s : List ℕ) (k : ℕ) → Fit F n s (suc k) → Fit F n s k × (fit_of F (drop (line_start n k) s) ≡ n)
  unfolding slots_below
  last_fits s k h =
      let ts = lines_slots F k (line_at F n s) in
      let us = F.slots (line_at F n s k) in
      let (a, b) = matched_both s ts us (h.fits ∙ sym (lines_long F n fixed s (suc k))) in
      (record { fits = a ∙ lines_long F n fixed s k }, subst (λ (i : ℕ). matched (drop i s) us ≡ length us) (lines_long F n fixed s k) b ∙ fixed.bytes (line_at F n s k) (fixed.reads.fine (drop (line_start n k) s)))

  pub fewer_fit : (s : List ℕ) (k : ℕ) → Fit F n s k → (j : ℕ) → j ≤ k → Fit F n s j
  fewer_fit s zero h j l = subst (Fit F n s) (omega arith) h
  fewer_fit s (suc k) h j l = ⊎_elim (λ (e : j ≡ suc k). subst (Fit F n s) (sym e) h) (λ (b : j < suc k). fewer_fit s k (last_fits s k h).0 j (omega arith)) (eq-or-lt_of_le l)

  pub line_fits : (s : List ℕ) (k : ℕ) → Fit F n s k → (j : ℕ) → j < k → fit_of F (drop (line_start n j) s) ≡ n
  line_fits s k h j l = (last_fits s j (fewer_fit s k h (suc j) l)).1

  -- they are within the text
  pub fit_long : (s : List ℕ) (k : ℕ) → Fit F n s k → line_start n k ≤ length s
  fit_long s k h = omega (arith, h.fits, matched_text s (lines_slots F k (line_at F n s)))

  -- the text cut behind k lines that fit
  module _ (s : List ℕ) (k : ℕ) (h : Fit F n s k) where
    line_room : (j : ℕ) → j < k → n ≤ line_start n k - line_start n j
    line_room j l = omega (arith, start_grows n (suc j) k l, next_start n j, ap (line_start n) (add-one j))

    cut_is : (j : ℕ) → drop (line_start n j) (take (line_start n k) s) ≡ take (line_start n k - line_start n j) (drop (line_start n j) s)
    cut_is j = drop_take (line_start n j) (line_start n k) s

    pub cut_line : (j : ℕ) → j < k → F.guess (drop (line_start n j) (take (line_start n k) s)) ≡ F.guess (drop (line_start n j) s)
    cut_line j l = ap F.guess (cut_is j) ∙ guess_front fixed (drop (line_start n j) s) (line_start n k - line_start n j) (line_fits s k h j l) (line_room j l)

    pub cut_fits : (j : ℕ) → j ≤ k → Fit F n (take (line_start n k) s) j
    cut_fits zero l = none_fit F n fixed (take (line_start n k) s)
    cut_fits (suc j) l =
        let cut = take (line_start n k) s in
        let rest = drop (line_start n j) s in
        let good : fit_of F (drop (line_start n j) cut) ≡ n = ap (fit_of F) (cut_is j) ∙ fit_front fixed rest (line_start n k - line_start n j) (omega (arith, line_fits s k h j l, line_room j l)) ∙ line_fits s k h j l in
        subst (Fit F n cut) (add-one j)
        (line_on F n fixed cut j (fit_of F (drop (line_start n j) cut)) (F.guess (drop (line_start n j) cut)) (cut_fits j (omega arith)) (record { is = refl; goes = refl }) (omega (arith, good)))

  -- EVERY TEXT ends behind k lines that fit, or has k of them and a line behind them that does not
  pub data Ends (s : List ℕ) : Type 0 where
    lined : (k : ℕ) → Fit F n s k → length s ≡ line_start n k → Ends s
    broken : (k : ℕ) → Fit F n s k → line_start n k < length s → fit_of F (drop (line_start n k) s) < n → Ends s

  pub ends : (s : List ℕ) → Ends s
  ends s = from (length s) 0 (omega arith) (none_fit F n fixed s)
    where
      from : (fuel k : ℕ) → length s ≤ line_start n k + fuel → Fit F n s k → Ends s
      from zero k near h = lined k h (omega (arith, fit_long s k h))
      from (suc fuel) k near h =
          ⊎_elim
          (λ (more : line_start n k < length s).
          ⊎_elim (λ (bad : fit_of F (drop (line_start n k) s) < n). broken k h more bad)
          (λ (good : n ≤ fit_of F (drop (line_start n k) s)).
          from fuel (k + 1) (omega (arith, next_start n k, fixed.some)) (line_on F n fixed s k (fit_of F (drop (line_start n k) s)) (F.guess (drop (line_start n k) s)) h (record { is = refl; goes = refl }) good))
          (below_or_beyond (fit_of F (drop (line_start n k) s)) n))
          (λ (end : length s ≤ line_start n k). lined k h (omega (arith, fit_long s k h)))
          (below_or_beyond (line_start n k) (length s))
