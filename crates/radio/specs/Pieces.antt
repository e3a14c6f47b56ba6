-- Bytes of one line heard at once: a piece of a line is judged whole, and that is what its bytes give one by one.
use Prim.Native.Nat.{ℕ, ◌+◌, ◌≤◌, ◌<◌}
use native.Mathlib.Omega.{arith}
use Rattle.std.proofs.Common.{le_antisymm, sym, subst, ◌∙◌, ⊎_elim, length-append, take_all}
use Rattle.std.specs.Prelude.{◌≡◌, Bool, ◌↔◌, ltb, leb, take}
use Rattle.std.proofs.Math.Path.{refl}
use Rattle.std.proofs.Math.Bool.{true, false, cond}
use Rattle.std.proofs.lemmas.Bool.{false≢true}
use mathlib.Core.List.{List, [], ◌∷◌, ◌++◌, append_assoc}
use borrow.Author.Tests.{le-leb}
use Rattle.std.proofs.Math.ListN.{length}
use Rattle.std.proofs.Math.Seq.{take-append_seam}
use Rattle.answers.specs.declared.Kind.TheVariants.{LogText}
use Rattle.answers.specs.Paper.{refused_at}
use Rattle.text.specs.Cases.{below_or_beyond}
use Rattle.text.specs.Form.{Form as TextForm}
use Rattle.text.specs.Matched.{matched_text}
use Rattle.text.specs.Place.{Whole, Viable, reads_whole, viable_to}
use Rattle.text.specs.Promises.{fit_of}
use Rattle.event_log.specs.declared.Event.{Event}
use Rattle.event_log.specs.Line.{line, line_reads}
use Rattle.event_log.specs.Read.{is_numbered, bytes_in}
use Rattle.sides.specs.declared.Monitor.{Monitor}
use Rattle.monitor.specs.declared.Watched.{Watched}
use Rattle.radio.specs.declared.Form.{Form}
use Rattle.radio.specs.Radio.{Heard, agrees, good_of, begins, stopped, lengthened}

-- ---- the first byte

pub first_same : (p x : List ℕ) → 0 < length p → is_numbered (p ++ x) ≡ is_numbered p
unfolding is_numbered
first_same [] x h = absurd (omega arith)
first_same (b ∷ p) x h = refl

-- ---- what begins a line

-- the first bytes of a text fit a form exactly if they do so alone
fits_front : {A : Type 0} {F : TextForm A} → Whole F → (p x : List ℕ) → (length p ≤ fit_of F p) ↔ (length p ≤ fit_of F (p ++ x))
fits_front {A} {F} whole p x =
    let alone : take (length p) p ≡ p = take_all (length p) p (omega arith) in
    let front : take (length p) (p ++ x) ≡ p = take-append_seam p x in
    let a = viable_to whole p (length p) (omega arith) in
    let b = viable_to whole (p ++ x) (length p) (omega (arith, length-append p x)) in (
      λ h. b.0 (subst (Viable F) (sym front) (subst (Viable F) alone (a.1 h))),
      λ h. a.0 (subst (Viable F) (sym alone) (subst (Viable F) front (b.1 h))),
    )

module _ (w : ℕ) (form : Form) where
  -- so do the first bytes of a piece
  pub good_front : (p x : List ℕ) → 0 < length p → (length p ≤ good_of w form p) ↔ (length p ≤ good_of w form (p ++ x))
  unfolding good_of
  good_front p x some = rw (first_same p x some) (by_form (agrees form (is_numbered p)))
    where
      by_form : (b : Bool) → (length p ≤ cond b (fit_of (line (is_numbered p) w) p) 0) ↔ (length p ≤ cond b (fit_of (line (is_numbered p) w) (p ++ x)) 0)
      by_form true = fits_front (reads_whole (line_reads (is_numbered p) w)) p x
      by_form false = (λ h. h, λ h. h)

  pub good_within : (q : List ℕ) → good_of w form q ≤ length q
  unfolding good_of
  good_within q = by_form (agrees form (is_numbered q))
    where
      by_form : (b : Bool) → cond b (fit_of (line (is_numbered q) w) q) 0 ≤ length q
      by_form true = matched_text q ((line (is_numbered q) w).slots ((line (is_numbered q) w).guess q))
      by_form false = omega arith

  -- what is kept: fewer bytes than a line has, and they begin one
  pub record Kept (p : List ℕ) : Type 0 where
    pub short : length p < bytes_in w p
    pub begun : length p ≤ good_of w form p

  -- the byte behind them that begins no line stops the piece there
  pub good_stops : (p x : List ℕ) (b : ℕ) → length p ≤ good_of w form p → begins w form (p ++ b ∷ []) ≡ false → good_of w form (p ++ b ∷ x) ≡ length p
  good_stops p x b begun not =
      let q = p ++ b ∷ [] in
      let whole : p ++ b ∷ x ≡ q ++ x = sym (append_assoc p (b ∷ []) x) in
      let long : length q ≡ length p + 1 = length-append p (b ∷ []) in
      let misfit : good_of w form q < length q = lt_of_no (good_of w form q) (length q) not in
      le_antisymm
      (⊎_elim (λ (l : good_of w form (p ++ b ∷ x) < length q). omega arith)
      (λ (l : length q ≤ good_of w form (p ++ b ∷ x)). absurd (omega (arith, (good_front q x (omega arith)).1 (rw whole at l))))
      (below_or_beyond (good_of w form (p ++ b ∷ x)) (length q)))
      (at_least p (b ∷ x) begun)
    where
      lt_of_no : (a c : ℕ) → leb c a ≡ false → a < c
      lt_of_no a c e = ⊎_elim (λ (l : a < c). l) (λ (l : c ≤ a). absurd (false≢true (sym e ∙ le-leb c a l))) (below_or_beyond a c)

      at_least : (p x : List ℕ) → length p ≤ good_of w form p → length p ≤ good_of w form (p ++ x)
      at_least [] x h = omega arith
      at_least (b ∷ p) x h = (good_front (b ∷ p) x (omega arith)).0 h

module _ (w : ℕ) (step : Monitor → Event → Watched) where
  -- ---- a piece at once

  -- the bytes of at most a line: refused at the first that does not fit, and else lengthened by all
  unfoldable pub pieced : Heard → List ℕ → Heard
  pieced h q = cond (ltb (good_of w h.ear.form q) (length q)) (stopped h (refused_at LogText (h.ear.start + good_of w h.ear.form q))) (lengthened w step h q)
