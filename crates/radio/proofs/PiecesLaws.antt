-- More of specs/Pieces. Bytes of one line heard at once: a piece of a line is judged whole, and that is what its bytes give one by one.
use Prim.Native.Nat.{ℕ, ◌+◌, ◌≤◌, ◌<◌}
use native.Mathlib.Omega.{arith}
use Rattle.std.proofs.Common.{sym, ◌∙◌, length-append}
use Rattle.std.specs.Prelude.{◌≡◌, Bool, ltb, Ok, Err}
use Rattle.std.proofs.Math.Path.{refl, ap}
use Rattle.std.proofs.Math.Bool.{true, false, cond}
use mathlib.Core.List.{List, [], ◌∷◌, ◌++◌, append_assoc, append-nil}
use borrow.Author.Tests.{leb-true, lt-ltb, le-ltb}
use Rattle.std.proofs.Math.ListN.{length}
use Rattle.answers.specs.declared.Kind.TheVariants.{LogText}
use Rattle.answers.specs.declared.Refusal.{Refusal}
use Rattle.answers.specs.Results.{Answer}
use Rattle.answers.specs.Results.{Outcome}
use Rattle.answers.specs.Paper.{refused_at}
use Rattle.event_log.specs.declared.Event.{Event}
use Rattle.event_log.specs.Line.{line_bytes}
use Rattle.event_log.specs.Read.{bytes_in, event_at}
use Rattle.sides.specs.declared.Monitor.{Monitor}
use Rattle.monitor.specs.declared.Watched.{Watched}
use Rattle.radio.specs.Radio.{Heard, good_of, begins, stopped, kept, answered, ended, lengthened, byte_heard, hear, hear_all}
use Rattle.radio.specs.Pieces.{Kept, first_same, good_stops}
use Rattle.radio.specs.Pieces as of_pieces

module _ (w : ℕ) (step : Monitor → Event → Watched) where
  abbrev pieced : Heard → List ℕ → Heard
  pieced = of_pieces.pieced w step

  -- behind a refusal nothing more happens
  pub hears_no_more : (h : Heard) {r : Refusal} → h.ear.standing ≡ Err r → (s : List ℕ) → hear_all w step h s ≡ h
  unfolding hear
  hears_no_more h e [] = refl
  hears_no_more h {r} e (b ∷ s) = ap (λ (g : Heard). hear_all w step g s) (ap (λ (o : Outcome). byte_heard w step o h b) e) ∙ hears_no_more h e s

  fitting : (h : Heard) (q : List ℕ) → length q ≤ good_of w h.ear.form q → pieced h q ≡ lengthened w step h q
  unfolding of_pieces.pieced
  fitting h q fits = rw (le-ltb (good_of w h.ear.form q) (length q) fits) refl

  -- of what was kept, only the form, the start and the monitor count
  answered_kept : (h : Heard) (p q : List ℕ) (s : Watched) (a : Answer) → answered (kept h p) q s a ≡ answered h q s a
  answered_kept h p q s (Ok l) = refl
  answered_kept h p q s (Err r) = refl

  pieced_kept : (h : Heard) (p q : List ℕ) → pieced (kept h p) q ≡ pieced h q
  unfolding of_pieces.pieced
  pieced_kept h p q =
      ap (λ (g : Heard). cond (ltb (good_of w h.ear.form q) (length q)) (stopped h (refused_at LogText (h.ear.start + good_of w h.ear.form q))) (cond (ltb (length q) (bytes_in w q)) (kept h q) g))
      (answered_kept h p q (step h.ear.monitor (event_at w q 0)) (step h.ear.monitor (event_at w q 0)).answer)

  stops_at : (h : Heard) (q : List ℕ) (i : ℕ) → good_of w h.ear.form q ≡ i → i < length q → stopped h (refused_at LogText (h.ear.start + i)) ≡ pieced h q
  unfolding of_pieces.pieced
  stops_at h q i e l = rw (e, lt-ltb i (length q) l) refl

  -- THE LAW OF PIECES: bytes one by one, that are no more than the line has, are the piece at once
  pub pieces : (x : List ℕ) (h : Heard) → h.ear.standing ≡ Ok tt → Kept w h.ear.form h.ear.part → 0 < length x
      → length (h.ear.part ++ x) ≤ bytes_in w (h.ear.part ++ x) → hear_all w step h x ≡ pieced h (h.ear.part ++ x)
  unfolding hear
  pieces [] h goes keep some fits = absurd (omega arith)
  pieces (b ∷ x) h goes keep some fits =
      ap (λ (g : Heard). hear_all w step g x) (ap (λ (o : Outcome). byte_heard w step o h b) goes) ∙ by_test (begins w h.ear.form q) refl (λ k. pieces x (kept h q) goes k)
    where
      p : List ℕ
      p = h.ear.part

      q : List ℕ
      q = h.ear.part ++ b ∷ []

      whole : h.ear.part ++ b ∷ x ≡ (h.ear.part ++ b ∷ []) ++ x
      whole = sym (append_assoc p (b ∷ []) x)

      long : length (h.ear.part ++ b ∷ []) ≡ length h.ear.part + 1
      long = length-append p (b ∷ [])

      Rest : Type 0
      Rest = Kept w h.ear.form (h.ear.part ++ b ∷ []) → 0 < length x → length ((h.ear.part ++ b ∷ []) ++ x) ≤ bytes_in w ((h.ear.part ++ b ∷ []) ++ x)
          → hear_all w step (kept h (h.ear.part ++ b ∷ [])) x ≡ pieced (kept h (h.ear.part ++ b ∷ [])) ((h.ear.part ++ b ∷ []) ++ x)

      more : (x : List ℕ) → length q ≤ good_of w h.ear.form q → length (q ++ x) ≤ bytes_in w (q ++ x)
          → (Kept w h.ear.form q → 0 < length x → length (q ++ x) ≤ bytes_in w (q ++ x) → hear_all w step (kept h q) x ≡ pieced (kept h q) (q ++ x))
          → hear_all w step (lengthened w step h q) x ≡ pieced h (q ++ x)
      more [] begun fits rest = sym (fitting h q begun) ∙ ap (pieced h) (sym (append-nil q))
      more (c ∷ x) begun fits rest =
          let short : length q < bytes_in w q = omega (arith, length-append q (c ∷ x), ap (bytes_of) (first_same q (c ∷ x) (omega (arith, long)))) in
          ap (λ (t : Bool). hear_all w step (cond t (kept h q) (ended w step h q)) (c ∷ x)) (lt-ltb (length q) (bytes_in w q) short)
          ∙ rest (record { short = short; begun = begun }) (omega arith) fits ∙ pieced_kept h q (q ++ c ∷ x)
        where
          bytes_of : Bool → ℕ
          bytes_of n = line_bytes n w

      by_test : (t : Bool) → begins w h.ear.form q ≡ t → Rest
          → hear_all w step (cond t (lengthened w step h q) (stopped h (refused_at LogText (h.ear.start + length p)))) x ≡ pieced h (p ++ b ∷ x)
      by_test false e rest =
          hears_no_more (stopped h (refused_at LogText (h.ear.start + length p))) refl x
          ∙ stops_at h (p ++ b ∷ x) (length p) (good_stops w h.ear.form p x b keep.begun e) (omega (arith, length-append p (b ∷ x)))
      by_test true e rest = more x (leb-true (length q) (good_of w h.ear.form q) e) (rw whole at fits) rest ∙ ap (pieced h) (sym whole)
