-- FOR EVERY CUTTING: scraps heard one after the other, by the call, lead to what their bytes lead to at once: verdicts, a refusal and where it points, and the radio at the end.
use Prim.Native.Nat.{ℕ, ◌+◌, ◌≤◌, zero-le}
use Rattle.std.proofs.Common.{arith, ap, subst, ◌∙◌, leb-true, ltb-true, length-append}
use Rattle.std.specs.Prelude.{◌≡◌, refl, Bool, true, false, cond, ltb, length, Ok, Err}
use mathlib.Core.List.{List, [], ◌∷◌, ◌++◌, append_assoc, foldl-append}
use Rattle.answers.specs.declared.Kind.TheVariants.{LogText}
use Rattle.answers.specs.Results.{Answer}
use Rattle.answers.specs.Results.{Outcome}
use Rattle.answers.specs.Paper.{number_of, refused_at}
use Rattle.event_log.specs.declared.Event.{Event}
use Rattle.event_log.specs.Line.{line_fixed}
use Rattle.event_log.specs.Read.{is_numbered, bytes_in, event_at}
use Rattle.sides.specs.declared.Monitor.{Monitor}
use Rattle.monitor.specs.declared.Watched.{Watched}
use Rattle.radio.specs.Radio.{Ear, Heard, good_of, begins, stopped, kept, answered, byte_heard, hear, hear_all}
use Rattle.radio.specs.Pieces.{Kept}

-- ---- the law of the fold

module _ (w : ℕ) (step : Monitor → Event → Watched) where
  -- two scraps are their bytes joined
  pub joined : (h : Heard) (s t : List ℕ) → hear_all w step h (s ++ t) ≡ hear_all w step (hear_all w step h s) t
  joined h s t = foldl-append (hear w step) h s t

  -- verdicts given before play no part
  abbrev pub behind : List ℕ → Heard → Heard
  behind vs h = record { ear = h.ear; verdicts = vs ++ h.verdicts }

  answered_behind : (vs : List ℕ) (h : Heard) (q : List ℕ) (s : Watched) (a : Answer) → answered (behind vs h) q s a ≡ behind vs (answered h q s a)
  answered_behind vs h q s (Ok l) =
      ap (λ (x : List ℕ). record { ear = (answered h q s (Ok l)).ear; verdicts = x }) (append_assoc vs h.verdicts (number_of l.verdict ∷ []))
  answered_behind vs h q s (Err r) = refl

  byte_behind : (vs : List ℕ) (h : Heard) (b : ℕ) → hear w step (behind vs h) b ≡ behind vs (hear w step h b)
  unfolding hear
  byte_behind vs h b = by h.ear.standing
    where
      q : List ℕ
      q = h.ear.part ++ b ∷ []

      s : Watched
      s = step h.ear.monitor (event_at w (h.ear.part ++ b ∷ []) 0)

      pick : (t u : Bool)
          → cond t (cond u (kept (behind vs h) q) (answered (behind vs h) q s s.answer)) (stopped (behind vs h) (refused_at LogText (h.ear.start + length h.ear.part)))
          ≡ behind vs (cond t (cond u (kept h q) (answered h q s s.answer)) (stopped h (refused_at LogText (h.ear.start + length h.ear.part))))
      pick true true = refl
      pick true false = answered_behind vs h q s s.answer
      pick false u = refl

      by : (o : Outcome) → byte_heard w step o (behind vs h) b ≡ behind vs (byte_heard w step o h b)
      by (Ok _) = pick (begins w h.ear.form q) (ltb (length q) (bytes_in w q))
      by (Err r) = refl

  pub all_behind : (vs : List ℕ) (s : List ℕ) (h : Heard) → hear_all w step (behind vs h) s ≡ behind vs (hear_all w step h s)
  all_behind vs [] h = refl
  all_behind vs (b ∷ s) h = ap (λ (g : Heard). hear_all w step g s) (byte_behind vs h b) ∙ all_behind vs s (hear w step h b)

  -- ---- what stays so, byte by byte: what is kept begins a line, and no byte counts for more than one

  pub record Sound (n : ℕ) (e : Ear) : Type 0 where
    pub keep : Kept w e.form e.part
    pub low : e.start + length e.part ≤ n

  sound_answered : (n : ℕ) (h : Heard) (q : List ℕ) (s : Watched) (a : Answer) → h.ear.start + length q ≤ n → Sound n (answered h q s a).ear
  sound_answered n h q s (Ok l) low = record { keep = record { short = (line_fixed (is_numbered []) w).some; begun = zero-le }; low = omega arith }
  sound_answered n h q s (Err r) low = record { keep = record { short = (line_fixed (is_numbered []) w).some; begun = zero-le }; low = omega arith }

  sound_byte : (n : ℕ) (h : Heard) → Sound n h.ear → (b : ℕ) → Sound (n + 1) (hear w step h b).ear
  unfolding hear
  sound_byte n h sound b = by h.ear.standing
    where
      q : List ℕ
      q = h.ear.part ++ b ∷ []

      s : Watched
      s = step h.ear.monitor (event_at w (h.ear.part ++ b ∷ []) 0)

      long : h.ear.start + length (h.ear.part ++ b ∷ []) ≤ n + 1
      long = omega (arith, length-append h.ear.part (b ∷ []), sound.low)

      pick : (t u : Bool) → begins w h.ear.form q ≡ t → ltb (length q) (bytes_in w q) ≡ u
          → Sound (n + 1) (cond t (cond u (kept h q) (answered h q s s.answer)) (stopped h (refused_at LogText (h.ear.start + length h.ear.part)))).ear
      pick true true e f = record { keep = record { short = ltb-true (length q) (bytes_in w q) f; begun = leb-true (length q) (good_of w h.ear.form q) e }; low = long }
      pick true false e f = sound_answered (n + 1) h q s s.answer long
      pick false u e f = record { keep = record { short = (line_fixed (is_numbered []) w).some; begun = zero-le }; low = omega (arith, sound.low) }

      by : (o : Outcome) → Sound (n + 1) (byte_heard w step o h b).ear
      by (Ok _) = pick (begins w h.ear.form q) (ltb (length q) (bytes_in w q)) refl refl
      by (Err r) = record { keep = sound.keep; low = omega (arith, sound.low) }

  pub sound_all : (s : List ℕ) (n : ℕ) (h : Heard) → Sound n h.ear → Sound (n + length s) (hear_all w step h s).ear
  sound_all [] n h sound = subst (λ (k : ℕ). Sound k h.ear) (omega arith) sound
  sound_all (b ∷ s) n h sound =
      subst (λ (k : ℕ). Sound k (hear_all w step (hear w step h b) s).ear) (omega arith) (sound_all s (n + 1) (hear w step h b) (sound_byte n h sound b))
