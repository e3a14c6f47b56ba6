-- The line behind the last that fits: the first byte that does not fit is refused, and where there is none the bytes are kept.
use Prim.Native.Nat.{ℕ, zero, suc, ◌+◌, ◌≤◌, ◌<◌}
use Rattle.std.proofs.Common.{arith, ◌∙◌, inl, length-drop, take-append-drop}
use Rattle.std.specs.Prelude.{◌≡◌, Bool, true, ◌⊎◌, ltb, drop, Ok, Err}
use Rattle.std.proofs.Math.Path.{refl, sym, ap}
use Rattle.std.proofs.Math.Bool.{false, cond}
use Rattle.std.proofs.lemmas.Bool.{false≢true}
use Rattle.std.proofs.Math.Logic.{inr, ⊎_elim}
use mathlib.Core.List.{List, [], ◌∷◌, foldl-append}
use borrow.Author.Tests.{lt-ltb, le-ltb}
use Rattle.std.proofs.Math.ListN.{length, take, length-take}
use Rattle.answers.specs.declared.Kind.TheVariants.{LogText}
use Rattle.answers.specs.declared.Refusal.{Refusal}
use Rattle.answers.specs.Results.{Answer}
use Rattle.answers.specs.Results.{Outcome}
use Rattle.answers.specs.Chain.{is_accepted}
use Rattle.answers.specs.Paper.{refused_at}
use Rattle.text.specs.Cases.{below_or_beyond}
use Rattle.text.specs.Promises.{fit_of}
use Rattle.text.specs.Many.{offset}
use Rattle.text.specs.Lines.{line_start}
use Rattle.text.specs.LinesRead.{Fit}
use Rattle.event_log.specs.declared.Event.{Event}
use Rattle.event_log.specs.Line.{line, line_bytes, line_fixed}
use Rattle.event_log.specs.Read.{is_numbered, bytes_in, event_at}
use Rattle.sides.specs.declared.Monitor.{Monitor}
use Rattle.monitor.specs.declared.Watched.{Watched}
use Rattle.course.specs.Course.{Course, takes, number_in, go_on, course_to, verdict_bytes}
use Rattle.radio.specs.declared.Form.{Form}
use Rattle.radio.specs.declared.Form.TheVariants.{Unknown}
use Rattle.radio.specs.Radio.{Heard, agrees, form_of, good_of, stopped, kept, hear, hear_all}
use Rattle.radio.specs.Pieces.{pieced, first_same}
use Rattle.radio.proofs.PiecesLaws.{hears_no_more, pieces}
use Rattle.scraps_right.specs.Claims.{placed_at}
use Rattle.scraps_right.specs.Front.{fit_front}
use Rattle.scraps_right.specs.Lines.{form_at, between, heard_behind, agrees_own, first_is, good_own, none_kept, lines_heard}

-- ---- the forms

-- a line's first byte is of the form of the lines before, or it is not; the first line's tells the form
own_or_other : (numbered is : Bool) → (agrees (form_of numbered) is ≡ false) ⊎ (is ≡ numbered)
own_or_other true true = inr refl
own_or_other true false = inl refl
own_or_other false true = inl refl
own_or_other false false = inr refl

-- ---- a course that was not refused has taken all

pub all_done : (step : Monitor → Event → Watched) (m : Monitor) (event : ℕ → Event) (k : ℕ) → (course_to step m event k).went.outcome ≡ Ok tt → (course_to step m event k).went.done ≡ k
unfolding course_to
all_done step m event zero e = refl
all_done step m event (suc k) e = by (course_to step m event k) (course_to step m event k).went.outcome refl (all_done step m event k) e
  where
    took : (c : Course) (v : ℕ) (x : Watched) (a : Answer) → c.went.done ≡ k → (takes c v x a).went.outcome ≡ Ok tt → (takes c v x a).went.done ≡ suc k
    took c v x (Ok l) d e = ap suc d
    took c v x (Err r) d e = absurd (false≢true (ap is_accepted e))

    by : (c : Course) (o : Outcome) → c.went.outcome ≡ o → (c.went.outcome ≡ Ok tt → c.went.done ≡ k) → (go_on step c (event k) o).went.outcome ≡ Ok tt → (go_on step c (event k) o).went.done ≡ suc k
    by c (Err r) f d e = absurd (false≢true (ap is_accepted (sym f ∙ e)))
    by c (Ok _) f d e = took c (number_in c.went.monitor (event k)) (step c.went.monitor (event k)) (step c.went.monitor (event k)).answer (d f) e

-- behind lines: a refused event ends all; else the first byte that does not fit does, or the bytes are kept
abbrev pub broken_behind : Outcome → Heard → List ℕ → ℕ → Heard
broken_behind (Err r) h rest good = h
broken_behind (Ok _) h rest good = cond (ltb good (length rest)) (stopped h (refused_at LogText (h.ear.start + good))) (kept h rest)

module _ (w : ℕ) (step : Monitor → Event → Watched) where
  module _ (numbered : Bool) (start : ℕ) (form : Form) (m : Monitor) (vs rest : List ℕ) (some : 0 < length rest) where
    abbrev h : Heard
    h = between start form m vs

    abbrev F : ℕ
    F = fit_of (line numbered w) rest

    abbrev n : ℕ
    n = line_bytes numbered w

    -- a line of the other form
    other : agrees form (is_numbered rest) ≡ false → hear_all w step (between start form m vs) rest ≡ stopped (between start form m vs) (refused_at LogText (start + 0))
    unfolding pieced good_of
    other unlike = by rest some unlike
      where
        by : (r : List ℕ) → 0 < length r → agrees form (is_numbered r) ≡ false → hear_all w step (between start form m vs) r ≡ stopped (between start form m vs) (refused_at LogText (start + 0))
        by [] l unlike = absurd (omega arith)
        by (b ∷ r) l unlike =
            let q = b ∷ [] in
            let same : is_numbered (b ∷ r) ≡ is_numbered q = first_same q r (omega arith) in
            let few : length q ≤ bytes_in w q = (line_fixed (is_numbered q) w).some in
            ap (λ (g : Heard). hear_all w step g r) (pieces w step q h refl (none_kept w form) (omega arith) few ∙ rw (← same, unlike) refl)
            ∙ hears_no_more w step (stopped h (refused_at LogText (start + 0))) refl r

    -- a line of the same form
    own : is_numbered rest ≡ numbered → agrees form numbered ≡ true → fit_of (line numbered w) rest < line_bytes numbered w
        → hear_all w step (between start form m vs) rest
        ≡ cond (ltb (fit_of (line numbered w) rest) (length rest)) (stopped (between start form m vs) (refused_at LogText (start + fit_of (line numbered w) rest))) (kept (between start form m vs) rest)
    unfolding pieced
    own is fine bad = ⊎_elim stops keeps (below_or_beyond F (length rest))
      where
        stops : fit_of (line numbered w) rest < length rest → hear_all w step h rest
            ≡ cond (ltb (fit_of (line numbered w) rest) (length rest)) (stopped h (refused_at LogText (start + fit_of (line numbered w) rest))) (kept h rest)
        stops l =
            let x = take n rest in
            let long : length x ≤ n = omega (arith, length-take n rest) in
            let few : 0 < length x = omega (arith, length-take n rest, some, (line_fixed numbered w).some) in
            let is_x : is_numbered x ≡ numbered = sym (first_same x (drop n rest) few) ∙ ap is_numbered (take-append-drop n rest) ∙ is in
            let good : good_of w form x ≡ F = good_own w numbered form x is_x fine ∙ fit_front (line_fixed numbered w) rest n (omega arith) in
            let size : bytes_in w x ≡ n = ap (λ (b : Bool). line_bytes b w) is_x in
            let stop = stopped h (refused_at LogText (start + F)) in
            ap (λ (t : List ℕ). hear_all w step h t) (sym (take-append-drop n rest)) ∙ foldl-append (hear w step) h x (drop n rest)
            ∙ ap (λ (g : Heard). hear_all w step g (drop n rest))
            (pieces w step x h refl (none_kept w form) few (omega (arith, size))
            ∙ rw (good, lt-ltb F (length x) (omega (arith, length-take n rest))) refl)
            ∙ hears_no_more w step stop refl (drop n rest) ∙ sym (rw (lt-ltb F (length rest) l) refl)

        keeps : length rest ≤ fit_of (line numbered w) rest → hear_all w step h rest
            ≡ cond (ltb (fit_of (line numbered w) rest) (length rest)) (stopped h (refused_at LogText (start + fit_of (line numbered w) rest))) (kept h rest)
        keeps l =
            let good : good_of w form rest ≡ F = good_own w numbered form rest is fine in
            let size : bytes_in w rest ≡ n = ap (λ (b : Bool). line_bytes b w) is in
            pieces w step rest h refl (none_kept w form) some (omega (arith, size))
            ∙ rw (good, le-ltb F (length rest) l, lt-ltb (length rest) (bytes_in w rest) (omega (arith, size))) refl

  -- ---- the whole text
  module _ (m : Monitor) (s : List ℕ) (still : (x : Monitor) (e : Event) (r : Refusal) → (step x e).answer ≡ Err r → (step x e).monitor ≡ x) where
    abbrev numbered : Bool
    numbered = is_numbered s

    abbrev size : ℕ
    size = bytes_in w s

    module _ (k : ℕ) (more : line_start (bytes_in w s) k < length s) (bad : fit_of (line (is_numbered s) w) (drop (line_start (bytes_in w s) k) s) < bytes_in w s) where
      abbrev rest : List ℕ
      rest = drop (line_start size k) s

      abbrev good : ℕ
      good = fit_of (line numbered w) rest

      long : 0 < length (drop (line_start (bytes_in w s) k) s)
      long = omega (arith, length-drop (line_start size k) s)

      -- the first byte
      first : (k : ℕ) → (agrees (form_at numbered k) (is_numbered (drop (line_start (bytes_in w s) k) s)) ≡ false) ⊎ (is_numbered (drop (line_start (bytes_in w s) k) s) ≡ is_numbered s)
      unfolding offset
      first zero = inr refl
      first (suc k) = own_or_other numbered (is_numbered (drop (line_start size (suc k)) s))

      on : (c : Course) (o : Outcome) → c.went.outcome ≡ o → (c.went.outcome ≡ Ok tt → c.went.done ≡ k)
          → hear_all w step (heard_behind numbered size c) rest ≡ broken_behind c.went.outcome (heard_behind numbered size c) rest good
      on c (Err r) e d =
          hears_no_more w step (heard_behind numbered size c) (ap (placed_at (line_start size c.went.done)) e) rest ∙ ap (λ (o : Outcome). broken_behind o (heard_behind numbered size c) rest good) (sym e)
      on c (Ok _) e d = rw e (⊎_elim by_other by_own (first k))
        where
          done : c.went.done ≡ k
          done = d e

          by_other : agrees (form_at numbered k) (is_numbered rest) ≡ false
              → hear_all w step (between (line_start size c.went.done) (form_at numbered c.went.done) c.went.monitor (verdict_bytes c.lamps)) rest
              ≡ broken_behind (Ok tt) (between (line_start size c.went.done) (form_at numbered c.went.done) c.went.monitor (verdict_bytes c.lamps)) rest good
          by_other unlike =
              let none : good ≡ 0 = ⊎_elim (λ (l : 0 < good). absurd (false≢true (sym unlike ∙ ap (agrees (form_at numbered k)) (first_is w numbered rest l) ∙ agrees_own numbered k))) (λ (l : good ≤ 0). omega arith) (below_or_beyond 0 good) in
              other numbered (line_start size c.went.done) (form_at numbered c.went.done) c.went.monitor (verdict_bytes c.lamps) rest long (rw done unlike)
              ∙ sym (rw (none, lt-ltb 0 (length rest) long) refl)

          by_own : is_numbered rest ≡ numbered
              → hear_all w step (between (line_start size c.went.done) (form_at numbered c.went.done) c.went.monitor (verdict_bytes c.lamps)) rest
              ≡ broken_behind (Ok tt) (between (line_start size c.went.done) (form_at numbered c.went.done) c.went.monitor (verdict_bytes c.lamps)) rest good
          by_own is = own numbered (line_start size c.went.done) (form_at numbered c.went.done) c.went.monitor (verdict_bytes c.lamps) rest long is (agrees_own numbered c.went.done) bad

      pub broken_heard : Fit (line (is_numbered s) w) (bytes_in w s) s k
          → hear_all w step (between 0 Unknown m []) s
          ≡ broken_behind (course_to step m (event_at w s) k).went.outcome (heard_behind (is_numbered s) (bytes_in w s) (course_to step m (event_at w s) k))
          (drop (line_start (bytes_in w s) k) s) (fit_of (line (is_numbered s) w) (drop (line_start (bytes_in w s) k) s))
      broken_heard fit =
          let c = course_to step m (event_at w s) k in
          ap (λ (t : List ℕ). hear_all w step (between 0 Unknown m []) t) (sym (take-append-drop (line_start size k) s))
          ∙ foldl-append (hear w step) (between 0 Unknown m []) (take (line_start size k) s) rest
          ∙ ap (λ (g : Heard). hear_all w step g rest) (lines_heard w step m s still k fit)
          ∙ on c c.went.outcome refl (all_done step m (event_at w s) k)
