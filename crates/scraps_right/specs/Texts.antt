-- A TEXT BYTE BY BYTE is its whole lines one by one, and behind them what the log's reader says of its form.
use Prim.Native.Nat.{ℕ, zero, suc, ◌+◌, ◌/◌, ◌≤◌, ◌<◌, zero-le}
use native.Mathlib.Omega.{arith}
use Rattle.std.proofs.Common.{le-div_iff_mul-le, div-lt_iff_lt-mul, subst, ◌∙◌, ⊎_elim, lt-ltb, le-ltb, ne_eqb, length-take, length-drop, take_all, get_or-take}
use Rattle.std.specs.Prelude.{◌≡◌, Bool, cond, drop, Ok, Err}
use Rattle.std.proofs.Math.Path.{refl, sym, ap, ap₂}
use mathlib.Core.List.{List, []}
use Rattle.std.proofs.Math.Dec.{eqb}
use Rattle.std.proofs.Math.ListN.{length, take}
use Rattle.answers.specs.declared.Kind.TheVariants.{LogText}
use Rattle.answers.specs.declared.Refusal.{Refusal}
use Rattle.answers.specs.Results.{Outcome}
use Rattle.answers.specs.Chain.{and_then}
use Rattle.answers.specs.Paper.{refused_at}
use Rattle.text.specs.Cases.{below_or_beyond}
use Rattle.text.specs.Matched.{matched_text}
use Rattle.text.specs.Promises.{fit_of}
use Rattle.text.specs.Many.{offset}
use Rattle.text.specs.Lines.{line_start, start_is, start_grows, all_begun}
use Rattle.text.specs.LinesRead.{Fit, none_fit, line_end, line_off}
use Rattle.event_log.specs.declared.Event.{Event}
use Rattle.event_log.specs.declared.LogRead.{LogRead}
use Rattle.event_log.specs.Line.{line, line_bytes, line_fixed}
use Rattle.event_log.specs.Read.{is_numbered, bytes_in, refused_log, accepted_log, read_as, log_read, whole_lines, event_as, event_at}
use Rattle.sides.specs.declared.Monitor.{Monitor}
use Rattle.monitor.specs.declared.Watched.{Watched}
use Rattle.course.specs.Course.{Course, go_on, course_to, verdict_bytes}
use Rattle.radio.specs.declared.Form.TheVariants.{Unknown}
use Rattle.radio.specs.Radio.{Ear, Heard, hear_all}
use Rattle.scraps_right.specs.Claims.{lines_to, lines_of, placed_at, so_far}
use Rattle.scraps_right.specs.Front.{fit_long, cut_line, cut_fits, Ends, lined, broken, ends}
use Rattle.scraps_right.specs.Lines.{between, heard_behind, event_is, lines_heard}
use Rattle.scraps_right.specs.Broken.{broken_behind, all_done, broken_heard}

-- what the end says of a line that is not whole
abbrev pub end_of : Ear → Outcome
end_of e = cond (eqb (length e.part) 0) (Ok tt) (Err (refused_at LogText (e.start + length e.part)))

-- ---- the text cut behind lines that fit

module _ (w : ℕ) (s : List ℕ) where
  abbrev numbered : Bool
  numbered = is_numbered s

  abbrev n : ℕ
  n = bytes_in w s

  abbrev cut : ℕ → List ℕ
  cut k = take (line_start n k) s

  abbrev FitTo : ℕ → Type 0
  FitTo k = Fit (line numbered w) n s k

  cut_long : (k : ℕ) → FitTo k → length (cut k) ≡ line_start n k
  cut_long k fit = omega (arith, length-take (line_start n k) s, fit_long (line numbered w) n (line_fixed numbered w) s k fit)

  cut_first : (k : ℕ) → is_numbered (cut (suc k)) ≡ is_numbered s
  unfolding is_numbered offset
  cut_first k = ap (λ (b : ℕ). eqb b 110) (get_or-take (line_start n (suc k)) s 0 0 (omega (arith, (line_fixed numbered w).some)))

  -- it is a log of k lines
  pub cut_read : (k : ℕ) → Fit (line (is_numbered s) w) (bytes_in w s) s k → log_read w (take (line_start (bytes_in w s) k) s) ≡ accepted_log k
  unfolding read_as offset
  cut_read zero fit = sym (line_end (line (is_numbered []) w) (bytes_in w []) (line_fixed (is_numbered []) w) refused_log accepted_log [] 0 (none_fit (line (is_numbered []) w) (bytes_in w []) (line_fixed (is_numbered []) w) []) zero-le)
  cut_read (suc k) fit =
      ap (λ (b : Bool). read_as b w (cut (suc k))) (cut_first k)
      ∙ sym (line_end (line numbered w) n (line_fixed numbered w) refused_log accepted_log (cut (suc k)) (suc k) (cut_fits (line numbered w) n (line_fixed numbered w) s (suc k) fit (suc k) (omega arith)) (omega (arith, cut_long (suc k) fit)))

  pub cut_many : (k : ℕ) → Fit (line (is_numbered s) w) (bytes_in w s) s k → whole_lines w (take (line_start (bytes_in w s) k) s) ≡ k
  unfolding offset
  cut_many zero fit = (all_begun (bytes_in w []) 0 0 (line_fixed (is_numbered []) w).some refl).1
  cut_many (suc k) fit =
      ap (λ (b : Bool). length (cut (suc k)) / line_bytes b w) (cut_first k) ∙ (all_begun n (length (cut (suc k))) (suc k) (line_fixed numbered w).some (cut_long (suc k) fit)).1

  -- and its events are those of the text
  cut_event : (k : ℕ) → FitTo (suc k) → (j : ℕ) → j < suc k → event_at w (cut (suc k)) j ≡ event_at w s j
  cut_event k fit j l =
      let inside = start_grows n (suc j) (suc k) l in
      ap (λ (b : Bool). event_as b w (cut (suc k)) j) (cut_first k)
      ∙ event_is numbered w (cut (suc k)) j (omega (arith, cut_long (suc k) fit, inside))
      ∙ cut_line (line numbered w) n (line_fixed numbered w) s (suc k) fit j l
      ∙ sym (event_is numbered w s j (omega (arith, fit_long (line numbered w) n (line_fixed numbered w) s (suc k) fit, inside)))

  module _ (step : Monitor → Event → Watched) (m : Monitor) where
    same_course : (e f : ℕ → Event) (k : ℕ) → ((j : ℕ) → j < k → e j ≡ f j) → course_to step m e k ≡ course_to step m f k
    unfolding course_to
    same_course e f zero same = refl
    same_course e f (suc k) same = ap₂ (λ (c : Course) (v : Event). go_on step c v c.went.outcome) (same_course e f k (λ j l. same j (omega arith))) (same k (omega arith))

    pub cut_course : (k : ℕ) → Fit (line (is_numbered s) w) (bytes_in w s) s k
        → course_to step m (event_at w (take (line_start (bytes_in w s) k) s)) (whole_lines w (take (line_start (bytes_in w s) k) s)) ≡ course_to step m (event_at w s) k
    unfolding course_to
    cut_course k fit = ap (course_to step m (event_at w (cut k))) (cut_many k fit) ∙ by k fit
      where
        by : (k : ℕ) → FitTo k → course_to step m (event_at w (cut k)) k ≡ course_to step m (event_at w s) k
        by zero fit = refl
        by (suc k) fit = same_course (event_at w (cut (suc k))) (event_at w s) (suc k) (cut_event k fit)

  -- the lines of the text are as long in what is cut
  cut_start : (step : Monitor → Event → Watched) (m : Monitor) (k : ℕ)
      → line_start (bytes_in w (take (line_start (bytes_in w s) k) s)) (course_to step m (event_at w s) k).went.done ≡ line_start (bytes_in w s) (course_to step m (event_at w s) k).went.done
  unfolding course_to offset
  cut_start step m zero = refl
  cut_start step m (suc k) = ap (λ (b : Bool). line_start (line_bytes b w) (course_to step m (event_at w s) (suc k)).went.done) (cut_first k)

  -- ---- what is heard

  -- beside a course, and what is said of the form
  pub record Found (c : Course) (form : Outcome) (h : Heard) : Type 0 where
    pub verdicts_are : h.verdicts ≡ verdict_bytes c.lamps
    pub monitor_is : h.ear.monitor ≡ c.went.monitor
    pub stands : h.ear.standing ≡ and_then (placed_at (line_start n c.went.done) c.went.outcome) (so_far (length s) form)
    pub ends_as : and_then h.ear.standing (end_of h.ear) ≡ and_then (placed_at (line_start n c.went.done) c.went.outcome) form

  and_accepted : (o : Outcome) → o ≡ and_then o (Ok tt)
  and_accepted (Ok _) = refl
  and_accepted (Err r) = refl

  found_lined : (c : Course) → Found c (Ok tt) (heard_behind numbered n c)
  found_lined c = record { verdicts_are = refl; monitor_is = refl; stands = and_accepted (placed_at (line_start n c.went.done) c.went.outcome); ends_as = refl }

  module _ (k : ℕ) (more : line_start (bytes_in w s) k < length s) where
    abbrev rest : List ℕ
    rest = drop (line_start n k) s

    abbrev good : ℕ
    good = fit_of (line numbered w) rest

    abbrev place : ℕ
    place = line_start n k + good

    found_broken : (c : Course) (o : Outcome) → c.went.outcome ≡ o → (c.went.outcome ≡ Ok tt → c.went.done ≡ k)
        → Found c (Err (refused_at LogText (line_start (bytes_in w s) k + fit_of (line (is_numbered s) w) (drop (line_start (bytes_in w s) k) s)))) (broken_behind c.went.outcome (heard_behind numbered n c) rest good)
    found_broken c (Err r) e d = subst (λ (o : Outcome). Found c (Err (refused_at LogText place)) (broken_behind o (heard_behind numbered n c) rest good)) (sym e)
        (record { verdicts_are = refl; monitor_is = refl; stands = rw e refl; ends_as = rw e refl })
    found_broken c (Ok _) e d = subst (λ (o : Outcome). Found c (Err (refused_at LogText place)) (broken_behind o (heard_behind numbered n c) rest good)) (sym e) (⊎_elim stops keeps (below_or_beyond good (length rest)))
      where
        done : c.went.done ≡ k
        done = d e

        long : length rest + line_start n k ≡ length s
        long = omega (arith, length-drop (line_start n k) s, more)

        stops : good < length rest → Found c (Err (refused_at LogText place)) (broken_behind (Ok tt) (heard_behind numbered n c) rest good)
        stops l = rw (lt-ltb good (length rest) l) (record {
          verdicts_are = refl;
          monitor_is = refl;
          stands = rw (e, lt-ltb place (length s) (omega (arith, long)), done) refl;
          ends_as = rw (e, done) refl;
        })

        keeps : length rest ≤ good → Found c (Err (refused_at LogText place)) (broken_behind (Ok tt) (heard_behind numbered n c) rest good)
        keeps l =
            let all : good ≡ length rest = omega (arith, matched_text rest ((line numbered w).slots ((line numbered w).guess rest))) in
            rw (le-ltb good (length rest) l) (record {
              verdicts_are = refl;
              monitor_is = refl;
              stands = rw (e, le-ltb place (length s) (omega (arith, long))) refl;
              ends_as = rw (e, ne_eqb (length rest) 0 (λ z. omega (arith, long)), done, all) refl;
            })

    -- the place tells how many whole lines stand before it
    pub lines_before : fit_of (line (is_numbered s) w) (drop (line_start (bytes_in w s) k) s) < bytes_in w s
        → (line_start (bytes_in w s) k + fit_of (line (is_numbered s) w) (drop (line_start (bytes_in w s) k) s)) / bytes_in w s ≡ k
    unfolding offset
    lines_before bad =
        let some = (line_fixed numbered w).some in
        let least : k ≤ place / n = (le-div_iff_mul-le {x = k} some).1 (subst (λ (i : ℕ). i ≤ place) (start_is n k) (omega arith)) in
        let most : place / n < suc k = (div-lt_iff_lt-mul {x = place} {y = suc k} some).1 (subst (λ (i : ℕ). place < i) (start_is n (suc k)) (omega arith)) in
        omega arith

  -- the lines of a text are those of a cut, by how far it is of the form
  pub record LinesOf (k : ℕ) : Type 0 where
    pub fit : Fit (line (is_numbered s) w) (bytes_in w s) s k
    pub are : lines_of w s ≡ take (line_start (bytes_in w s) k) s

  pub lines_lined : (k : ℕ) → FitTo k → length s ≡ line_start n k → ((log_read w s).outcome ≡ Ok tt) × LinesOf k
  unfolding read_as
  lines_lined k fit long =
      let read : (log_read w s).outcome ≡ (Ok tt) = ap (λ (r : LogRead). r.outcome) (sym (line_end (line numbered w) n (line_fixed numbered w) refused_log accepted_log s k fit (omega (arith, long)))) in
      (read, record { fit = fit; are = ap (lines_to n s) read ∙ sym (take_all (line_start n k) s (omega (arith, long))) })

  pub lines_broken : (k : ℕ) → FitTo k → line_start n k < length s → fit_of (line numbered w) (drop (line_start n k) s) < n
      → ((log_read w s).outcome ≡ Err (refused_at LogText (line_start n k + fit_of (line numbered w) (drop (line_start n k) s)))) × LinesOf k
  unfolding read_as
  lines_broken k fit more bad =
      let good = fit_of (line numbered w) (drop (line_start n k) s) in
      let read : (log_read w s).outcome ≡ Err (refused_at LogText (line_start n k + good)) =
      ap (λ (r : LogRead). r.outcome) (sym (line_off (line numbered w) n (line_fixed numbered w) refused_log accepted_log s (line_start n k) k good ((line numbered w).guess (drop (line_start n k) s)) refl fit more (record { is = refl; goes = refl }) bad)) in
      (read, record { fit = fit; are = ap (lines_to n s) read ∙ ap (λ (j : ℕ). take (line_start n j) s) (lines_before k more bad) })

  some_lines : (k : ℕ) × LinesOf k
  some_lines = by (ends (line numbered w) n (line_fixed numbered w) s)
    where
      by : Ends (line numbered w) n (line_fixed numbered w) s → (k : ℕ) × LinesOf k
      by (lined k fit long) = (k, (lines_lined k fit long).1)
      by (broken k fit more bad) = (k, (lines_broken k fit more bad).1)

  -- they are a log, and as long as in the text
  pub lines_read_lem : log_read w (lines_of w s) ≡ accepted_log (whole_lines w (lines_of w s))
  lines_read_lem =
      let (k, l) = some_lines in
      ap (log_read w) l.are ∙ cut_read k l.fit ∙ ap accepted_log (sym (ap (whole_lines w) l.are ∙ cut_many k l.fit))

  pub lines_start : (step : Monitor → Event → Watched) (m : Monitor)
      → let done = (course_to step m (event_at w (lines_of w s)) (whole_lines w (lines_of w s))).went.done in line_start (bytes_in w (lines_of w s)) done ≡ line_start (bytes_in w s) done
  lines_start step m =
      let (k, l) = some_lines in
      subst (λ (t : List ℕ). line_start (bytes_in w t) (course_to step m (event_at w t) (whole_lines w t)).went.done ≡ line_start n (course_to step m (event_at w t) (whole_lines w t)).went.done) (sym l.are)
      (subst (λ (c : Course). line_start (bytes_in w (cut k)) c.went.done ≡ line_start n c.went.done) (sym (cut_course step m k l.fit)) (cut_start step m k))

  module _ (step : Monitor → Event → Watched) (m : Monitor) (still : (x : Monitor) (e : Event) (r : Refusal) → (step x e).answer ≡ Err r → (step x e).monitor ≡ x) where
    abbrev C : ℕ → Course
    C k = course_to step m (event_at w s) k

    -- by how many lines fit, and what is said of the form
    by_lines : (k : ℕ) {form : Outcome} {h : Heard} → ((log_read w s).outcome ≡ form) × LinesOf k → hear_all w step (between 0 Unknown m []) s ≡ h → Found (C k) form h
        → Found (course_to step m (event_at w (lines_of w s)) (whole_lines w (lines_of w s))) (log_read w s).outcome (hear_all w step (between 0 Unknown m []) s)
    by_lines k {form} {h} (read, l) heard found =
        let course : course_to step m (event_at w (lines_of w s)) (whole_lines w (lines_of w s)) ≡ C k = ap (λ (t : List ℕ). course_to step m (event_at w t) (whole_lines w t)) l.are ∙ cut_course step m k l.fit in
        rw (course, read, heard) found

    -- THE TEXT
    pub text_heard : Found (course_to step m (event_at w (lines_of w s)) (whole_lines w (lines_of w s))) (log_read w s).outcome (hear_all w step (between 0 Unknown m []) s)
    text_heard = by (ends (line numbered w) n (line_fixed numbered w) s)
      where
        by : Ends (line numbered w) n (line_fixed numbered w) s → Found (course_to step m (event_at w (lines_of w s)) (whole_lines w (lines_of w s))) (log_read w s).outcome (hear_all w step (between 0 Unknown m []) s)
        by (lined k fit long) =
            by_lines k (lines_lined k fit long)
            (ap (λ (t : List ℕ). hear_all w step (between 0 Unknown m []) t) (sym (take_all (line_start n k) s (omega (arith, long)))) ∙ lines_heard w step m s still k fit) (found_lined (C k))
        by (broken k fit more bad) =
            by_lines k (lines_broken k fit more bad) (broken_heard w step m s still k more bad fit) (found_broken k more (C k) (C k).went.outcome refl (all_done step m (event_at w s) k))
