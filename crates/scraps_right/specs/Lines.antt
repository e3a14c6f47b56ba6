-- LINE BY LINE: the bytes of a whole line, one by one, are one step; so the bytes of some lines are the course of their events.
use Prim.Native.Nat.{ℕ, zero, suc, ◌/◌, ◌≤◌, ◌<◌, zero-le}
use Rattle.std.proofs.Common.{arith, le-div_iff_mul-le, subst, ◌∙◌, take-add}
use Rattle.std.specs.Prelude.{◌≡◌, Bool, true, false, eqb, length, drop, get_or, Ok, Err}
use Rattle.std.proofs.Math.Path.{refl, sym, ap}
use mathlib.Core.List.{List, [], map-append, foldl-append}
use borrow.Author.Tests.{lt-ltb, le-ltb, eqb-true}
use Rattle.std.proofs.Math.ListN.{take, length-take, length-drop}
use Rattle.answers.specs.declared.Refusal.{Refusal}
use Rattle.answers.specs.Results.{Answer}
use Rattle.answers.specs.Results.{Outcome}
use Rattle.text.specs.Slot.{Slot, exactly, admits, matched}
use Rattle.text.specs.Matched.{first_admits}
use Rattle.text.specs.Form.{seen}
use Rattle.text.specs.Promises.{fit_of}
use Rattle.text.specs.Many.{offset}
use Rattle.text.specs.Lines.{line_start, start_is}
use Rattle.text.specs.LinesRead.{Fit, line_or}
use Rattle.event_log.specs.declared.Event.{Event}
use Rattle.event_log.specs.Line.{line, line_bytes, line_reads, line_fixed, numbered_begins, plain_begins}
use Rattle.event_log.specs.Read.{is_numbered, bytes_in, event_as, event_at}
use Rattle.sides.specs.declared.Monitor.{Monitor}
use Rattle.monitor.specs.declared.Watched.{Watched}
use Rattle.course.specs.Course.{Course, takes, number_in, go_on, course_to, verdict_bytes}
use Rattle.radio.specs.declared.Form.{Form}
use Rattle.radio.specs.declared.Form.TheVariants.{Unknown}
use Rattle.radio.specs.Radio.{Heard, agrees, form_of, good_of, answered, ended, hear, hear_all}
use Rattle.radio.specs.Pieces.{Kept, pieced}
use Rattle.radio.proofs.PiecesLaws.{hears_no_more, pieces}
use Rattle.scraps_right.specs.Claims.{placed_at}
use Rattle.scraps_right.specs.Front.{fit_front, guess_front, last_fits, fit_long}

-- ---- what is heard behind a course

-- the form of the lines before is known behind the first
abbrev pub form_at : Bool → ℕ → Form
form_at numbered zero = Unknown
form_at numbered (suc k) = form_of numbered

-- nothing is kept of a line, and nothing is refused
abbrev pub between : ℕ → Form → Monitor → List ℕ → Heard
between start form m vs = record { ear = record { part = []; start = start; form = form; standing = Ok tt; monitor = m }; verdicts = vs }

-- behind lines of n bytes each: the verdicts of a course, its monitor, and the refusal of its last event, if there is one
abbrev pub heard_behind : Bool → ℕ → Course → Heard
heard_behind numbered n c = record {
  ear = record {
    part = [];
    start = line_start n c.went.done;
    form = form_at numbered c.went.done;
    standing = placed_at (line_start n c.went.done) c.went.outcome;
    monitor = c.went.monitor;
  };
  verdicts = verdict_bytes c.lamps;
}

pub agrees_own : (numbered : Bool) (k : ℕ) → agrees (form_at numbered k) numbered ≡ true
agrees_own numbered zero = refl
agrees_own true (suc k) = refl
agrees_own false (suc k) = refl

-- ---- the first byte

-- a text that fits a line of the one form or the other with a byte begins as it does
pub first_is : (w : ℕ) (numbered : Bool) (q : List ℕ) → 0 < fit_of (line numbered w) q → is_numbered q ≡ numbered
unfolding is_numbered admits seen
first_is w true q h =
    let (ts, e) = numbered_begins w ((line true w).guess q) ((line_reads true w).fine q) in
    (first_admits q (exactly 110) ts (subst (λ (us : List Slot). 0 < matched q us) e h)).1
first_is w false q h =
    let (ts, e) = plain_begins w ((line false w).guess q) ((line_reads false w).fine q) in
    ap (λ (b : ℕ). eqb b 110) (eqb-true (get_or q 0 0) 115 (first_admits q (exactly 115) ts (subst (λ (us : List Slot). 0 < matched q us) e h)).1)

pub good_own : (w : ℕ) (numbered : Bool) (form : Form) (q : List ℕ) → is_numbered q ≡ numbered → agrees form numbered ≡ true → good_of w form q ≡ fit_of (line numbered w) q
unfolding good_of
good_own w numbered form q is fine = rw (is, fine) refl

pub none_kept : (w : ℕ) (form : Form) → Kept w form []
none_kept w form = record { short = (line_fixed (is_numbered []) w).some; begun = zero-le }

-- ---- the event of a line

pub event_is : (numbered : Bool) (w : ℕ) (s : List ℕ) (k : ℕ) → line_start (line_bytes numbered w) (suc k) ≤ length s
    → event_as numbered w s k ≡ (line numbered w).guess (drop (line_start (line_bytes numbered w) k) s)
unfolding event_as line_or
event_is numbered w s k room =
    let n = line_bytes numbered w in
    let low : k < length s / n = (le-div_iff_mul-le {x = suc k} (line_fixed numbered w).some).1 (subst (λ (i : ℕ). i ≤ length s) (start_is n (suc k)) room) in
    rw (lt-ltb k (length s / n) low) refl

module _ (w : ℕ) (step : Monitor → Event → Watched) where
  -- ---- A WHOLE LINE is one step
  pub line_heard : (numbered : Bool) (start : ℕ) (form : Form) (m : Monitor) (vs q : List ℕ) → agrees form numbered ≡ true → length q ≡ line_bytes numbered w
      → fit_of (line numbered w) q ≡ line_bytes numbered w → hear_all w step (between start form m vs) q ≡ ended w step (between start form m vs) q
  unfolding pieced
  line_heard numbered start form m vs q fine long fits =
      let n = line_bytes numbered w in
      let h = between start form m vs in
      let some : 0 < n = (line_fixed numbered w).some in
      let is : is_numbered q ≡ numbered = first_is w numbered q (omega (arith, fits)) in
      let size : bytes_in w q ≡ n = ap (λ (b : Bool). line_bytes b w) is in
      let good : good_of w form q ≡ n = good_own w numbered form q is fine ∙ fits in
      pieces w step q h refl (none_kept w form) (omega (arith, long)) (omega (arith, long, size))
      ∙ rw (le-ltb (good_of w form q) (length q) (omega (arith, good, long)), le-ltb (length q) (bytes_in w q) (omega (arith, size, long))) refl

  -- ---- LINES are the course of their events. A step that is refused leaves the monitor
  module _ (m : Monitor) (s : List ℕ) (still : (x : Monitor) (e : Event) (r : Refusal) → (step x e).answer ≡ Err r → (step x e).monitor ≡ x) where
    abbrev numbered : Bool
    numbered = is_numbered s

    abbrev n : ℕ
    n = bytes_in w s

    module _ (k : ℕ) (fit : Fit (line (is_numbered s) w) (bytes_in w s) s (suc k)) where
      abbrev q : List ℕ
      q = take n (drop (line_start n k) s)

      room : line_start (bytes_in w s) (suc k) ≤ length s
      room = fit_long (line numbered w) n (line_fixed numbered w) s (suc k) fit

      long : length (take (bytes_in w s) (drop (line_start (bytes_in w s) k) s)) ≡ bytes_in w s
      unfolding offset
      long = omega (arith, length-take n (drop (line_start n k) s), length-drop (line_start n k) s, room)

      rest_fits : fit_of (line (is_numbered s) w) (drop (line_start (bytes_in w s) k) s) ≡ bytes_in w s
      rest_fits = (last_fits (line numbered w) n (line_fixed numbered w) s k fit).1

      fits : fit_of (line (is_numbered s) w) (take (bytes_in w s) (drop (line_start (bytes_in w s) k) s)) ≡ bytes_in w s
      fits = fit_front (line_fixed numbered w) (drop (line_start n k) s) n (omega (arith, rest_fits)) ∙ rest_fits

      is : is_numbered (take (bytes_in w s) (drop (line_start (bytes_in w s) k) s)) ≡ is_numbered s
      is = first_is w numbered q (omega (arith, fits, (line_fixed numbered w).some))

      -- the line alone has the event that it has in the log
      same_event : event_at w (take (bytes_in w s) (drop (line_start (bytes_in w s) k) s)) 0 ≡ event_at w s k
      unfolding offset
      same_event =
          ap (λ (b : Bool). event_as b w q 0) is ∙ event_is numbered w q 0 (omega (arith, long))
          ∙ guess_front (line_fixed numbered w) (drop (line_start n k) s) n rest_fits (omega arith) ∙ sym (event_is numbered w s k room)

      by_answer : (c : Course) (x : Watched) (a : Answer) → ((r : Refusal) → a ≡ Err r → x.monitor ≡ c.went.monitor)
          → answered (between (line_start n c.went.done) (form_at numbered c.went.done) c.went.monitor (verdict_bytes c.lamps)) q x a
          ≡ heard_behind numbered n (takes c (number_in c.went.monitor (event_at w s k)) x a)
      unfolding offset
      by_answer c x (Ok l) stays = rw (long, is, map-append) refl
      by_answer c x (Err r) stays = rw (stays r refl) refl

      next : (c : Course) (o : Outcome) → c.went.outcome ≡ o
          → hear_all w step (heard_behind numbered n c) q ≡ heard_behind numbered n (go_on step c (event_at w s k) c.went.outcome)
      next c (Err r) e =
          hears_no_more w step (heard_behind numbered n c) (ap (placed_at (line_start n c.went.done)) e) q ∙ ap (λ (o : Outcome). heard_behind numbered n (go_on step c (event_at w s k) o)) (sym e)
      next c (Ok _) e =
          let h = between (line_start n c.went.done) (form_at numbered c.went.done) c.went.monitor (verdict_bytes c.lamps) in
          let x = step c.went.monitor (event_at w s k) in
          ap (λ (o : Outcome). hear_all w step (record { ear = record { part = []; start = line_start n c.went.done; form = form_at numbered c.went.done; standing = placed_at (line_start n c.went.done) o; monitor = c.went.monitor }; verdicts = verdict_bytes c.lamps }) q) e
          ∙ line_heard numbered (line_start n c.went.done) (form_at numbered c.went.done) c.went.monitor (verdict_bytes c.lamps) q (agrees_own numbered c.went.done) long fits
          ∙ ap (λ (v : Event). answered h q (step c.went.monitor v) (step c.went.monitor v).answer) same_event
          ∙ by_answer c x x.answer (still c.went.monitor (event_at w s k))
          ∙ ap (λ (o : Outcome). heard_behind numbered n (go_on step c (event_at w s k) o)) (sym e)

    pub lines_heard : (k : ℕ) → Fit (line (is_numbered s) w) (bytes_in w s) s k
        → hear_all w step (between 0 Unknown m []) (take (line_start (bytes_in w s) k) s) ≡ heard_behind (is_numbered s) (bytes_in w s) (course_to step m (event_at w s) k)
    unfolding course_to offset
    lines_heard zero fit = refl
    lines_heard (suc k) fit =
        let first = take (line_start n k) s in
        ap (λ (t : List ℕ). hear_all w step (between 0 Unknown m []) t) (take-add (line_start n k) n s)
        ∙ foldl-append (hear w step) (between 0 Unknown m []) first (q k fit)
        ∙ ap (λ (h : Heard). hear_all w step h (q k fit)) (lines_heard k (last_fits (line numbered w) n (line_fixed numbered w) s k fit).0)
        ∙ next k fit (course_to step m (event_at w s) k) (course_to step m (event_at w s) k).went.outcome refl
