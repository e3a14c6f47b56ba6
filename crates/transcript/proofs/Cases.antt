-- An output by whether a check accepted, or refused; and the lines of a course.
use Rattle.std.specs.Prelude.{Ok, Err}
use Prim.Native.Nat.{ℕ, ◌*◌, ◌≤◌}
use native.Mathlib.Nat.{le_trans}
use native.Mathlib.Omega.{arith}
use mathlib.Core.Path.{◌≡◌, sym, ap, ap₂, subst, ◌∙◌}
use mathlib.Core.Bool.{Bool, true, false}
use mathlib.Core.List.{List, ◌++◌, append-nil}
use lib.ListN.{length, get_or, drop, length-map}
use Rattle.answers.specs.declared.Lamp.{Lamp}
use Rattle.answers.specs.declared.Refusal.{Refusal}
use Rattle.answers.specs.Results.{Outcome}
use Rattle.report.specs.Text.{refused_text, start_text}
use Rattle.report.specs.Line.{Put}
use Rattle.report.proofs.Puts.{puts}
use Rattle.pairs.specs.declared.Pairs.{Pairs}
use Rattle.plant.specs.declared.Plant.{Plant}
use Rattle.text.specs.Number.{width_of}
use Rattle.text.specs.Lines.{line_start, start_is, lines_inside}
use Rattle.event_log.specs.Line.{line_fixed}
use Rattle.event_log.specs.Read.{is_numbered, bytes_in, whole_lines}
use Rattle.syntax.specs.declared.Rule.{Rule}
use Rattle.live.specs.Prepare.{prepared_of}
use Rattle.live.specs.Promises.{prepare_accepted}
use Rattle.sides.specs.declared.Monitor.{Monitor}
use Rattle.monitor.specs.declared.Watched.{Watched}
use Rattle.monitor.specs.Calls.{open_call}
use Rattle.course.specs.declared.Went.{Went}
use Rattle.course.specs.Laid.{laid_over, laid_length}
use Rattle.course.specs.Course.{Course, verdict_bytes, left_bytes, Followed, Fitting}
use Rattle.course.proofs.CourseRight.{opened_fitting}
use Rattle.course.specs.Lamps.{Counted}
use Rattle.transcript.specs.Place.{placed_at}
use Rattle.lamp_lines.specs.Lines.{byte_lines, lines_text}
use Rattle.lamp_lines.proofs.Lines.{lines_are}
use Rattle.transcript.specs.Said.{file_of, bytes_of, log_outcome, or_refused, stop_text, behind_text, opened_text}

module _ {b now : List ℕ} {end : ℕ} where
  -- by the outcome of a call
  pub refused_said : {R : Type 0} (out : R → Outcome) (F : R → List ℕ) {r x : R} {q : Refusal} → r ≡ x → out r ≡ Err q → Put b 0 (refused_text q) now end → Put b 0 (or_refused (out x) (F x)) now end
  refused_said {R} out F e f h = subst (λ (y : R). Put b 0 (or_refused (out y) (F y)) now end) e (rw f h)

  pub accepted_said : {R : Type 0} (out : R → Outcome) (F : R → List ℕ) {r x : R} → r ≡ x → out r ≡ Ok tt → Put b 0 (F r) now end → Put b 0 (or_refused (out x) (F x)) now end
  accepted_said {R} out F e f h = subst (λ (y : R). Put b 0 (or_refused (out y) (F y)) now end) e (rw f h)

  -- a log whose form was accepted is there
  pub log_there : (props : ℕ) (ok : Bool) (text : List ℕ) {o : Outcome} (F : List ℕ → List ℕ) → o ≡ log_outcome props (file_of ok text) → o ≡ Ok tt → Put b 0 (F text) now end → Put b 0 (F (bytes_of (file_of ok text))) now end
  log_there props true text F e f h = h
  log_there props false text F e f h = absurd (let z : ◌≡◌ {A = ℕ} 0 1 = cc in omega arith)

-- behind the lines: nothing, or the refusal of the event behind them
pub went_all : {b lines now : List ℕ} {at end : ℕ} {o : Outcome} (offset : ℕ) → o ≡ Ok tt → Put b at lines now end → Put b at (lines ++ stop_text o offset) now end
went_all offset e p = rw (e, append-nil) p

pub went_stopped : {b lines mid now : List ℕ} {at end last : ℕ} {o : Outcome} {r s : Refusal} (offset : ℕ) → o ≡ Err r → s ≡ placed_at r offset → Put b at lines mid end → Put mid end (refused_text s) now last
    → Put b at (lines ++ stop_text o offset) now last
went_stopped offset e f p q = rw (e, ← f) (puts p q)

-- a line's place is within the text
pub line_inside : (props : ℕ) (text : List ℕ) {bytes k : ℕ} → bytes ≡ bytes_in (width_of props) text → k ≤ whole_lines (width_of props) text → k * bytes ≤ length text
line_inside props text {bytes} {k} wide h = lines_inside bytes (length text) k (omega (arith, wide, (line_fixed (is_numbered text) (width_of props)).some)) (rw wide h)

-- the lines of a course, from the bytes that the loop stored
module _ {c : Course} {n : ℕ} (h : Counted n c) {verdicts₀ lefts₀ numbers₀ verdicts lefts numbers : List ℕ} {r : Went} (w : Followed c verdicts₀ lefts₀ numbers₀ verdicts lefts numbers r) where
  done_is : r.done ≡ length c.lamps
  done_is = ap (λ (x : Went). x.done) w.went ∙ h.done

  pub done_few : r.done ≤ n
  done_few = rw done_is h.few

  pub verdicts_long : length verdicts ≡ length verdicts₀
  verdicts_long = ap length w.verdicts_are ∙ laid_length (verdict_bytes c.lamps) verdicts₀

  pub lefts_long : length lefts ≡ length lefts₀
  lefts_long = ap length w.lefts_are ∙ laid_length (left_bytes c.lamps) lefts₀

  pub numbers_long : length numbers ≡ length numbers₀
  numbers_long = ap length w.numbers_are ∙ laid_length c.numbers numbers₀

  module _ (v : n ≤ length verdicts₀) (l : n ≤ length lefts₀) (k : n ≤ length numbers₀) where
    verdicts_over : verdicts ≡ verdict_bytes c.lamps ++ drop (length (verdict_bytes c.lamps)) verdicts₀
    verdicts_over = w.verdicts_are ∙ laid_over (verdict_bytes c.lamps) verdicts₀ (rw length-map (le_trans h.few v))

    lefts_over : lefts ≡ left_bytes c.lamps ++ drop (length (left_bytes c.lamps)) lefts₀
    lefts_over = w.lefts_are ∙ laid_over (left_bytes c.lamps) lefts₀ (rw length-map (le_trans h.few l))

    numbers_over : numbers ≡ c.numbers ++ drop (length c.numbers) numbers₀
    numbers_over = w.numbers_are ∙ laid_over c.numbers numbers₀ (rw h.named (le_trans h.few k))

    lines : byte_lines r.done verdicts lefts numbers ≡ lines_text (λ j. get_or c.numbers j 0) c.lamps
    lines = rw (done_is, verdicts_over, lefts_over, numbers_over) (lines_are c.lamps h.lefts c.numbers h.named _ _ _)

    pub course_said : {wide bytes : ℕ} → bytes ≡ wide → {b now : List ℕ} {at end : ℕ}
        → Put b at (byte_lines r.done verdicts lefts numbers ++ stop_text r.outcome (r.done * bytes)) now end → Put b at (behind_text wide c) now end
    course_said {wide} is {b} {now} {at} {end} p =
        subst (λ (s : List ℕ). Put b at s now end)
        (ap₂ (λ (s : List ℕ) (x : Went). s ++ stop_text x.outcome (line_start wide x.done)) lines w.went)
        (rw (is, ← start_is wide r.done) at p)

-- what an opened monitor shows, and what follows
module _ {b now : List ℕ} {end : ℕ} (bytes : ℕ) (F : Monitor → Course) {w x : Watched} (e : w ≡ x) where
  pub not_opened : {r : Refusal} → w.answer ≡ Err r → Put b 0 (refused_text r) now end → Put b 0 (opened_text bytes x.answer (F x.monitor)) now end
  not_opened f h = subst (λ (y : Watched). Put b 0 (opened_text bytes y.answer (F y.monitor)) now end) e (rw f h)

  pub opened_said : {l : Lamp} {mid : List ℕ} {at : ℕ} → w.answer ≡ Ok l → Put b 0 (start_text l) mid at → Put mid at (behind_text bytes (F w.monitor)) now end
      → Put b 0 (opened_text bytes x.answer (F x.monitor)) now end
  opened_said f p q = subst (λ (y : Watched). Put b 0 (opened_text bytes y.answer (F y.monitor)) now end) e (rw f (puts p q))

-- and that a log may be followed from it
pub fits_opened : (p : Plant) (fair label next : List ℕ) (rule : Rule) → length rule.nodes ≡ 32 → (prepared_of p fair label next rule).outcome ≡ Ok tt
    → {live : Pairs} → live ≡ (prepared_of p fair label next rule).live → {w : Watched} → w ≡ open_call p fair label next rule live → Fitting p fair label next rule live w.monitor
fits_opened p fair label next rule full ok {live} l e =
    subst (λ (x : Watched). Fitting p fair label next rule live x.monitor) (sym e)
    (subst (λ (s : Pairs). Fitting p fair label next rule s (open_call p fair label next rule s).monitor) (sym l)
    (opened_fitting p fair label next rule ((prepare_accepted p fair label next rule full).0 ok)))
