-- Scraps beside the whole-log call: its claims, proved. Both follow the public step, line after line.
use Rattle.std.specs.Prelude.{ℕ, ◌≤◌, ◌≡◌, refl, length, Ok, Err}
use Rattle.std.proofs.Common.{sym, ◌∙◌}
use Rattle.std.proofs.Math.Path.{ap, ap₂}
use mathlib.Core.List.{List}
use borrow.Author.Tests.{le-leb}
use Rattle.std.proofs.lemmas.List.{length-map}
use Rattle.answers.specs.declared.Lamp.{Lamp}
use Rattle.answers.specs.Results.{Outcome}
use Rattle.answers.specs.Paper.{number_of}
use Rattle.answers.specs.Chain.{and_then}
use Rattle.text.specs.Number.{width_of}
use Rattle.text.specs.Lines.{line_start}
use Rattle.event_log.specs.Read.{bytes_in, log_read, whole_lines, event_at}
use Rattle.monitor.specs.Calls.{step_call}
use Rattle.course.specs.Course.{Course, course_of, verdict_bytes}
use Rattle.course.specs.Lamps.{counted}
use Rattle.opened.specs.declared.Opened.{Opened}
use Rattle.opened.specs.Opened.{fair_in, label_in, next_in, opened_of}
use Rattle.opened.proofs.Fits.{opened_full, opened_fits}
use Rattle.controller.specs.declared.LogAnswer.{LogAnswer}
use Rattle.controller.specs.Whole.{Heard, log_checked, end_at, heard_by, heard_in, heard_of}
use Rattle.scraps.specs.Calls.{heard_answer}
use Rattle.cuttings.specs.Scraps.{Scrap, text}
use Rattle.scraps_right.specs.Claims.{lines_to, lines_of, placed_at, LineByLine, stop_or, count_of, said_by_all, end_of_all, GivenTexts, AsWholeLog, AsLinesBefore}
use Rattle.scraps_right.specs.Texts.{lines_read_lem, lines_start}
use Rattle.scraps_right.specs.Promises.{every_cutting}

and_accepted : (o : Outcome) → and_then o (Ok tt) ≡ o
and_accepted (Ok _) = refl
and_accepted (Err r) = refl

-- an answer is the refusal of an event at its place, and how many came before
end_is : (offset done : ℕ) (o : Outcome) → end_at offset o done ≡ heard_answer (placed_at offset o) done
end_is offset done (Ok _) = refl
end_is offset done (Err r) = refl

count_is : (offset done : ℕ) (o : Outcome) → done ≡ count_of (end_at offset o done)
count_is offset done (Ok _) = refl
count_is offset done (Err r) = refl

stop_is : (offset done : ℕ) (o form : Outcome) → and_then (placed_at offset o) form ≡ stop_or (end_at offset o done) form
stop_is offset done (Ok _) form = refl
stop_is offset done (Err r) form = refl

module _ (table rule : List ℕ) where
  abbrev o : Opened
  o = opened_of table rule

  abbrev W : ℕ
  W = width_of o.table.plant.props

  abbrev course : List ℕ → Course
  course log = course_of o.table.plant (fair_in o.table) (label_in o.table) (next_in o.table) o.rule o.live o.monitor log

  -- a log and a buffer, by what their check says
  heard_is : o.outcome ≡ Ok tt → (log : List ℕ) (room : ℕ) (c : Outcome) → log_checked o.table.plant.props log room ≡ c → heard_of table rule log room ≡ heard_in c o log
  unfolding heard_of
  heard_is ok log room c e = ap₂ (λ (x y : Outcome). heard_in (and_then x y) o log) ok e

  module _ (ss : List Scrap) (g : GivenTexts table rule ss) where
    lines : LineByLine o.table.plant (fair_in o.table) (label_in o.table) (next_in o.table) o.rule o.live o.monitor ss
    lines = every_cutting o.table.plant (fair_in o.table) (label_in o.table) (next_in o.table) o.rule o.live o.monitor ss
        (record { full = opened_full table rule; fits = opened_fits table rule g.opened; roomy = g.roomy; short = g.short })

    -- as many verdicts as events that were taken
    many : length (said_by_all table rule ss) ≡ (course (lines_of W (text ss))).went.done
    many =
        let t = lines_of W (text ss) in
        ap length lines.verdicts_are ∙ length-map (course t).lamps (λ (l : Lamp). number_of l.verdict)
        ∙ sym (counted o.table.plant (fair_in o.table) (label_in o.table) (next_in o.table) o.rule o.live o.monitor (event_at W t) (whole_lines W t)).done

    -- the whole-log call on the lines alone
    pub lines_alone : (buffer : ℕ) → whole_lines W (lines_of W (text ss)) ≤ buffer
        → let alone = heard_of table rule (lines_of W (text ss)) buffer in
        (said_by_all table rule ss ≡ alone.bytes) × (length (said_by_all table rule ss) ≡ count_of alone.answer) × (end_of_all table rule ss ≡ stop_or alone.answer (log_read W (text ss)).outcome)
    unfolding log_checked
    lines_alone buffer enough =
        let log = text ss in
        let t = lines_of W log in
        let went = (course t).went in
        let heard : heard_of table rule t buffer ≡ heard_by (bytes_in W t) (course t) = heard_is g.opened t buffer (Ok tt) (rw (lines_read_lem W log, le-leb (whole_lines W t) buffer enough) refl) in
        let same : line_start (bytes_in W t) went.done ≡ line_start (bytes_in W log) went.done =
        lines_start W log (step_call o.table.plant (fair_in o.table) (label_in o.table) (next_in o.table) o.rule o.live) o.monitor in (
          lines.verdicts_are ∙ ap (λ (h : Heard). h.bytes) (sym heard),
          many ∙ count_is (line_start (bytes_in W t) went.done) went.done went.outcome ∙ ap (λ (h : Heard). count_of h.answer) (sym heard),
          lines.ends ∙ ap (λ (i : ℕ). and_then (placed_at i went.outcome) (log_read W log).outcome) (sym same)
              ∙ stop_is (line_start (bytes_in W t) went.done) went.done went.outcome (log_read W log).outcome ∙ ap (λ (h : Heard). stop_or h.answer (log_read W log).outcome) (sym heard),
        )

  pub as_whole_log : AsWholeLog table rule
  unfolding log_checked
  as_whole_log ss g buffer read enough =
      let log = text ss in
      let went = (course log).went in
      let offset = line_start (bytes_in W log) went.done in
      let all : lines_of W log ≡ log = ap (lines_to (bytes_in W log) log) read in
      let stop : end_of_all table rule ss ≡ placed_at offset went.outcome =
      (lines ss g).ends ∙ ap₂ (λ (t : List ℕ) (x : Outcome). and_then (placed_at (line_start (bytes_in W log) (course t).went.done) (course t).went.outcome) x) all read ∙ and_accepted (placed_at offset went.outcome) in
      heard_is g.opened log buffer (Ok tt) (rw (read, le-leb (log_read W log).lines buffer enough) refl)
      ∙ ap₂ (λ (a : LogAnswer) (b : List ℕ). record { answer = a; bytes = b })
      (end_is offset went.done went.outcome ∙ ap₂ heard_answer (sym stop) (sym (many ss g ∙ ap (λ (t : List ℕ). (course t).went.done) all)))
      (sym ((lines ss g).verdicts_are ∙ ap (λ (t : List ℕ). verdict_bytes (course t).lamps) all))

  pub as_lines_before : AsLinesBefore table rule
  unfolding log_checked
  as_lines_before ss g buffer twelve read enough =
      let (bytes, count, ends) = lines_alone ss g buffer enough in
      (heard_is g.opened (text ss) buffer (Err twelve) (rw read refl), bytes, count, ends ∙ ap (stop_or (heard_of table rule (lines_of W (text ss)) buffer).answer) read)
