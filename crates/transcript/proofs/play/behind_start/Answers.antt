-- `behind_start`: the course of the log, by the bytes that the loop stored. Assumes nothing.
use Rattle.std.proofs.Common.{ℕ, ◌≤◌, List, arith, length, replicate}
use native.Mathlib.Nat.{div-lt_iff_lt-mul}
use lib.ListN.{length-replicate}
use Rattle.text.specs.Number.{width_of, width_between}
use Rattle.event_log.specs.Read.{bytes_in, event_at, whole_lines}
use Rattle.course.specs.Lamps.{Counted, counted}
use Rattle.course.specs.Course.{course_of}
use Rattle.transcript.proofs.Cases.{done_few, line_inside, verdicts_long, lefts_long, numbers_long, course_said}
use Rattle.transcript.proofs.play.behind_start.Goals as goal
use Rattle.transcript.proofs.play.behind_start.Goals.{Start}

-- a log has no more than 3,276 lines, however wide they are
few_lines : (props : ℕ) (text : List ℕ) → length text ≤ 65520 → whole_lines (width_of props) text ≤ 3276
few_lines props text h =
    omega (arith, (div-lt_iff_lt-mul {k = bytes_in (width_of props) text} {x = length text} {y = 3277} (omega (arith, wide))).1 (omega (arith, h, wide)))
  where
    wide : 20 ≤ bytes_in (width_of props) text
    wide = omega (arith, (width_between props).0)

-- and the buffers have room for as many events
room : (n : ℕ) → n ≤ 3276 → n ≤ length (replicate {A = ℕ} 3276 0)
room n h = omega (arith, length-replicate {A = ℕ} 3276 0)

-- the course's events are counted
abbrev lines : goal.Start → ℕ
lines c = whole_lines (width_of c.args.plant.props) c.args.log.now

told : (c : goal.Start) → Counted (lines c) (course_of c.args.plant c.args.fair.now c.args.label.now c.args.next.now c.args.rule c.args.live c.args.monitor c.args.log.now)
told c = counted c.args.plant c.args.fair.now c.args.label.now c.args.next.now c.args.rule c.args.live c.args.monitor (event_at (width_of c.args.plant.props) c.args.log.now) (lines c)

few : (c : goal.Start) → lines c ≤ 3276
few c = few_lines c.args.plant.props c.args.log.now c.requires.2

pub overflow_mul-offset : goal.overflow_mul-offset
overflow_mul-offset c =
    let start = (goal.at.overflow_mul-offset c).Start in
    record { fits = omega (arith, line_inside c.args.plant.props c.args.log.now c.line_bytes.ensures (done_few (told start) c.follow-went.ensures), c.requires.2) }

pub put_went-requires : goal.put_went-requires
put_went-requires c =
    let start = (goal.at.put_went-requires c).Start in
    let h = c.follow-went.ensures in
    let done = done_few (told start) h in
    let long = length-replicate {A = ℕ} 3276 0 in (
      c.requires.1,
      omega (arith, done, few start),
      omega (arith, done, few start, long, verdicts_long (told start) h),
      omega (arith, done, few start, long, lefts_long (told start) h),
      omega (arith, done, few start, long, numbers_long (told start) h),
      c.requires.3,
    )

pub returns : goal.returns
returns c =
    let start = (goal.at.returns c).Start in
    let much = room (lines start) (few start) in
    course_said (told start) c.follow-went.ensures much much much c.line_bytes.ensures c.put_went.ensures
