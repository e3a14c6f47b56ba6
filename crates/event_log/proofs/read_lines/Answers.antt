-- `event_log::read_lines`. The lines passed fit.
use Rattle.std.proofs.Common.{ℕ, ◌-◌, ◌≤◌, zero-le, ◌≡◌, refl, ap, ◌∙◌, Bool, arith, length, drop, take, List}
use Rattle.text.specs.Many.{offset}
use Rattle.text.specs.Lines.{start_above}
use Rattle.text.specs.LinesRead.{IsLine, line_on, line_off, line_end, lent_line, line_room, none_fit, next_start}
use Rattle.event_log.specs.Line.{line, line_bytes, line_fixed}
use Rattle.event_log.specs.Read.{read_as, refused_with, refused_log, accepted_log}
use Rattle.event_log.specs.declared.Event.{Event}
use Rattle.event_log.proofs.read_lines.Goals as goal

-- how far the line that was read can go
room : (numbered : Bool) (w : ℕ) (s : List ℕ) (at i good : ℕ) (e : Event) → at ≡ i → IsLine (line numbered w) (take (length s - at) (drop at s)) e good → good ≤ length s - i
room numbered w s at i good e is l = line_room s i good e (lent_line s at i good e is l)

pub loop-at-init : goal.loop-at-init
unfolding offset
loop-at-init c = let n = c.args.numbered in let w = c.args.width in (c.bytes_of-bytes.ensures, refl, zero-le, none_fit (line n w) (line_bytes n w) (line_fixed n w) _)

pub returns-then-good-bytes : goal.returns-then-good-bytes
unfolding read_as
returns-then-good-bytes c =
    let n = c.args.numbered in
    let w = c.args.width in
    let read = lent_line {F = line n w} c.args.text.now _ _ _ _ c.loop-at.invariant.1 c.read_line-good.ensures in
    ap refused_with c.at.ensures
    ∙ line_off (line n w) (line_bytes n w) (line_fixed n w) refused_log accepted_log c.args.text.now _ c.loop-at.lines _ _ c.loop-at.invariant.1 c.loop-at.invariant.3 c.loop-at-test.true read (rw c.loop-at.invariant.0 at c.if-good-bytes.true)

pub overflow_add-lines : goal.overflow_add-lines
overflow_add-lines c =
    let n = c.args.numbered in
    let w = c.args.width in
    record { fits = omega (arith, room n w c.args.text.now _ _ _ _ c.loop-at.invariant.1 c.read_line-good.ensures, start_above (line_bytes n w) c.loop-at.lines (omega arith)) }

pub loop-at-preserved : goal.loop-at-preserved
loop-at-preserved c =
    let n = c.args.numbered in
    let w = c.args.width in
    let r = room n w c.args.text.now _ _ _ _ c.loop-at.invariant.1 c.read_line-good.ensures in
    let wide = c.loop-at.invariant.0 in
    let read = lent_line {F = line n w} c.args.text.now _ _ _ _ c.loop-at.invariant.1 c.read_line-good.ensures in (
      wide,
      omega (arith, wide, next_start (line_bytes n w) c.loop-at.lines),
      omega arith,
      line_on (line n w) (line_bytes n w) (line_fixed n w) c.args.text.now c.loop-at.lines _ _ c.loop-at.invariant.3 read (rw wide at c.if-good-bytes.false),
    )

pub returns : goal.returns
unfolding read_as
returns c =
    let n = c.args.numbered in
    let w = c.args.width in
    line_end (line n w) (line_bytes n w) (line_fixed n w) refused_log accepted_log _ _ c.loop-at.invariant.3 (omega (arith, c.loop-at-test.false, c.loop-at.invariant.1))

-- the text ends with this line
pub returns-else-good-bytes : goal.returns-else-good-bytes
unfolding read_as
returns-else-good-bytes c =
    let n = c.args.numbered in
    let w = c.args.width in
    let wide = c.loop-at.invariant.0 in
    let read = lent_line {F = line n w} c.args.text.now _ _ _ _ c.loop-at.invariant.1 c.read_line-good.ensures in
    let fit = line_on (line n w) (line_bytes n w) (line_fixed n w) c.args.text.now c.loop-at.lines _ _ c.loop-at.invariant.3 read (rw wide at c.if-good-bytes.false) in
    line_end (line n w) (line_bytes n w) (line_fixed n w) refused_log accepted_log _ _ fit (omega (arith, wide, c.loop-at.invariant.1, next_start (line_bytes n w) c.loop-at.lines))
