-- `lines::put_lines`: the loop has put the lines before this one. Assumes nothing.
use Rattle.std.proofs.Common.{◌≡◌, ◌<◌, length, zero-le, arith, rules, get_or-take, length-take-le}
use Rattle.writing.specs.Put.{put_length}
use Rattle.stretches.specs.Sheet.{blank}
use Rattle.day_writer.specs.Text.{put_nothing, put_more}
use Rattle.day_writer.proofs.lines.put_lines.Goals as goal

pub loop-line-init : goal.loop-line-init
loop-line-init c = (zero-le, put_nothing _ _)

pub put_line-end-requires : goal.put_line-end-requires
put_line-end-requires c =
    let s = c.args.sheet in
    let inv = c.loop-line.invariant in
    let full : length s.lines ≡ 64 = search rules in
    omega (arith, full, c.requires.0, c.requires.1, inv.0, c.loop-line-test.true, length-take-le s.count s.lines (omega (arith, full, c.requires.0)), put_length inv.1)

pub loop-line-preserved : goal.loop-line-preserved
loop-line-preserved c =
    let s = c.args.sheet in
    let inv = c.loop-line.invariant in
    let k = c.loop-line.line-index in
    let full : length s.lines ≡ 64 = search rules in
    let here : k < s.count = omega (arith, full, c.requires.0, c.loop-line-test.true, length-take-le s.count s.lines (omega (arith, full, c.requires.0))) in
    (omega (arith, inv.0, c.put_line-end.ensures.bound), put_more s.lines k inv.1 (rw (get_or-take s.count s.lines k blank here) at c.put_line-end.ensures.text))

pub returns : goal.returns
returns c =
    let s = c.args.sheet in
    let l = c.loop-line in
    let full : length s.lines ≡ 64 = search rules in
    let all : l.line-index ≡ s.count = omega (arith, full, c.requires.0, c.loop-line-test.false, l.auto.line-index-end, length-take-le s.count s.lines (omega (arith, full, c.requires.0))) in
    rw all at l.invariant.1
