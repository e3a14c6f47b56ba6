-- `size_of`: by the first byte. Assumes nothing.
use Rattle.std.proofs.Common.{rules, ◌≡◌, arith, length}
use Rattle.radio.specs.Laws.{size_some}
use Rattle.radio.proofs.line.size_of.Goals as goal

pub returns : goal.returns
returns c =
    let a = c.args in
    let l : length a.part ≡ 40 = search rules in
    size_some _ a.part _ a.len (omega (arith, c.requires)) (omega (arith, c.if-len-eq0.false)) c.line_bytes-2.ensures
