-- `begins_line`: nothing is kept, or it is shorter than a line and fits. Assumes nothing.
use Rattle.std.proofs.Common.{rules, ◌≤◌, ◌≡◌, ◌∙◌, arith, length, take, length-take, le-ltb}
use Rattle.radio.specs.declared.Radio.{Radio}
use Rattle.radio.specs.Laws.{ok_none, ok_test, ok_long}
use Rattle.radio.proofs.begins_line.Goals as goal

-- as many bytes are lent as are kept
lent : (r : Radio) → length r.part ≡ 40 → r.len ≤ 40 → length (take r.len r.part) ≡ r.len
lent r l few = length-take r.len r.part ∙ omega arith

pub returns-then-radio-eq0 : goal.returns-then-radio-eq0
returns-then-radio-eq0 c = ok_none _ c.args.radio c.if-radio-eq0.true

pub returns-then-radio-line_bytes : goal.returns-then-radio-line_bytes
returns-then-radio-line_bytes c =
    let l : length c.args.radio.part ≡ 40 = search rules in
    ok_test _ c.args.radio (lent c.args.radio l c.requires) (omega (arith, c.line_bytes.ensures, c.if-radio-line_bytes.true)) c.good_of.ensures

pub returns-else-radio-line_bytes : goal.returns-else-radio-line_bytes
returns-else-radio-line_bytes c =
    let l : length c.args.radio.part ≡ 40 = search rules in
    le-ltb _ _ c.if-radio-line_bytes.false ∙ ok_long _ c.args.radio (lent c.args.radio l c.requires) (omega (arith, c.line_bytes.ensures, c.if-radio-line_bytes.false))
