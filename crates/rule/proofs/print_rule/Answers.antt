-- `rule::print_rule` meets its contract. Assumes nothing.
use Rattle.std.proofs.Common.{◌≤◌, sym, ◌∙◌, arith, length, rules}
use Rattle.syntax.specs.Grammar.{names}
use Rattle.rule_value.specs.Valid.{RuleValue}
use Rattle.rule.specs.Printing.{text_of}
use Rattle.rule_value.specs.Values.{valid_rule}
use Rattle.rule.proofs.Prints.{room, printable, long, laid, too_short, fitting}
use Rattle.rule.proofs.print_rule.Goals as goal

-- a value that is accepted is a rule's, and the room is its text's length
pub returns-then-buffer-room_of : goal.returns-then-buffer-room_of
returns-then-buffer-room_of c =
    let r = c.args.rule in
    let v : RuleValue r names = valid_rule r names (search rules) (sym c.is_valid.ensures ∙ c.if-not-is_valid.false) in
    let p = too_short r c.args.buffer.now (sym c.is_valid.ensures ∙ c.if-not-is_valid.false) (omega (arith, c.room_of.ensures, room v, c.if-buffer-room_of.true)) _ c.at-then-buffer-room_of.ensures in
    record { answer = p.0; buffer = p.1 }

-- the text fits where the buffer is not shorter than the room
pub put_rule-bytes-requires : goal.put_rule-bytes-requires
put_rule-bytes-requires c =
    let r = c.args.rule in
    let v : RuleValue r names = valid_rule r names (search rules) (sym c.is_valid.ensures ∙ c.if-not-is_valid.false) in
    printable v _ (omega (arith, c.room_of.ensures, room v, c.if-buffer-room_of.false))

pub returns : goal.returns
returns c =
    let r = c.args.rule in
    let valid = sym c.is_valid.ensures ∙ c.if-not-is_valid.false in
    let v : RuleValue r names = valid_rule r names (search rules) valid in
    let fits : length (text_of r) ≤ length c.args.buffer.now = omega (arith, c.room_of.ensures, room v, c.if-buffer-room_of.false) in
    let p = fitting r c.args.buffer.now valid fits _ _ (long v c.put_rule-bytes.ensures) (laid v c.put_rule-bytes.ensures) in
    record { answer = p.0; buffer = p.1 }
