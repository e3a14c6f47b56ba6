-- `member`: a set has no state from 64 on.
use Rattle.std.proofs.Common.{sym, ◌∙◌, le-ltb, ◌<◌, ◌^◌, rules}
use Rattle.words.specs.Laws.{bit_above}
use Rattle.shown.proofs.member.Goals as goal

pub returns-else-state-lt64 : goal.returns-else-state-lt64
returns-else-state-lt64 c = let h : c.args.set < 2 ^ 64 = search rules in le-ltb _ _ c.if-state-lt64.false ∙ sym (bit_above 64 h c.if-state-lt64.false)
