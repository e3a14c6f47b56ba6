-- `has_prop`: a label has no proposition from 64 on.
use Rattle.std.proofs.Common.{sym, ◌<◌, ◌^◌, rules, le-ltb}
use Rattle.words.specs.Laws.{bit_above}
use Rattle.node_value.proofs.has_prop.Goals as goal

pub returns-else-p-lt64 : goal.returns-else-p-lt64
returns-else-p-lt64 c = let h : c.args.label < 2 ^ 64 = search rules in rw (le-ltb _ _ c.if-p-lt64.false) (sym (bit_above 64 h c.if-p-lt64.false))
