-- `reader::parse_rule` meets its contract: the loosest level, from the start, with the fuel that `parse` names. Assumes nothing.
use Prim.Native.Nat.{◌+◌, ◌*◌}
use mathlib.Core.Path.{ap, ◌∙◌}
use native.Mathlib.Omega.{arith}
use lib.ListN.{length}
use Rattle.syntax.specs.Reader.{parse}
use Rattle.reader.specs.Draft.{written}
use Rattle.reader.proofs.parse_rule.Goals as goal

pub returns : goal.returns
unfolding parse
returns c =
    let s = c.args.text.now in
    (c.read_arrow.ensures.leads (8 * length s + 6) (omega arith)).rule_is ∙ ap (λ r. written r (parse s)) c.empty.ensures
