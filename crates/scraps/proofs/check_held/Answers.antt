-- `check_held`: by what `look` answers. Assumes nothing.
use Rattle.std.proofs.Common.{rules}
use Rattle.scraps.specs.Laws.{held_refused, held_shown}
use Rattle.scraps.proofs.check_held.Goals as goal

pub returns-in_err-look : goal.returns-in_err-look
returns-in_err-look c =
    let a = c.args in
    let refused =
    held_refused a.plant a.fair.now a.label.now a.next.now a.rule a.live a.monitor (search rules) (search rules)
    c.join.ensures c.look.ensures c.in_err-look.was in
    search rules

pub returns : goal.returns
returns c =
    let a = c.args in
    held_shown a.plant a.fair.now a.label.now a.next.now a.rule a.live a.monitor (search rules) (search rules)
    c.join.ensures c.look.ensures c.in_ok-look.was
