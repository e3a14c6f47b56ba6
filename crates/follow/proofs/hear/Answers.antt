-- `hear`: at most one event is answered (`one_event`), and a scrap that is not refused makes the log longer (`gets_longer`).
use Rattle.std.proofs.Common.{◌≡◌, sym, ◌∙◌, length, arith, rules}
use Rattle.follow.specs.Laws.{one_event, gets_longer}
use Rattle.follow.proofs.hear.Goals as goal

pub has_event-requires : goal.has_event-requires
has_event-requires g c = one_event _ _ _ _ _ _ _ _ _ c.take-taken.ensures.taken c.requires.1

pub returns-then-goes_on : goal.returns-then-goes_on
returns-then-goes_on g c =
    let full : length c.args.radio.part ≡ 40 = search rules in
    let longer = gets_longer _ _ _ _ _ _ _ _ _ c.take-taken.ensures.taken full (sym c.goes_on.ensures ∙ c.if-goes_on.true) in
    record { longer = λ goes. omega (arith, longer, c.requires.0); short = λ goes. omega (arith, longer) }
