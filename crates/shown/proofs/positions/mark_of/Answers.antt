-- `positions::mark_of`: the lines have their last restart.
use Rattle.std.proofs.Common.{ℕ, rules, ◌∙◌, ◌/◌, ap, refl, arith, length}
use Rattle.std.proofs.lemmas.Iterator.{YieldsList-from_range}
use Rattle.std.proofs.lemmas.Iterator.Consumers.{fold_from_yields_List}
use Rattle.text.specs.Number.{width_of}
use Rattle.event_log.specs.Read.{event_at}
use Rattle.shown.specs.Positions.{mark_of}
use Rattle.shown.proofs.Chains.{marked, mark_range}
use Rattle.shown.proofs.positions.mark_of.Goals as goal

pub returns : goal.returns
returns c =
    let long = length c.args.log.now in
    let event = event_at (width_of c.args.props) c.args.log.now in
    let n = long / c.line_bytes.result in
    fold_from_yields_List _ (marked event) 0 _ c.fold.ensures.ran (YieldsList-from_range 0 n n refl (omega arith)) (λ m x r q k. search rules)
    ∙ mark_range event n ∙ ap (λ (k : ℕ). mark_of event (long / k)) c.line_bytes.ensures
