-- `positions::agree`: each event agrees.
use Rattle.std.proofs.Common.{ℕ, rules, tests, ◌∙◌, ◌/◌, ap, refl, arith, length}
use Rattle.std.proofs.lemmas.Iterator.{YieldsList-from_range}
use Rattle.std.proofs.lemmas.Iterator.Search.{all_from_yields_List}
use Rattle.text.specs.Number.{width_of}
use Rattle.event_log.specs.Read.{event_at}
use Rattle.words.specs.Below.{all_below}
use Rattle.shown.specs.Tests.{agree_at, agree_of}
use Rattle.shown.proofs.Chains.{all_range}
use Rattle.shown.proofs.positions.agree.Goals as goal

pub returns : goal.returns
unfolding agree_of
returns c =
    all_from_yields_List (agree_at c.args.label.now c.args.run.now c.args.stem (event_at (width_of c.args.props) c.args.log.now)) _ _ _ c.all.ensures.ran (YieldsList-from_range 0 (length c.args.log.now / c.line_bytes.result) (length c.args.log.now / c.line_bytes.result) refl (omega arith)) (λ x b q k. search (rules, tests))
    ∙ all_range (length c.args.log.now / c.line_bytes.result) (agree_at c.args.label.now c.args.run.now c.args.stem (event_at (width_of c.args.props) c.args.log.now)) ∙ ap (λ (k : ℕ). all_below (length c.args.log.now / k) (agree_at c.args.label.now c.args.run.now c.args.stem (event_at (width_of c.args.props) c.args.log.now))) c.line_bytes.ensures
