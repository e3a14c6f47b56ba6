-- `is_fair`: each set is met.
use Rattle.std.proofs.Common.{rules, tests, ◌∙◌}
use Rattle.std.proofs.lemmas.Iterator.{YieldsList-from_slice}
use Rattle.std.proofs.lemmas.Iterator.Search.{all_from_yields_List}
use Rattle.shown.specs.Tests.{meets_of, fair_of}
use Rattle.shown.proofs.Chains.{all_list}
use Rattle.shown.proofs.is_fair.Goals as goal

pub returns : goal.returns
unfolding fair_of
returns c =
    all_from_yields_List (λ set. meets_of set c.args.run.now c.args.stem) _ _ _ c.all.ensures.ran (YieldsList-from_slice c.args.fair.now cc) (λ x b q k. search (rules, tests))
    ∙ all_list (λ set. meets_of set c.args.run.now c.args.stem) c.args.fair.now
