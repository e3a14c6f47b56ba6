-- `meets`: a state behind the stem is in the set.
use Rattle.std.proofs.Common.{rules, tests, ◌∙◌}
use Rattle.std.proofs.lemmas.Iterator.{YieldsList-from_slice}
use Rattle.std.proofs.lemmas.Iterator.Adapters.{YieldsList-from_skip}
use Rattle.std.proofs.lemmas.Iterator.Search.{any_from_yields_List}
use Rattle.meaning.specs.Bit.{bit}
use Rattle.shown.specs.Tests.{meets_of}
use Rattle.shown.proofs.Chains.{any_behind}
use Rattle.shown.proofs.meets.Goals as goal

pub returns : goal.returns
unfolding meets_of
returns c =
    any_from_yields_List (bit c.args.set) _ _ _ c.any.ensures.ran (YieldsList-from_skip c.args.stem (YieldsList-from_slice c.args.run.now cc) cc) (λ x b q k. search (rules, tests))
    ∙ any_behind (bit c.args.set) c.args.stem c.args.run.now
