use Rattle.std.proofs.Common.{rules}
use Rattle.pairs.proofs.Folded.{same_by_equal}
use Rattle.pairs.proofs.Pairs.same.Goals as goal

pub returns : goal.returns
returns c = same_by_equal _ _ _ (search rules) (search rules) (λ t. search rules) (λ e. search rules)
