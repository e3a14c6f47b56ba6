use Rattle.std.proofs.Common.{rules}
use Rattle.words.proofs.Made.{words_made}
use Rattle.pairs.specs.Sets.{join_of, joined_at}
use Rattle.pairs.proofs.Pairs.join.Goals as goal

pub returns : goal.returns
unfolding join_of
returns c = words_made _ _ (joined_at c.args.self.words c.args.other.words) (λ k y q call. search rules) _ c.from_fn.ensures.items
