-- `nodes::rule_words`: each word is what its call gives.
use Rattle.std.proofs.Common.{rules}
use Rattle.words.proofs.Made.{words_made}
use Rattle.truth.specs.Nodes.{word_at}
use Rattle.truth.proofs.nodes.rule_words.Goals as goal

pub returns : goal.returns
returns c = words_made _ _ (word_at c.args.words.now c.args.len) (λ k y q call. search rules) _ c.from_fn.ensures.items
