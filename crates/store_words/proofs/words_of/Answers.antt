use Rattle.std.proofs.Common.{rules}
use Rattle.words.proofs.Made.{list_made}
use Rattle.store_words.specs.Words.{word_of, words_of}
use Rattle.store_words.proofs.words_of.Goals as goal

pub returns : goal.returns
unfolding words_of
returns c = list_made _ _ (word_of c.args.store) 0 (λ k y q call. search rules) 1040 _ c.from_fn.ensures.items
