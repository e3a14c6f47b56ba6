use Rattle.std.proofs.Common.{rules}
use Rattle.words.proofs.Made.{list_made}
use Rattle.radio_words.specs.Words.{byte_in, part_in}
use Rattle.radio_words.proofs.part_in.Goals as goal

pub returns : goal.returns
unfolding part_in
returns c = list_made _ _ (byte_in c.args.words.now) 0 (λ k y q call. search rules) 40 _ c.from_fn.ensures.items
