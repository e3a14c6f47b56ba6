use Rattle.std.proofs.Common.{rules}
use Rattle.slate.specs.Box.{held_word, stored_of}
use Rattle.words.proofs.Made.{list_made}
use Rattle.slate.proofs.writing.stored.Goals as goal

pub returns : goal.returns
unfolding stored_of
returns c = list_made _ _ (held_word c.args.held) 0 (λ k y q call. search rules) 384 _ c.from_fn.ensures.items
