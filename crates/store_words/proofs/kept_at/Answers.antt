use Rattle.std.proofs.Common.{refl, rules}
use Rattle.words.proofs.Made.{list_made}
use Rattle.store_words.specs.Words.{byte_in, kept_in}
use Rattle.store_words.proofs.kept_at.Goals as goal

pub returns : goal.returns
unfolding kept_in
returns c =
    let bytes = byte_in c.args.words.now c.args.i in
    rw (list_made _ _ bytes 0 (λ k y q call. search rules) 1024 _ c.from_fn.ensures.items) refl
