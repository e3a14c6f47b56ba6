use Rattle.std.proofs.Common.{ℕ, ◌+◌, get_or, rules}
use Rattle.slate.specs.Box.{words_in}
use Rattle.words.proofs.Made.{list_made}
use Rattle.slate.proofs.reading.words_in.Goals as goal

pub returns : goal.returns
unfolding words_in
returns c = list_made _ _ (λ (i : ℕ). get_or c.args.words.now (c.args.from + i) 0) 0 (λ k y q call. search rules) 64 _ c.from_fn.ensures.items
