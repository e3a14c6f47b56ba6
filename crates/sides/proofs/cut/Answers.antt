-- `sides::cut`: each word is made by a call. Assumes nothing.
use Rattle.std.proofs.Common.{rules}
use Rattle.words.proofs.Made.{words_made}
use Rattle.sides.specs.Sides.{cut_in, cut_of}
use Rattle.sides.proofs.cut.Goals as goal

pub returns : goal.returns
unfolding cut_of
returns c = words_made _ _ (cut_in c.args.held.now c.args.live.now c.args.agree) (λ k y q call. search rules) _ c.from_fn.ensures.items
