-- `reach::without`: each word is made by a call.
use Rattle.std.proofs.Common.{rules, get_or}
use Rattle.words.specs.Word.{without_of}
use Rattle.words.proofs.Made.{words_made}
use Rattle.sweeps.specs.Sweeps.{without_set}
use Rattle.sweeps.proofs.reach.without.Goals as goal

pub returns : goal.returns
unfolding without_set
returns c = words_made _ _ (λ v. without_of (get_or c.args.a.now v 0) (get_or c.args.b.now v 0)) (λ k y q call. search rules) _ c.from_fn.ensures.items
