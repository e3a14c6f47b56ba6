-- `reach::meet`: each word is made by a call.
use Rattle.std.proofs.Common.{rules, bit_and, get_or}
use Rattle.words.proofs.Made.{words_made}
use Rattle.model.specs.LiveSet.{meet_of}
use Rattle.sweeps.proofs.reach.meet.Goals as goal

pub returns : goal.returns
unfolding meet_of
returns c = words_made _ _ (λ v. bit_and (get_or c.args.a.now v 0) (get_or c.args.b.now v 0)) (λ k y q call. search rules) _ c.from_fn.ensures.items
