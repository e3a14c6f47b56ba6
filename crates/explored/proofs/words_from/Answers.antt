-- `words_from`: each word is read at its place.
use Rattle.std.proofs.Common.{rules, ◌+◌, ◌∙◌, get_or}
use Rattle.words.specs.Lists.{filled_all}
use Rattle.words.proofs.Made.{filled_made}
use Rattle.explored.specs.States.{words_from}
use Rattle.explored.proofs.words_from.Goals as goal

pub returns : goal.returns
unfolding words_from
returns c = filled_made _ _ (λ v. get_or c.args.room.now (c.args.at + v) 0) (λ k y q call. search rules) 64 _ c.from_fn.ensures.items ∙ filled_all 64 _
