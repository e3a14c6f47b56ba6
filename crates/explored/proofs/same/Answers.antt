-- `same`: the words agree.
use Rattle.std.proofs.Common.{rules}
use Rattle.joined.proofs.Ranges.{all_found_by}
use Rattle.explored.specs.States.{word_agrees}
use Rattle.explored.proofs.same.Goals as goal

pub returns : goal.returns
unfolding word_agrees
returns c = all_found_by _ _ _ _ (word_agrees c.args.room.now c.args.row c.args.state.now) c.all.ensures.ran (λ k b q call. search rules)
