-- `numbers_of`: each number is what its call gives.
use Rattle.std.proofs.Common.{rules}
use Rattle.shape.specs.Shape.{number_in, numbers_of}
use Rattle.words.proofs.Made.{list_made}
use Rattle.shape.proofs.numbers_of.Goals as goal

pub returns : goal.returns
unfolding numbers_of
returns c = list_made _ _ (number_in c.args.order.now c.args.parts) 0 (λ k y q call. search rules) 32 _ c.from_fn.ensures.items
