-- `words::has`: the digit of weight 2 ^ k, shifted down and cut out.
use Rattle.words.specs.Laws.{bit_shifted}
use Rattle.words.proofs.has.Goals as goal

pub returns : goal.returns
returns c = bit_shifted c.args.x c.args.k
