-- `words::all`: the full word shifted down.
use native.Mathlib.Omega.{arith}
use Rattle.words.specs.Laws.{ones_shifted}
use Rattle.words.proofs.all.Goals as goal

pub returns : goal.returns
returns c = ones_shifted c.args.n (omega arith)
