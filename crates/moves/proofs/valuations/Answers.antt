-- `step::valuations`: at most 2 ^ 6.
use native.Mathlib.Omega.{arith}
use lib.Pow.{pow_mono}
use Rattle.moves.proofs.valuations.Goals as goal

pub returns : goal.returns
returns c = let most = pow_mono {i = c.args.parts} {j = 6} (omega arith) in (c.single.ensures, omega arith)
