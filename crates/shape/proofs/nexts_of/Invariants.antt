-- `nexts_of`: `found` has the parts passed that are X.
use Rattle.std.proofs.Common.{◌≡◌, ◌≤◌}
use Rattle.words.specs.Below.{word_of}
use Rattle.shape.specs.Ops.{op_at, is_step}
use Rattle.shape.proofs.nexts_of.Given as goal

abbrev pub invariant-loop-k : goal.invariant-loop-k
invariant-loop-k l = (l.k ≤ l.parts) × (l.found ≡ word_of l.k (λ k. is_step (op_at l.fn.kinds k)))
