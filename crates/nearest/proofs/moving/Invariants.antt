use Rattle.std.proofs.Common.{◌^◌, ◌<◌, ◌≡◌, bit_and, bit_or}
use Rattle.moves.specs.Back.{pre_of}
use Rattle.nearest.proofs.moving.Given as goal

abbrev pub invariant-loop-s : goal.invariant-loop-s
invariant-loop-s l = (l.s-iterator.0 < 2 ^ 64) × (bit_or l.found (bit_and l.s-iterator.0 (pre_of l.next l.target)) ≡ bit_and l.tried (pre_of l.next l.target))
