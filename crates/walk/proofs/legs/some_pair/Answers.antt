-- `legs::some_pair`: with ranks that are all 0, any pair of the set is of rank below 1.
use Rattle.std.proofs.Common.{arith, ℕ}
use lib.ListN.{get_or-replicate}
use Rattle.walk.proofs.legs.some_pair.Goals as goal

pub lower-requires : goal.lower-requires
lower-requires c =
    let (y, s) = c.requires in
    (y, record { small = s.small; held = s.held; less = rw (get_or-replicate {A = ℕ} 4096 y 0 0 s.small) (omega arith) })
