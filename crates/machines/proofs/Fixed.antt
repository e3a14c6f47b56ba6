-- More of specs/Fixed. The fixed machine of a machine: there is one, it is the only one, and none that answers alike is smaller.
use Rattle.std.specs.Prelude.{ℕ}
use Rattle.machines.specs.Machine.{Machine, Proper, Numbered, Equal}
use Rattle.machines.specs.Alike.{alike_back, alike_on}
use Rattle.machines.proofs.Unique.{canonical_unique}
use Rattle.machines.specs.Joined.{joined}
use Rattle.machines.proofs.Joined.{joined_alike, joined_canonical}
use Rattle.machines.specs.Fixed.{Fixed}

-- joining makes one where the rows are numbered as first reached
pub fixed_joined : {c : ℕ} {m : Machine} → Proper c m → Numbered c m → Fixed c m (joined c m)
fixed_joined proper numbered = record { alike = joined_alike proper; canonical = joined_canonical proper numbered }

-- there is no other
pub fixed_unique : {c : ℕ} {m n p : Machine} → Fixed c m n → Fixed c m p → Equal c n p
fixed_unique a b = canonical_unique a.canonical b.canonical (alike_on (alike_back a.alike) b.alike)
