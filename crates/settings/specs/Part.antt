-- Which sheet a number names, and the part of it at a spot.
use Rattle.std.specs.Prelude.{◌≡◌, cond, List, ℕ, ◌+◌, ◌-◌, eqb, ltb, length, take, drop}
use Rattle.std.specs.Borrow.{Bor}
use Rattle.settings.specs.declared.Spot.{Spot}

-- sheet 1 is the local one
abbrev pub sheet_of : {A : Type 0} → ℕ → A → A → A
sheet_of n local shared = cond (eqb n 1) local shared

abbrev pub spot_at : ℕ → ℕ → ℕ → Spot
spot_at sheet from upto = record { sheet = sheet; from = from; upto = upto }

-- the spot itself where it fits a sheet, and no bytes from its start where not
abbrev pub fitting : Spot → List ℕ → Spot
fitting p s = cond (ltb (length s) p.upto) (spot_at p.sheet 0 0) (cond (ltb p.upto p.from) (spot_at p.sheet 0 0) p)

abbrev pub bytes_at : Spot → List ℕ → List ℕ
bytes_at p s = take ((fitting p s).upto - (fitting p s).from) (drop (fitting p s).from s)

-- the address of an element: the block, and the offset moved on
abbrev pub shifted : ℕ × ℕ → ℕ → ℕ × ℕ
shifted p n = (p.0, n + p.1)

-- r is that part of that sheet: it begins at that address, and has those bytes
pub record IsPart (p : Spot) (local shared r : Bor (List ℕ)) : Type 0 where
  pub place : r.ref_ptr ≡ shifted (sheet_of p.sheet local.ref_ptr shared.ref_ptr) (fitting p (sheet_of p.sheet local.now shared.now)).from
  pub bytes : r.now ≡ bytes_at p (sheet_of p.sheet local.now shared.now)
