-- More of specs/Grown. Exploring: cells are filled place by place, and a row not met before gets the next number. What this leaves is numbered as first reached.
use Rattle.std.specs.Prelude.{ℕ, zero, suc, ◌+◌, ◌*◌, ◌/◌, ◌%◌, ◌<◌, List}
use Rattle.std.proofs.Common.{arith, div-add-mod', div-lt_iff_lt-mul, mod-lt}
use Rattle.machines.specs.Machine.{Numbered}
use Rattle.machines.specs.Held.{machine_of}
use Rattle.machines.specs.Grown.{Grown, place_before}

module _ {c : ℕ} {cells : List ℕ} {rows : ℕ} (outputs : List ℕ) (grown : Grown c cells (rows * c) rows) where
  -- and its rows are numbered as first reached
  pub grown_numbered : Numbered c (machine_of outputs cells rows c)
  grown_numbered s positive l =
      let (q, _, b, e, f) = grown.first s positive l in
      let some = columns s c q b in (
        q / c,
        q % c,
        record {
          from = (div-lt_iff_lt-mul some).1 b;
          column = mod-lt q some;
          here = rw (div-add-mod' q c) e;
          lower = λ i j h before. f (i * c + j) (rw (div-add-mod' q c) at (place_before c i j (q / c) (q % c) h before));
        },
      )
    where
      columns : (s c q : ℕ) → q < s * c → 0 < c
      columns s zero q b = absurd (omega arith)
      columns s (suc c) q b = omega arith
