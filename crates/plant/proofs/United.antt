-- The union of a list of sets, as the library's fold makes it.
use Rattle.std.proofs.Common.{◌≡◌, refl, ℕ, List, length, fold, bit_or}
use Rattle.words.proofs.Made.{union_by_fold}
use Rattle.plant.specs.Table.{united}

pub united_by_fold : (xs : List ℕ) → fold bit_or 0 xs ≡ united xs
unfolding united
united_by_fold xs = union_by_fold xs (length xs) refl
