-- What a set of pairs handed in tells by `c.well_formed`: it has 64 words.
use Rattle.std.proofs.Common.{ℕ, zero, suc, ◌^◌, ◌<◌, List, [], ◌∷◌, get_or, arith}
use mir.Val.{Val}
use denote.Array.{each}
use denote.Builtin.{u64, Array}
use denote.Laws.{Is}
use denote.Shadow.{shadow}
use denote.Struct.Field.{row_field}
use Rattle.pairs.specs.Sets.{Words}

each_fits : (xs : List ℕ) (us : List Val) → shadow (each u64.Denot u64.own_val xs us) → (i : ℕ) → get_or xs i 0 < 2 ^ 64
each_fits [] us h i = omega arith
each_fits (x ∷ xs) [] h i = absurd h
each_fits (x ∷ xs) (u ∷ us) h zero = h.0.1
each_fits (x ∷ xs) (u ∷ us) h (suc i) = each_fits xs us h.1 i

pub words_of : (xs : List ℕ) {vs : List Val} → Is (row_field (Array u64 tt 64)).row xs vs → Words xs
words_of xs is = record { long = is.1.0.1; fits = λ v _. each_fits xs is.0 is.1.1 v }
