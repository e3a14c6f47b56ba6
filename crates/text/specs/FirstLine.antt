-- What lines of two forms are told apart by: whether the first line has something.
use Rattle.std.specs.Prelude.{Bool, false, List, [], ◌∷◌}

-- whether there is a first line, and `first` has it
unfoldable pub first_of : {A : Type 0} → (A → Bool) → List A → Bool
first_of first [] = false
first_of first (a ∷ l) = first a
