-- A few facts by which a reader can tell that the definitions say what they should.
use Rattle.std.specs.Prelude.{◌≡◌, refl, [], ◌∷◌, map}
use Rattle.around.specs.Around.{place, around}
use Rattle.around.specs.Along.{lasso_of}
use Rattle.meaning.specs.Run.{state_at}

-- a stem of one position and a loop of two
pub positions : map (place 1 3) (0 ∷ 1 ∷ 2 ∷ 3 ∷ 4 ∷ []) ≡ 0 ∷ 1 ∷ 2 ∷ 1 ∷ 2 ∷ []
unfolding place
positions = refl

-- with no stem the loop's first position is the first
pub no_stem : map (place 0 2) (0 ∷ 1 ∷ 2 ∷ 3 ∷ []) ≡ 0 ∷ 1 ∷ 0 ∷ 1 ∷ []
unfolding place
no_stem = refl

-- the labels along it
pub labels : map (around (5 ∷ 6 ∷ 7 ∷ []) 1) (0 ∷ 1 ∷ 2 ∷ 3 ∷ 4 ∷ []) ≡ 5 ∷ 6 ∷ 7 ∷ 6 ∷ 7 ∷ []
unfolding place
labels = refl

-- a run by its states: the same lasso as in meaning/proofs/Sense
pub states : map (state_at (lasso_of (5 ∷ 6 ∷ 7 ∷ []) 1)) (0 ∷ 1 ∷ 2 ∷ 3 ∷ 4 ∷ []) ≡ 5 ∷ 6 ∷ 7 ∷ 6 ∷ 7 ∷ []
unfolding state_at
states = refl
