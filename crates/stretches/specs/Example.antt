-- The definitions at work: six events, of which the first and the fifth are restarts, make two stretches. In the first the verdict is true from its second event on
-- and out-of-model at its fourth; in the second it is never true or false.
use Rattle.std.specs.Prelude.{◌≡◌, refl, true, false, List, [], ◌∷◌}
use Rattle.answers.specs.declared.Verdict.TheVariants.{Inconclusive, True, OutOfModel}
use Rattle.stretches.specs.Afresh.{Shown, stretches_from, lines_of}

abbrev day : List Shown
day =
    record { number = 7; new = true; verdict = Inconclusive } ∷ record { number = 8; new = false; verdict = True } ∷ record { number = 9; new = false; verdict = True }
    ∷ record { number = 10; new = false; verdict = OutOfModel } ∷ record { number = 11; new = true; verdict = OutOfModel } ∷ record { number = 12; new = false; verdict = Inconclusive } ∷ []

pub two_stretches : lines_of day
    ≡ record { first = 7; events = 4; verdict = OutOfModel; decided = 8 } ∷ record { first = 11; events = 2; verdict = Inconclusive; decided = 4294967296 } ∷ []
unfolding stretches_from
two_stretches = refl

-- with no events there are no lines
pub no_lines : lines_of [] ≡ []
no_lines = refl
