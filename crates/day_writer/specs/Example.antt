-- The definitions at work, on the lines `first=0 events=2 verdict=true decided=1` and `first=2 events=1 verdict=false decided=-`.
use Rattle.std.specs.Prelude.{◌≡◌, refl, [], ◌∷◌}
use Rattle.answers.specs.declared.Verdict.TheVariants.{True, False}
use Rattle.report.specs.Text.{places_from}
use Rattle.day_writer.specs.Text.{decided_text, line_text}

pub decided : line_text (record { first = 0; events = 2; verdict = True; decided = 1 })
    ≡ 102 ∷ 105 ∷ 114 ∷ 115 ∷ 116 ∷ 61 ∷ 48 ∷ 32 ∷ 101 ∷ 118 ∷ 101 ∷ 110 ∷ 116 ∷ 115 ∷ 61 ∷ 50 ∷ 32 ∷ 118 ∷ 101 ∷ 114 ∷ 100 ∷ 105 ∷ 99 ∷ 116 ∷ 61 ∷ 116 ∷ 114 ∷ 117 ∷ 101 ∷ 32 ∷ 100 ∷ 101 ∷ 99 ∷ 105 ∷ 100 ∷ 101 ∷ 100 ∷ 61 ∷ 49 ∷ 10 ∷ []
unfolding decided_text places_from
decided = refl

pub undecided : line_text (record { first = 2; events = 1; verdict = False; decided = 4294967296 })
    ≡ 102 ∷ 105 ∷ 114 ∷ 115 ∷ 116 ∷ 61 ∷ 50 ∷ 32 ∷ 101 ∷ 118 ∷ 101 ∷ 110 ∷ 116 ∷ 115 ∷ 61 ∷ 49 ∷ 32 ∷ 118 ∷ 101 ∷ 114 ∷ 100 ∷ 105 ∷ 99 ∷ 116 ∷ 61 ∷ 102 ∷ 97 ∷ 108 ∷ 115 ∷ 101 ∷ 32 ∷ 100 ∷ 101 ∷ 99 ∷ 105 ∷ 100 ∷ 101 ∷ 100 ∷ 61 ∷ 45 ∷ 10 ∷ []
unfolding decided_text places_from
undecided = refl
