-- The definitions at work: on lines of the program (01, Log and program), and on those of runs.
use Rattle.std.specs.Prelude.{◌≡◌, refl, true, false, [], ◌∷◌}
use Rattle.answers.specs.Paper.{refused_at}
use Rattle.answers.specs.declared.Kind.TheVariants.{IllegalEvent, NoPair}
use Rattle.answers.specs.declared.Verdict.TheVariants.{True}
use Rattle.report.specs.Text.{places_from, refused_text, lamp_text, states_text, run_text, no_run_text}

-- `refused=10 place=120`
pub refused : refused_text (refused_at IllegalEvent 120) ≡ 114 ∷ 101 ∷ 102 ∷ 117 ∷ 115 ∷ 101 ∷ 100 ∷ 61 ∷ 49 ∷ 48 ∷ 32 ∷ 112 ∷ 108 ∷ 97 ∷ 99 ∷ 101 ∷ 61 ∷ 49 ∷ 50 ∷ 48 ∷ 10 ∷ []
unfolding places_from
refused = refl

-- `n=2 verdict=true left=1`
pub third : lamp_text 2 (record { verdict = True; left = 1 }) ≡ 110 ∷ 61 ∷ 50 ∷ 32 ∷ 118 ∷ 101 ∷ 114 ∷ 100 ∷ 105 ∷ 99 ∷ 116 ∷ 61 ∷ 116 ∷ 114 ∷ 117 ∷ 101 ∷ 32 ∷ 108 ∷ 101 ∷ 102 ∷ 116 ∷ 61 ∷ 49 ∷ 10 ∷ []
unfolding places_from
third = refl

-- `keeps stem=2,13,0 loop=63` and LF
pub goes_on : run_text true (2 ∷ 13 ∷ 0 ∷ []) (63 ∷ []) ≡ 107 ∷ 101 ∷ 101 ∷ 112 ∷ 115 ∷ 32 ∷ 115 ∷ 116 ∷ 101 ∷ 109 ∷ 61 ∷ 50 ∷ 44 ∷ 49 ∷ 51 ∷ 44 ∷ 48 ∷ 32 ∷ 108 ∷ 111 ∷ 111 ∷ 112 ∷ 61 ∷ 54 ∷ 51 ∷ 10 ∷ []
unfolding places_from states_text
goes_on = refl

-- `breaks stem= loop=1,0` and LF
pub loop_at_once : run_text false [] (1 ∷ 0 ∷ []) ≡ 98 ∷ 114 ∷ 101 ∷ 97 ∷ 107 ∷ 115 ∷ 32 ∷ 115 ∷ 116 ∷ 101 ∷ 109 ∷ 61 ∷ 32 ∷ 108 ∷ 111 ∷ 111 ∷ 112 ∷ 61 ∷ 49 ∷ 44 ∷ 48 ∷ 10 ∷ []
unfolding places_from states_text
loop_at_once = refl

-- `breaks refused=13 place=0` and LF
pub no_run : no_run_text false (refused_at NoPair 0) ≡ 98 ∷ 114 ∷ 101 ∷ 97 ∷ 107 ∷ 115 ∷ 32 ∷ 114 ∷ 101 ∷ 102 ∷ 117 ∷ 115 ∷ 101 ∷ 100 ∷ 61 ∷ 49 ∷ 51 ∷ 32 ∷ 112 ∷ 108 ∷ 97 ∷ 99 ∷ 101 ∷ 61 ∷ 48 ∷ 10 ∷ []
unfolding places_from
no_run = refl
