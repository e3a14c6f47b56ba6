-- The program's lines as texts: lists of bytes.
use Rattle.std.specs.Prelude.{Bool, true, false, cond, List, [], ◌∷◌, ◌++◌, ℕ, zero, suc, ◌^◌, eqb, ltb, length, get_or}
use Rattle.io.specs.Digits.{last_digits}
use Rattle.answers.specs.Paper.{kind_number}
use Rattle.answers.specs.declared.Verdict.{Verdict}
use Rattle.answers.specs.declared.Verdict.TheVariants.{Inconclusive, True, False, OutOfModel}
use Rattle.answers.specs.declared.Lamp.{Lamp}
use Rattle.answers.specs.declared.Refusal.{Refusal}

-- how many digits n takes, from k on and up to f more
unfoldable pub places_from : ℕ → ℕ → ℕ → ℕ
places_from zero k n = k
places_from (suc f) k n = cond (ltb n (10 ^ k)) k (places_from f (suc k) n)

-- a number below 10 ^ 20 in decimal, with no leading zero
abbrev pub decimal : ℕ → List ℕ
decimal n = last_digits 10 (places_from 19 1 n) n

-- `inconclusive`, `true`, `false`, `out-of-model`
abbrev pub word : Verdict → List ℕ
word Inconclusive = 105 ∷ 110 ∷ 99 ∷ 111 ∷ 110 ∷ 99 ∷ 108 ∷ 117 ∷ 115 ∷ 105 ∷ 118 ∷ 101 ∷ []
word True = 116 ∷ 114 ∷ 117 ∷ 101 ∷ []
word False = 102 ∷ 97 ∷ 108 ∷ 115 ∷ 101 ∷ []
word OutOfModel = 111 ∷ 117 ∷ 116 ∷ 45 ∷ 111 ∷ 102 ∷ 45 ∷ 109 ∷ 111 ∷ 100 ∷ 101 ∷ 108 ∷ []

-- `refused=`, ` place=`, `start`, `n=`, ` verdict=`, ` left=` and LF
abbrev pub refused_key : List ℕ
refused_key = 114 ∷ 101 ∷ 102 ∷ 117 ∷ 115 ∷ 101 ∷ 100 ∷ 61 ∷ []

abbrev pub place_key : List ℕ
place_key = 32 ∷ 112 ∷ 108 ∷ 97 ∷ 99 ∷ 101 ∷ 61 ∷ []

abbrev pub start_word : List ℕ
start_word = 115 ∷ 116 ∷ 97 ∷ 114 ∷ 116 ∷ []

abbrev pub line_key : List ℕ
line_key = 110 ∷ 61 ∷ []

abbrev pub verdict_key : List ℕ
verdict_key = 32 ∷ 118 ∷ 101 ∷ 114 ∷ 100 ∷ 105 ∷ 99 ∷ 116 ∷ 61 ∷ []

abbrev pub left_key : List ℕ
left_key = 32 ∷ 108 ∷ 101 ∷ 102 ∷ 116 ∷ 61 ∷ []

abbrev pub lf : List ℕ
lf = 10 ∷ []

-- ` verdict=WORD left=L` and LF
abbrev pub shown_text : Lamp → List ℕ
shown_text lamp = verdict_key ++ word lamp.verdict ++ left_key ++ decimal lamp.left ++ lf

-- `refused=N place=P` and LF
abbrev pub refused_text : Refusal → List ℕ
refused_text refusal = refused_key ++ decimal (kind_number refusal.kind) ++ place_key ++ decimal refusal.place ++ lf

-- `start verdict=WORD left=L` and LF
abbrev pub start_text : Lamp → List ℕ
start_text lamp = start_word ++ shown_text lamp

-- `n=N verdict=WORD left=L` and LF
abbrev pub lamp_text : ℕ → Lamp → List ℕ
lamp_text n lamp = line_key ++ decimal n ++ shown_text lamp

-- `keeps` or `breaks`: the kind of a run
abbrev pub kind_word : Bool → List ℕ
kind_word true = 107 ∷ 101 ∷ 101 ∷ 112 ∷ 115 ∷ []
kind_word false = 98 ∷ 114 ∷ 101 ∷ 97 ∷ 107 ∷ 115 ∷ []

-- ` stem=`, ` loop=`, `,` and ` `
abbrev pub stem_key : List ℕ
stem_key = 32 ∷ 115 ∷ 116 ∷ 101 ∷ 109 ∷ 61 ∷ []

abbrev pub loop_key : List ℕ
loop_key = 32 ∷ 108 ∷ 111 ∷ 111 ∷ 112 ∷ 61 ∷ []

abbrev pub comma : List ℕ
comma = 44 ∷ []

abbrev pub space : List ℕ
space = 32 ∷ []

-- a state in decimal, behind a comma unless it is the first
abbrev pub state_text : Bool → ℕ → List ℕ
state_text true state = decimal state
state_text false state = comma ++ decimal state

-- the first k states
unfoldable pub states_text : ℕ → List ℕ → List ℕ
states_text zero states = []
states_text (suc k) states = states_text k states ++ state_text (eqb k 0) (get_or states k 0)

-- all states behind a key
abbrev pub part_text : List ℕ → List ℕ → List ℕ
part_text key states = key ++ states_text (length states) states

-- `keeps stem=2,3 loop=1,0` and LF
abbrev pub run_text : Bool → List ℕ → List ℕ → List ℕ
run_text keeps stem loop = kind_word keeps ++ part_text stem_key stem ++ part_text loop_key loop ++ lf

-- `keeps refused=N place=P` and LF
abbrev pub no_run_text : Bool → Refusal → List ℕ
no_run_text keeps refusal = kind_word keeps ++ space ++ refused_text refusal
