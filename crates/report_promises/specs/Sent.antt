-- A REPORT AS A TEXT, report.txt: what a neighbour writes, in the words of our own lines (report/specs/Text), and what it says. There is no proof on this page.
use Rattle.std.specs.Prelude.{ℕ, ◌≤◌, ◌<◌, ◌≡◌, Bool, true, false, List, [], ◌++◌, length, get_or, Ok}
use Rattle.answers.specs.declared.Verdict.{Verdict}
use Rattle.answers.specs.declared.Kind.TheVariants.{NoPair}
use Rattle.answers.specs.Paper.{number_of, refused_at}
use Rattle.report.specs.Text.{word, lf, run_text, no_run_text}
use Rattle.report_text.specs.declared.RunParts.{RunParts}
use Rattle.report_text.specs.declared.ReportParts.{ReportParts}
use Rattle.report_text.specs.Form.{claim_key, report_read}
use Rattle.report_text.specs.States.{part_of, states_of}

-- a run's line: the run; or that there is none of the kind; or no line at all
pub data Line : Type 0 where
  run : List ℕ → List ℕ → Line
  no_run : Line
  left_out : Line

-- its text, as `runs` writes it
abbrev pub line_text : Bool → Line → List ℕ
line_text keeps (run stem turn) = run_text keeps stem turn
line_text keeps no_run = no_run_text keeps (refused_at NoPair 0)
line_text keeps left_out = []

-- the states that it shows
abbrev pub stem_of : Line → List ℕ
stem_of (run stem turn) = stem
stem_of no_run = []
stem_of left_out = []

abbrev pub loop_of : Line → List ℕ
loop_of (run stem turn) = turn
loop_of no_run = []
loop_of left_out = []

-- each state is a byte
abbrev pub Bytes : List ℕ → Type 0
Bytes states = (k : ℕ) → k < length states → get_or states k 0 ≤ 255

-- `claim=WORD` and LF, and the two lines
abbrev pub report_text : Verdict → Line → Line → List ℕ
report_text v keeping breaking = claim_key ++ ((word v ++ lf) ++ (line_text true keeping ++ line_text false breaking))

-- where the parts of a run stand in the text s, these states are read
pub record Shows (s : List ℕ) (r : RunParts) (line : Line) : Type 0 where
  pub stem : states_of (part_of r.stem s) ≡ stem_of line
  pub turn : states_of (part_of r.turn s) ≡ loop_of line

-- the text is read as this report
pub record ReadAs (s : List ℕ) (v : Verdict) (keeping breaking : Line) : Type 0 where
  pub parts : ReportParts
  pub is : report_read s ≡ Ok parts
  pub claim : parts.claim ≡ number_of v
  pub keeps : Shows s parts.keeping keeping
  pub breaks : Shows s parts.breaking breaking

-- what is written is read back
abbrev pub ReadBack : Type 0
ReadBack = (v : Verdict) (keeping breaking : Line) → Bytes (stem_of keeping) → Bytes (loop_of keeping) → Bytes (stem_of breaking) → Bytes (loop_of breaking)
    → ReadAs (report_text v keeping breaking) v keeping breaking
