-- WHAT THE FORM OF REPORT.TXT IS, and where a text that is not of it is refused: at the length of its longest beginning that can be gone on with to a report. There is no proof on
-- this page.
use Rattle.std.specs.Prelude.{ℕ, suc, ◌≤◌, ◌<◌, ◌≡◌, Bool, true, false, List, [], ◌++◌, length, take, Result, Ok, Err}
use Rattle.report_text.specs.declared.ReportParts.{ReportParts}
use Rattle.report_text.specs.Form.{claim_key, verdict_word, stem_key, loop_key, lf, refused_line, report_read}
use Rattle.report_promises.specs.Walk.{IsList, kind_key}

-- a run's line, by the texts of its two lists; or what says that there is none; or no line
pub data Line : Type 0 where
  run : List ℕ → List ℕ → Line
  no_run : Line
  left_out : Line

abbrev pub text_of : Bool → Line → List ℕ
text_of keeps (run stem turn) = kind_key keeps ++ (stem_key ++ (stem ++ (loop_key ++ (turn ++ lf))))
text_of keeps no_run = kind_key keeps ++ refused_line
text_of keeps left_out = []

-- its lists are lists
abbrev pub Fine : Line → Type 0
Fine (run stem turn) = IsList stem × IsList turn
Fine no_run = Unit {0}
Fine left_out = Unit {0}

-- the text is a report: the claim's line, and the two lines of runs
pub record IsReport (s : List ℕ) : Type 0 where
  pub claim : ℕ
  pub few : claim ≤ 3
  pub keeping : Line
  pub breaking : Line
  pub keeps : Fine keeping
  pub breaks : Fine breaking
  pub is : s ≡ claim_key ++ (verdict_word claim ++ (text_of true keeping ++ text_of false breaking))

-- the text can be gone on with to a report
pub record Begins (p : List ℕ) : Type 0 where
  pub rest : List ℕ
  pub report : IsReport (p ++ rest)

-- the text is no report; up to place i it begins one, and with the byte there, if it has one, it does not
pub record StopsAt (s : List ℕ) (i : ℕ) : Type 0 where
  pub no_report : IsReport s → ⊥
  pub within : i ≤ length s
  pub begins : Begins (take i s)
  pub stops : i < length s → Begins (take (suc i) s) → ⊥

-- what the reader answers: a report for a report, and else where the text stops to begin one
pub data ReadRight (s : List ℕ) : Result ReportParts ℕ → Type 0 where
  is_report : {p : ReportParts} → IsReport s → ReadRight s (Ok p)
  refused : {i : ℕ} → StopsAt s i → ReadRight s (Err i)

abbrev pub PlaceRight : Type 0
PlaceRight = (s : List ℕ) → ReadRight s (report_read s)
