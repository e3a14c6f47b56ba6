-- What an answer is on paper, case by case (01, Refusal numbers, and 01, The shape each place takes); the promises are made in these numbers.
use Rattle.std.specs.Prelude.{ℕ, Bool, true, false, List, [], Ok, Err}
use Rattle.answers.specs.declared.Verdict.{Verdict}
use Rattle.answers.specs.declared.Verdict.TheVariants.{Inconclusive, True, False, OutOfModel}
use Rattle.answers.specs.declared.Kind.{Kind}
use Rattle.answers.specs.declared.Kind.TheVariants.{
  Counts,
  Bits,
  TableText,
  RuleLength,
  RuleText,
  Proposition,
  Nodes,
  Parts,
  Value,
  IllegalEvent,
  Room,
  LogText,
  NoPair,
  File,
  Rows,
  Number,
  NoKey,
  SheetText,
  NotNewer,
  NotHeld,
  ClosingEdition,
  RunLength,
  Stretches,
  LogLength,
}
use Rattle.answers.specs.declared.Refusal.{Refusal}
use Rattle.answers.specs.Results.{Answer}
use Rattle.answers.specs.Results.{Outcome}

-- what stands on paper: a verdict's number with `left`, a refusal's number with its place, or that a call was accepted, with the numbers it
-- gives (none where the value stands beside)
pub data Paper : Type 0 where
  verdict : ℕ → ℕ → Paper
  refused : ℕ → ℕ → Paper
  accepted : List ℕ → Paper

abbrev pub number_of : Verdict → ℕ
number_of Inconclusive = 0
number_of True = 1
number_of False = 2
number_of OutOfModel = 3

-- 1 to 14 are of 01, Refusal numbers, the others of 02's requests
abbrev pub kind_number : Kind → ℕ
kind_number Counts = 1
kind_number Bits = 2
kind_number TableText = 3
kind_number RuleLength = 4
kind_number RuleText = 5
kind_number Proposition = 6
kind_number Nodes = 7
kind_number Parts = 8
kind_number Value = 9
kind_number IllegalEvent = 10
kind_number Room = 11
kind_number LogText = 12
kind_number NoPair = 13
kind_number File = 14
kind_number Rows = 15
kind_number Number = 16
kind_number NoKey = 17
kind_number SheetText = 18
kind_number NotNewer = 19
kind_number NotHeld = 20
kind_number ClosingEdition = 21
kind_number RunLength = 22
kind_number Stretches = 23
kind_number LogLength = 24

-- a refusal, and each answer, on paper
abbrev pub refusal : Refusal → Paper
refusal r = refused (kind_number r.kind) r.place

abbrev pub paper : Answer → Paper
paper (Ok l) = verdict (number_of l.verdict) l.left
paper (Err r) = refusal r

abbrev pub outcome : Outcome → Paper
outcome (Ok _) = accepted []
outcome (Err r) = refusal r

-- the verdict, by whether the first set is occupied, and the second
abbrev pub verdict_for : Bool → Bool → Verdict
verdict_for true true = Inconclusive
verdict_for true false = True
verdict_for false true = False
verdict_for false false = OutOfModel

-- the answers as the contracts make them
abbrev pub refused_at : Kind → ℕ → Refusal
refused_at k p = record { kind = k; place = p }

abbrev pub shown : Bool → Bool → ℕ → Answer
shown keeps breaks left = Ok (record { verdict = verdict_for keeps breaks; left = left })
