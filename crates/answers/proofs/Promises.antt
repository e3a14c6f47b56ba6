-- Two answers that stand for the same on paper are equal. So a promise about `paper` determines the whole answer.
use Rattle.std.specs.Prelude.{ℕ, ◌≡◌, refl, Bool, true, false, List, [], ◌∷◌, get_or, Ok, Err}
use Rattle.std.proofs.Common.{arith, ap}
use Rattle.meaning.specs.Verdict.{verdict_of}
use Rattle.answers.specs.declared.Verdict.{Verdict}
use Rattle.answers.specs.declared.Verdict.TheVariants.{Inconclusive, True, False, OutOfModel}
use Rattle.answers.specs.declared.Kind.{Kind}
use Rattle.answers.specs.declared.Kind.TheVariants.{
  Counts,
  Bits,
  TableText,
  RuleLength,
  RuleText,
  Proposition,
  Nodes,
  Parts,
  Value,
  IllegalEvent,
  Room,
  LogText,
  NoPair,
  File,
  Rows,
  Number,
  NoKey,
  SheetText,
  NotNewer,
  NotHeld,
  ClosingEdition,
  RunLength,
  Stretches,
  LogLength,
}
use Rattle.answers.specs.Results.{Answer}
use Rattle.answers.specs.Results.{Outcome}
use Rattle.answers.specs.declared.Refusal.{Refusal}
use Rattle.answers.specs.Paper.{Paper, verdict, refused, accepted, number_of, kind_number, refusal, paper, outcome, verdict_for}

-- the verdict that a call shows has its number (01, The monitor's state)
pub verdict_number : (keeps breaks : Bool) → number_of (verdict_for keeps breaks) ≡ verdict_of keeps breaks
unfolding verdict_of
verdict_number true true = refl
verdict_number true false = refl
verdict_number false true = refl
verdict_number false false = refl

-- a verdict, and a kind of refusal, from its number; File stands also where there is no such number
abbrev verdicts : List Verdict
verdicts = Inconclusive ∷ True ∷ False ∷ OutOfModel ∷ []

abbrev kinds : List Kind
kinds =
    File ∷ Counts ∷ Bits ∷ TableText ∷ RuleLength ∷ RuleText ∷ Proposition ∷ Nodes ∷ Parts ∷ Value ∷ IllegalEvent ∷ Room ∷ LogText ∷ NoPair ∷ File ∷ Rows ∷ Number ∷ NoKey ∷ SheetText ∷ NotNewer ∷ NotHeld ∷ ClosingEdition ∷ RunLength ∷ Stretches ∷ LogLength ∷ []

verdict_back : (v : Verdict) → get_or verdicts (number_of v) Inconclusive ≡ v
verdict_back Inconclusive = refl
verdict_back True = refl
verdict_back False = refl
verdict_back OutOfModel = refl

kind_back : (k : Kind) → get_or kinds (kind_number k) File ≡ k
kind_back Counts = refl
kind_back Bits = refl
kind_back TableText = refl
kind_back RuleLength = refl
kind_back RuleText = refl
kind_back Proposition = refl
kind_back Nodes = refl
kind_back Parts = refl
kind_back Value = refl
kind_back IllegalEvent = refl
kind_back Room = refl
kind_back LogText = refl
kind_back NoPair = refl
kind_back File = refl
kind_back Rows = refl
kind_back Number = refl
kind_back NoKey = refl
kind_back SheetText = refl
kind_back NotNewer = refl
kind_back NotHeld = refl
kind_back ClosingEdition = refl
kind_back RunLength = refl
kind_back Stretches = refl
kind_back LogLength = refl

pub one_verdict : (v w : Verdict) → number_of v ≡ number_of w → v ≡ w
one_verdict v w same = cc (verdict_back v, verdict_back w, ap (λ n. get_or verdicts n Inconclusive) same)

pub one_kind : (j k : Kind) → kind_number j ≡ kind_number k → j ≡ k
one_kind j k same = cc (kind_back j, kind_back k, ap (λ n. get_or kinds n File) same)

-- which of the three a paper is
abbrev sort : Paper → ℕ
sort (verdict n left) = 0
sort (refused n place) = 1
sort (accepted ns) = 2

apart : {p q : Paper} → (sort p ≡ sort q → ⊥) → p ≡ q → ⊥
apart d same = d (ap sort same)

pub one_refusal : (q r : Refusal) → refusal q ≡ refusal r → q ≡ r
one_refusal q r same =
    let number : kind_number q.kind ≡ kind_number r.kind = cc in
    let place : q.place ≡ r.place = cc in
    λ k. record { kind = one_kind q.kind r.kind number k; place = place k }

pub one_answer : (a b : Answer) → paper a ≡ paper b → a ≡ b
one_answer (Ok i) (Ok j) same =
    let number : number_of i.verdict ≡ number_of j.verdict = cc in
    let left : i.left ≡ j.left = cc in
    λ k. Ok (record { verdict = one_verdict i.verdict j.verdict number k; left = left k })
one_answer (Ok i) (Err r) same = absurd (apart (λ e. omega arith) same)
one_answer (Err r) (Ok j) same = absurd (apart (λ e. omega arith) same)
one_answer (Err q) (Err r) same = ap Err (one_refusal q r same)

pub one_outcome : (a b : Outcome) → outcome a ≡ outcome b → a ≡ b
one_outcome (Ok _) (Ok _) same = refl
one_outcome (Ok _) (Err r) same = absurd (apart (λ e. omega arith) same)
one_outcome (Err r) (Ok _) same = absurd (apart (λ e. omega arith) same)
one_outcome (Err q) (Err r) same = ap Err (one_refusal q r same)
