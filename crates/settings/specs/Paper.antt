-- What an answer about sheets is on paper (02, j); two answers that stand for the same on paper are equal.
use Rattle.std.specs.Prelude.{ℕ, ◌≡◌, Result, Ok, Err}
use Rattle.std.proofs.Common.{ap, arith}
use Rattle.answers.specs.Paper.{kind_number}
use Rattle.answers.proofs.Promises.{one_kind}
use Rattle.settings.specs.declared.SheetRefusal.{SheetRefusal}
use Rattle.settings.specs.declared.Spot.{Spot}

-- a value's sheet (1 local, 2 shared) with its place and the place behind it; a count; or a refusal's number with its sheet (0: none) and place
pub data Paper : Type 0 where
  found : ℕ → ℕ → ℕ → Paper
  counted : ℕ → Paper
  refused : ℕ → ℕ → ℕ → Paper

abbrev pub refusal : SheetRefusal → Paper
refusal r = refused (kind_number r.kind) r.sheet r.place

abbrev pub paper : Result Spot SheetRefusal → Paper
paper (Ok p) = found p.sheet p.from p.upto
paper (Err r) = refusal r

pub one_refusal : (q r : SheetRefusal) → refusal q ≡ refusal r → q ≡ r
one_refusal q r same =
    let number : kind_number q.kind ≡ kind_number r.kind = cc in
    let sheet : q.sheet ≡ r.sheet = cc in
    let place : q.place ≡ r.place = cc in
    λ k. record { kind = one_kind q.kind r.kind number k; sheet = sheet k; place = place k }

-- a count is no refusal, and neither is a value
abbrev sort : Paper → ℕ
sort (found n a b) = 0
sort (counted n) = 1
sort (refused n s p) = 2

pub apart : {p q : Paper} → (sort p ≡ sort q → ⊥) → p ≡ q → ⊥
apart d same = d (ap sort same)

pub one_answer : (a b : Result Spot SheetRefusal) → paper a ≡ paper b → a ≡ b
one_answer (Ok p) (Ok q) same =
    let sheet : p.sheet ≡ q.sheet = cc in
    let from : p.from ≡ q.from = cc in
    let upto : p.upto ≡ q.upto = cc in
    λ k. Ok (record { sheet = sheet k; from = from k; upto = upto k })
one_answer (Ok p) (Err r) same = absurd (apart (λ e. omega arith) same)
one_answer (Err r) (Ok p) same = absurd (apart (λ e. omega arith) same)
one_answer (Err q) (Err r) same = ap Err (one_refusal q r same)
