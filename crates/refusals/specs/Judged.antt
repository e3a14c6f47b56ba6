-- How a chain of checks follows a table of causes, row by row.
use Rattle.std.specs.Prelude.{ℕ, ◌≡◌, refl, ◌↔◌, ◌⊎◌, Bool, true, false, ◌&&◌, not, List, Ok, Err}
use Rattle.std.proofs.Common.{sym, ap, subst, ◌∙◌, inl, inr}
use Rattle.std.proofs.Math.Bool.{So}
use Rattle.std.proofs.lemmas.Bool.{false≢true}
use Rattle.meaning.specs.Says.{Says}
use Rattle.answers.specs.declared.Kind.{Kind}
use Rattle.answers.specs.Results.{Outcome}
use Rattle.answers.specs.Paper.{Paper, verdict, refused, accepted, kind_number, refusal}
use Rattle.answers.specs.Chain.{refused_as, and_then, unless}
use Rattle.refusals.specs.Causes.{Rows, end, row, First, NoCause, Taken}

-- ---- tables

-- where a row applies there is a cause
pub first_cause : (rs : Rows) (k : Kind) → First rs k → NoCause rs → ⊥
unfolding First NoCause
first_cause end k f n = f
first_cause (row j cause rest) k (inl (e, x)) (z, ns) = z x
first_cause (row j cause rest) k (inr (z, f)) (_, ns) = first_cause rest k f ns

-- the first row that applies is one
pub first_one : (rs : Rows) (j k : Kind) → First rs j → First rs k → j ≡ k
unfolding First
first_one end j k f g = absurd f
first_one (row i cause rest) j k (inl (e, x)) (inl (d, y)) = e ∙ sym d
first_one (row i cause rest) j k (inl (e, x)) (inr (z, g)) = absurd (z x)
first_one (row i cause rest) j k (inr (z, f)) (inl (d, y)) = absurd (z y)
first_one (row i cause rest) j k (inr (z, f)) (inr (_, g)) = first_one rest j k f g

-- ---- chains of checks

-- what the checks come to is what the table says: one of these always is the case
pub data Judged (rs : Rows) (o : Outcome) : Type 0 where
  by_row : (k : Kind) → First rs k → o ≡ refused_as k → Judged rs o
  by_none : NoCause rs → o ≡ Ok tt → Judged rs o

-- a test fails exactly if its cause applies
pub record Finds (t : Bool) (cause : Type 0) : Type 0 where
  pub fails : t ≡ false → cause
  pub holds : So t → cause → ⊥

-- a test that says A fails exactly if A does not hold
pub finds_not : {t : Bool} {A : Type 0} → Says t A → Finds t (A → ⊥)
finds_not s = record { fails = λ e x. false≢true (sym e ∙ s.1 x); holds = λ e z. z (s.0 e) }

-- a test that says A, turned round, fails exactly if A holds
pub finds_so : {t : Bool} {A : Type 0} → Says t A → Finds (not t) A
finds_so {t = true} s = record { fails = λ _. s.0 refl; holds = λ e. absurd (false≢true e) }
finds_so {t = false} s = record { fails = λ e. absurd (false≢true (sym e)); holds = λ _ x. false≢true (s.1 x) }

-- and both of two tests hold exactly if neither cause applies
pub finds_either : {a b : Bool} {A B : Type 0} → Finds a A → Finds b B → Finds (a && b) (A ⊎ B)
finds_either {a = true} x y = record { fails = λ e. inr (y.fails e); holds = λ e. either (x.holds refl) (y.holds e) }
  where
    either : {A B : Type 0} → (A → ⊥) → (B → ⊥) → A ⊎ B → ⊥
    either f g (inl x) = f x
    either f g (inr y) = g y
finds_either {a = false} x y = record { fails = λ e. inl (x.fails refl); holds = λ e. absurd (false≢true e) }

-- no check is left
pub judged_end_lem : Judged end (Ok tt)
unfolding NoCause
judged_end_lem = by_none tt refl

-- a check by a test, and the others behind it where it holds
pub judged_row : (k : Kind) (t : Bool) {cause : Type 0} {rest : Rows} {o : Outcome} → Finds t cause → (So t → Judged rest o) → Judged (row k cause rest) (and_then (unless t k) o)
unfolding First NoCause
judged_row k true {cause} {rest} {o} x more = on (more refl)
  where
    on : Judged rest o → Judged (row k cause rest) o
    on (by_row j f e) = by_row j (inr (x.holds refl, f)) e
    on (by_none n e) = by_none (x.holds refl, n) e
judged_row k false x more = by_row k (inl (refl, x.fails refl)) refl

-- two checks of one kind are one check, checks may be put together from the end, and behind the last comes none
pub one_check : (a b : Bool) (k : Kind) → and_then (unless a k) (unless b k) ≡ unless (a && b) k
one_check true b k = refl
one_check false b k = refl

pub in_turn_lem : (a b c : Outcome) → and_then (and_then a b) c ≡ and_then a (and_then b c)
in_turn_lem (Ok _) b c = refl
in_turn_lem (Err r) b c = refl

pub no_more : (o : Outcome) → and_then o (Ok tt) ≡ o
no_more (Ok _) = refl
no_more (Err r) = refl

-- ---- answers on paper

-- the answer is a refusal exactly if the checks refuse, and then theirs
abbrev pub Tells : Paper → Outcome → Type 0
Tells a (Ok _) = Taken a
Tells a (Err r) = a ≡ refusal r

-- which a paper without a refusal's number is not
abbrev is_refused : Paper → Bool
is_refused (refused n q) = true
is_refused (verdict n left) = false
is_refused (accepted ns) = false

abbrev pub number_in : Paper → ℕ
number_in (refused n q) = n
number_in (verdict n left) = 0
number_in (accepted ns) = 0

abbrev pub place_in : Paper → ℕ
place_in (refused n q) = q
place_in (verdict n left) = 0
place_in (accepted ns) = 0

pub verdict_taken : (n left : ℕ) → Taken (verdict n left)
verdict_taken n left m q e = false≢true (ap is_refused e)

pub accepted_taken : (ns : List ℕ) → Taken (accepted ns)
accepted_taken ns m q e = false≢true (ap is_refused e)

module _ (rs : Rows) {a : Paper} {o : Outcome} (tells : Tells a o) where
  pub taken_as : Judged rs o → Taken a ↔ NoCause rs
  taken_as (by_none n e) = (λ t. n, λ n. subst (Tells a) e tells)
  taken_as (by_row i f e) = (λ t. absurd (t (kind_number i) 0 (subst (Tells a) e tells)), λ n. absurd (first_cause rs i f n))
