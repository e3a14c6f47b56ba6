-- Checks one after the other, and the small words of their outcomes.
use Rattle.std.specs.Prelude.{ℕ, ◌≡◌, refl, ◌↔◌, ◌⊎◌, Bool, true, false, Ok, Err}
use Rattle.std.proofs.Common.{sym, ap, ◌∙◌, inl, inr, ⊎_elim}
use Rattle.std.proofs.Math.Bool.{So}
use Rattle.std.proofs.lemmas.Bool.{false≢true}
use Rattle.answers.specs.declared.Kind.{Kind}
use Rattle.answers.specs.declared.Kind.TheVariants.{File}
use Rattle.answers.specs.declared.Refusal.{Refusal}
use Rattle.answers.specs.Results.{Outcome}
use Rattle.answers.specs.Paper.{kind_number, refused_at}

-- ---- what stands in an outcome

-- a refusal at place 0
abbrev pub refused_as : Kind → Outcome
refused_as k = Err (refused_at k 0)

abbrev pub is_accepted : Outcome → Bool
is_accepted (Ok _) = true
is_accepted (Err r) = false

-- the kind, and its number, of which an acceptance has none: File and 0 stand for that
abbrev pub kind_of : Outcome → Kind
kind_of (Ok _) = File
kind_of (Err r) = r.kind

abbrev pub number : Outcome → ℕ
number (Ok _) = 0
number (Err r) = kind_number r.kind

abbrev pub place_of : Outcome → ℕ
place_of (Ok _) = 0
place_of (Err r) = r.place

-- outcomes of different numbers differ
pub differ : {A : Type 0} {o : Outcome} (a b : Outcome) → (number a ≡ number b → ⊥) → o ≡ a → o ≡ b → A
differ a b d e f = absurd (d (ap number (sym e ∙ f)))

-- and a refusal is no acceptance
pub refused_none : {A : Type 0} {r : Refusal} → ◌≡◌ {A = Outcome} (Err r) (Ok tt) → A
refused_none e = absurd (false≢true (ap is_accepted e))

-- ---- checks in turn

-- one check and then another: the first refusal counts
abbrev pub and_then : Outcome → Outcome → Outcome
and_then (Ok _) next = next
and_then (Err r) next = Err r

-- a check by a test: refused at place 0 unless it holds
abbrev pub unless : Bool → Kind → Outcome
unless true k = Ok tt
unless false k = refused_as k

-- the first check refuses, and so does the chain; it accepts, and the rest decides
pub first_refuses : {o a : Outcome} {r : Refusal} (b : Outcome) → o ≡ a → o ≡ Err r → Err r ≡ and_then a b
first_refuses b e f = ap (λ x. and_then x b) (sym f ∙ e)

pub first_passes : {o a : Outcome} (b : Outcome) → o ≡ a → o ≡ Ok tt → b ≡ and_then a b
first_passes b e f = ap (λ x. and_then x b) (sym f ∙ e)

-- a test that holds accepts, one that fails refuses
pub test_passes : {t b : Bool} (k : Kind) → t ≡ true → t ≡ b → (Ok tt) ≡ unless b k
test_passes k h e = ap (λ x. unless x k) (sym h ∙ e)

pub test_fails : {t b : Bool} {r : Refusal} (k : Kind) → t ≡ false → t ≡ b → r ≡ refused_at k 0 → Err r ≡ unless b k
test_fails k h e place = ap Err place ∙ ap (λ x. unless x k) (sym h ∙ e)

-- accepted exactly if all accept
pub chain_accepts : (a b : Outcome) → (and_then a b ≡ Ok tt) ↔ ((a ≡ Ok tt) × (b ≡ Ok tt))
chain_accepts (Ok _) b = (λ e. (refl, e), λ h. h.1)
chain_accepts (Err r) b = (refused_none, λ h. refused_none h.0)

-- refused exactly by the first that does not
pub chain_refuses : (a b : Outcome) (r : Refusal) → (and_then a b ≡ Err r) ↔ ((a ≡ Err r) ⊎ ((a ≡ Ok tt) × (b ≡ Err r)))
chain_refuses (Ok _) b r = (λ e. inr (refl, e), ⊎_elim (λ e. refused_none (sym e)) (λ h. h.1))
chain_refuses (Err s) b r = (inl, ⊎_elim (λ e. e) (λ h. refused_none h.0))

pub unless_accepts : (t : Bool) (k : Kind) → (unless t k ≡ Ok tt) ↔ So t
unless_accepts true k = (λ e. refl, λ h. refl)
unless_accepts false k = (refused_none, λ h. absurd (false≢true h))

pub unless_refuses : (t : Bool) (k : Kind) → (unless t k ≡ refused_as k) ↔ (t ≡ false)
unless_refuses true k = (λ e. refused_none (sym e), λ h. absurd (false≢true (sym h)))
unless_refuses false k = (λ e. refl, λ h. refl)
