-- WHAT IS PROMISED OF CLOSING VERDICTS beside DayEnd: edition 1 is the last verdict, edition 2 differs from it only where that is inconclusive, a decided verdict is never presumed; and there
-- is no choice. The verdict is that of the monitor behind the last event.
use Rattle.std.specs.Prelude.{ℕ, ◌≡◌, ◌⊎◌, List}
use Rattle.std.proofs.Common.{arith, sym, ap, ◌∙◌, ⊎_elim}
use Rattle.std.proofs.Math.Path.{refl}
use Rattle.std.proofs.Math.Logic.{inl, inr}
use Rattle.meaning.specs.Formula.{Formula}
use Rattle.meaning.specs.Event.{Seen}
use Rattle.answers.specs.declared.Verdict.{Verdict}
use Rattle.answers.specs.declared.Verdict.TheVariants as Verdicts
use Rattle.answers.specs.Paper.{number_of}
use Rattle.syntax.specs.declared.Rule.{Rule}
use Rattle.event_log.specs.declared.Event.{Event}
use Rattle.sides.specs.declared.Monitor.{Monitor}
use Rattle.sides.specs.Held.{model_of, lamp_in}
use Rattle.closing.specs.declared.ClosingVerdict.{ClosingVerdict}
use Rattle.closing.specs.declared.ClosingVerdict.TheVariants.{Inconclusive, True, False, OutOfModel, PresumablyTrue, PresumablyFalse}
use Rattle.closing.specs.declared.Closed.{Closed}
use Rattle.closing.specs.declared.Closed.TheVariants.{At, Stopped, Refused}
use Rattle.closing.specs.Closing.{closing_number, of_verdict, presumed_of, second_of, closed_at}
use Rattle.closing.proofs.close_log.Reads as close_log
use Rattle.closing_right.specs.DayEnd.{Presumed}

-- the number of a closing verdict, and 6 where there is none
abbrev told : Closed → ℕ
told (At c) = closing_number c
told (Stopped s) = 6
told (Refused r) = 6

module _ (rule : Rule) (event : ℕ → Event) (n : ℕ) (last : Monitor) where
  -- the last verdict
  abbrev v : Verdict
  v = (lamp_in (model_of last)).verdict

  -- edition 1 is the last verdict, with the same number
  pub edition_one : (closed_at rule event n last 1 ≡ At (of_verdict v)) × (closing_number (of_verdict v) ≡ number_of v)
  unfolding closed_at
  edition_one = (refl, go v)
    where
      go : (x : Verdict) → closing_number (of_verdict x) ≡ number_of x
      go Verdicts.Inconclusive = refl
      go Verdicts.True = refl
      go Verdicts.False = refl
      go Verdicts.OutOfModel = refl

  -- edition 2 is the same where that is decided
  pub decided_stands : (v ≡ Verdicts.Inconclusive → ⊥) → closed_at rule event n last 2 ≡ closed_at rule event n last 1
  unfolding closed_at
  decided_stands decided = go v decided
    where
      go : (x : Verdict) → (x ≡ Verdicts.Inconclusive → ⊥) → At (second_of x (presumed_of rule event n)) ≡ At (of_verdict x)
      go Verdicts.Inconclusive h = absurd (h refl)
      go Verdicts.True h = refl
      go Verdicts.False h = refl
      go Verdicts.OutOfModel h = refl

  -- so what is presumed was inconclusive
  pub presumed_open : (closed_at rule event n last 2 ≡ At PresumablyTrue) ⊎ (closed_at rule event n last 2 ≡ At PresumablyFalse) → v ≡ Verdicts.Inconclusive
  unfolding closed_at
  presumed_open h = go v (⊎_elim (λ e. inl (ap told e)) (λ e. inr (ap told e)) h)
    where
      go : (x : Verdict) → (closing_number (second_of x (presumed_of rule event n)) ≡ 4) ⊎ (closing_number (second_of x (presumed_of rule event n)) ≡ 5) → x ≡ Verdicts.Inconclusive
      go Verdicts.Inconclusive h = refl
      go Verdicts.True h = absurd (⊎_elim (λ e. omega (arith, e)) (λ e. omega (arith, e)) h)
      go Verdicts.False h = absurd (⊎_elim (λ e. omega (arith, e)) (λ e. omega (arith, e)) h)
      go Verdicts.OutOfModel h = absurd (⊎_elim (λ e. omega (arith, e)) (λ e. omega (arith, e)) h)

-- no two closing verdicts are presumed by the definition
pub presumed_one : (f : Formula) (s : List Seen) (c d : ClosingVerdict) → Presumed f s c → Presumed f s d → c ≡ d
presumed_one f s c d x y = go c x
  where
    no_other : {A B : Type 0} → (A × B → ⊥) → (A × (B → ⊥) → ⊥) → (A → ⊥)
    no_other h k a = k (a, λ b. h (a, b))

    -- what is none of the three is not presumed
    other : (c : ClosingVerdict) → Presumed f s c → (c ≡ PresumablyTrue → ⊥) → (c ≡ PresumablyFalse → ⊥) → (c ≡ Inconclusive → ⊥) → ⊥
    other c x t u w = w (x.stays.1 (no_other (λ h. t (x.presumably_true.1 h)) (λ h. u (x.presumably_false.1 h))))

    apart : (c e : ClosingVerdict) → (closing_number c ≡ closing_number e → ⊥) → c ≡ e → ⊥
    apart c e h is = h (ap closing_number is)

    go : (c : ClosingVerdict) → Presumed f s c → c ≡ d
    go PresumablyTrue x = sym (y.presumably_true.1 (x.presumably_true.0 refl))
    go PresumablyFalse x = sym (y.presumably_false.1 (x.presumably_false.0 refl))
    go Inconclusive x = sym (y.stays.1 (x.stays.0 refl))
    go True x = absurd (other True x (apart True PresumablyTrue (λ e. omega (arith, e))) (apart True PresumablyFalse (λ e. omega (arith, e))) (apart True Inconclusive (λ e. omega (arith, e))))
    go False x = absurd (other False x (apart False PresumablyTrue (λ e. omega (arith, e))) (apart False PresumablyFalse (λ e. omega (arith, e))) (apart False Inconclusive (λ e. omega (arith, e))))
    go OutOfModel x = absurd (other OutOfModel x (apart OutOfModel PresumablyTrue (λ e. omega (arith, e))) (apart OutOfModel PresumablyFalse (λ e. omega (arith, e))) (apart OutOfModel Inconclusive (λ e. omega (arith, e))))

-- two results that the contract of `close_log` allows are equal (`Learnt` is what the kit reads from its `ensures`)
pub close_log_one : (κs : _) (x : _) (r r' : _) (u u' : _) → close_log.Learnt κs x r u → close_log.Learnt κs x r' u' → r ≡ r'
close_log_one κs x r r' u u' e e' = e ∙ sym e'
