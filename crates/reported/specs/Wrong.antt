-- WHAT IS WRONG WITH A REPORT (02, l), where it is not right. That a run fails agreement or the rule's value is said by the records of `meaning`; what is no run at all fails start,
-- moves or fairness, which stand in shown/specs/Shown. What must be believed of the answers other than accepted is here.
use Rattle.std.specs.Prelude.{ℕ, zero, suc, ◌+◌, ◌≤◌, ◌<◌, ◌⊎◌, Bool, true, false, List, ◌++◌, length}
use Rattle.meaning.specs.Says.{Kept}
use Rattle.meaning.specs.Formula.{Formula, Holds}
use Rattle.meaning.specs.Run.{Plant, Lasso, Run, labels_along}
use Rattle.meaning.specs.Event.{History, AgreesWith}
use Rattle.meaning.specs.Verdict.{Agreeing, Sure}
use Rattle.shown.specs.declared.Failing.{Failing}
use Rattle.shown.specs.declared.Failing.TheVariants.{Start, Moves, Fairness, Agreement, Value}
use Rattle.shown.specs.Shown.{Starts, MovesOn, FairOn}
use Rattle.reported.specs.Correct.{lasso, IsShown}

-- at most 4,096 states, stem and loop together
abbrev pub Short : List ℕ → List ℕ → Type 0
Short stem turn = length stem + length turn ≤ 4096

-- of the five rules for a run that is to keep the rule (b is true) or to break it (b is false), this is the first that it fails
abbrev pub FailsFirst : Plant → Formula → History → Bool → List ℕ → List ℕ → Failing → Type 0
FailsFirst T f h b stem turn Start = Starts T (stem ++ turn) → ⊥
FailsFirst T f h b stem turn Moves = Starts T (stem ++ turn) × (MovesOn T (stem ++ turn) (length stem) → ⊥)
FailsFirst T f h b stem turn Fairness = Starts T (stem ++ turn) × MovesOn T (stem ++ turn) (length stem) × (FairOn T (stem ++ turn) (length stem) → ⊥)
FailsFirst T f h b stem turn Agreement = Run T (lasso stem turn) × (AgreesWith T (lasso stem turn) h.events → ⊥)
FailsFirst T f h b stem turn Value = Agreeing T h (lasso stem turn) × (Kept b (Holds (labels_along T (lasso stem turn)) f h.mark) → ⊥)

module _ (T : Plant) (f : Formula) (h : History) (keep_stem keep_loop break_stem break_loop : List ℕ) where
  -- with this claim the run that keeps the rule (true) or the one that breaks it (false) is the first wrong one of those that the claim needs, and fails this rule first
  abbrev pub WrongRunIn : ℕ → Bool → Failing → Type 0
  WrongRunIn zero true x = Short keep_stem keep_loop × Short break_stem break_loop × FailsFirst T f h true keep_stem keep_loop x
  WrongRunIn zero false x = IsShown T f h true keep_stem keep_loop × Short break_stem break_loop × FailsFirst T f h false break_stem break_loop x
  WrongRunIn (suc zero) true x = Short keep_stem keep_loop × FailsFirst T f h true keep_stem keep_loop x
  WrongRunIn (suc zero) false x = ⊥
  WrongRunIn (suc (suc zero)) true x = ⊥
  WrongRunIn (suc (suc zero)) false x = Short break_stem break_loop × FailsFirst T f h false break_stem break_loop x
  WrongRunIn (suc (suc (suc n))) b x = ⊥

  -- what the claim needs is shown, and yet it is wrong: not all runs that agree with the events are of the kind, or there is one where there should be none
  abbrev pub WrongClaim : ℕ → Type 0
  WrongClaim zero = ⊥
  WrongClaim (suc zero) = IsShown T f h true keep_stem keep_loop × (Sure T f h true → ⊥)
  WrongClaim (suc (suc zero)) = IsShown T f h false break_stem break_loop × (Sure T f h false → ⊥)
  WrongClaim (suc (suc (suc zero))) = (L : Lasso) × Agreeing T h L
  WrongClaim (suc (suc (suc (suc n)))) = ⊥

  -- a run that the claim needs has over 4,096 states
  abbrev pub TooLong : ℕ → Type 0
  TooLong zero = (4096 < length keep_stem + length keep_loop) ⊎ (4096 < length break_stem + length break_loop)
  TooLong (suc zero) = 4096 < length keep_stem + length keep_loop
  TooLong (suc (suc zero)) = 4096 < length break_stem + length break_loop
  TooLong (suc (suc (suc n))) = ⊥
