-- WHAT A RIGHT REPORT IS (02, l), by the records of `meaning` alone: runs that are shown, and what the claim says of all others. What must be believed of reports is here.
use Rattle.std.specs.Prelude.{ℕ, zero, suc, ◌+◌, ◌≤◌, Bool, true, false, List, length}
use Rattle.meaning.specs.Formula.{Formula}
use Rattle.meaning.specs.Run.{Plant, Lasso}
use Rattle.meaning.specs.Event.{History}
use Rattle.meaning.specs.Verdict.{Agreeing, Chosen, Sure}

-- a complete run, from position 0: its stem and its loop
abbrev pub lasso : List ℕ → List ℕ → Lasso
lasso stem turn = record { stem = stem; loop = turn }

-- it has at most 4,096 states, is a run of the table, agrees with the events and keeps the rule (b is true) or breaks it (b is false), judged at the last restart
abbrev pub IsShown : Plant → Formula → History → Bool → List ℕ → List ℕ → Type 0
IsShown T f h b stem turn = (length stem + length turn ≤ 4096) × Chosen T f b h (lasso stem turn)

-- the claim is right and what it needs is shown. 0, that it is inconclusive: by a run of each kind. 1 and 2, that it is true or false: by a run of that kind, and by each run that
-- agrees with the events being of it. 3, that it is out-of-model: by there being none. There is no other claim, and a run that the claim does not need plays no part
abbrev pub CorrectReport : Plant → Formula → History → List ℕ → List ℕ → List ℕ → List ℕ → ℕ → Type 0
CorrectReport T f h keep_stem keep_loop break_stem break_loop zero = IsShown T f h true keep_stem keep_loop × IsShown T f h false break_stem break_loop
CorrectReport T f h keep_stem keep_loop break_stem break_loop (suc zero) = IsShown T f h true keep_stem keep_loop × Sure T f h true
CorrectReport T f h keep_stem keep_loop break_stem break_loop (suc (suc zero)) = IsShown T f h false break_stem break_loop × Sure T f h false
CorrectReport T f h keep_stem keep_loop break_stem break_loop (suc (suc (suc zero))) = (L : Lasso) → Agreeing T h L → ⊥
CorrectReport T f h keep_stem keep_loop break_stem break_loop (suc (suc (suc (suc n)))) = ⊥
