-- What reading a sheet promises. The contract of scan_sheet is an equation, `r ≡ scan_of s`; what that means is said here by specs/Sheet.
use Rattle.std.specs.Prelude.{ℕ, suc, ◌≤◌, ◌<◌, ◌≡◌, List, ◌++◌, length, take, drop, Result, Ok, Err}
use Rattle.std.proofs.Common.{append_assoc, ⊎_elim, arith, le_antisymm, take-append-drop, take-take, lt-ltb, le-ltb}
use Rattle.text.specs.Cases.{below_or_beyond}
use Rattle.sheet.specs.declared.Lines.{Lines}
use Rattle.sheet.specs.declared.State.{State}
use Rattle.sheet.specs.Sheet.{Values, IsSheet, Begins, StopsAt}
use Rattle.sheet.specs.Machine.{scan_from, begin, scan_of}
use Rattle.sheet.specs.Read.{lines_of}
use Rattle.sheet.specs.Reached.{Reached}

-- a text and its lines
pub record Told (s : List ℕ) (l : Lines) : Type 0 where
  pub values : Values
  pub sheet : IsSheet s values
  pub lines : l ≡ lines_of values

-- what an answer says of a text
abbrev pub Right : List ℕ → Result Lines ℕ → Type 0
Right s (Ok l) = Told s l
Right s (Err i) = StopsAt s i

-- p is read, and what follows is read from here
pub record Passed (p : List ℕ) (l : Lines) (st : State) : Type 0 where
  pub reached : Reached p l st
  pub goes_on : (s : List ℕ) → begin (p ++ s) ≡ scan_from l st (length p) s

-- good and bad are not the same
pub good_bad : {A : Type 0} (l : Lines) (i : ℕ) → Ok l ≡ Err i → A
good_bad l i e = let z : ◌≡◌ {A = ℕ} 0 1 = cc in absurd (omega arith)

-- what begins a sheet does so from its start
begins_front : (s : List ℕ) (i j : ℕ) → i ≤ j → Begins (take j s) → Begins (take i s)
begins_front s i j h b =
    record {
      rest = drop i (take j s) ++ b.rest;
      values = b.values;
      sheet = rw (← take-take i j s h, ← append_assoc (take i (take j s)) (drop i (take j s)) b.rest, take-append-drop i (take j s)) b.sheet;
    }

not_before : (s : List ℕ) (i j : ℕ) → StopsAt s i → StopsAt s j → i < j → ⊥
not_before s i j p q h = p.stops (omega (arith, q.within)) (begins_front s (suc i) j h q.begins)

-- ---- the promises

-- there is one such place
pub one_place : (s : List ℕ) (i j : ℕ) → StopsAt s i → StopsAt s j → i ≡ j
one_place s i j p q = ⊎_elim (λ h. absurd (not_before s i j p q h)) (λ h. ⊎_elim (λ g. absurd (not_before s j i q p g)) (λ g. le_antisymm g h) (below_or_beyond j i)) (below_or_beyond i j)

-- a text that is not too long is looked at
pub looked : (s : List ℕ) → length s ≤ 1024 → scan_of s ≡ begin s
unfolding scan_of
looked s h = rw (le-ltb 1024 (length s) h)

pub not_looked : (s : List ℕ) → 1024 < length s → scan_of s ≡ Err 1024
unfolding scan_of
not_looked s h = rw (lt-ltb 1024 (length s) h)
