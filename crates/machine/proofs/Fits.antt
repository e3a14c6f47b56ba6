-- What `make_machine` made stands in the bytes that it was lent, in rows of at most 56.
use Rattle.std.specs.Prelude.{Result, Ok, Err}
use Prim.Native.Nat.{ℕ, zero, suc, ◌+◌, ◌*◌, ◌≤◌}
use mathlib.Core.Path.{◌≡◌, refl, sym, ap, ◌∙◌}
use mathlib.Core.Bool.{Bool, true, false}
use mathlib.Core.List.{List}
use native.Mathlib.Omega.{arith}
use borrow.Author.Tests.{leb-true}
use lib.Dec.{leb}
use lib.ListN.{length}
use Rattle.answers.specs.declared.Kind.TheVariants.{Counts, Room}
use Rattle.answers.specs.Results.{Outcome}
use Rattle.answers.specs.Chain.{and_then, unless, chain_accepts, unless_accepts}
use Rattle.plant.specs.declared.Plant.{Plant}
use Rattle.plant.specs.Table.{plant_of}
use Rattle.syntax.specs.declared.Rule.{Rule}
use Rattle.syntax.specs.Value.{formula_of}
use Rattle.event_log.specs.Legal.{legal_of}
use Rattle.checks.specs.Checks.{input_outcome}
use Rattle.columns.specs.Columns.{columns_of, few_columns}
use Rattle.columns.proofs.Columns.{columns_count}
use Rattle.machines.specs.Machine.{Machine}
use Rattle.answers.specs.declared.Refusal.{Refusal}
use Rattle.fixed_machine.specs.declared.Size.{Size}
use Rattle.fixed_machine.specs.Worked.{LaidBy, over, made}
use Rattle.fixed_machine.specs.Machined.{WorkedFor, MachinedAs, machine_outcome, Machined}

-- what stands in an answer: nothing in a refusal
abbrev rows_in : Result Size Refusal → ℕ
rows_in (Ok s) = s.rows
rows_in (Err x) = 0

abbrev bytes_in : Result Size Refusal → ℕ
bytes_in (Ok s) = s.bytes
bytes_in (Err x) = 0

abbrev is_made : Result Size Refusal → ℕ
is_made (Ok s) = 1
is_made (Err x) = 0

-- three propositions have at most 54 columns
few_in : (props : ℕ) → props ≤ 3 → length (columns_of props) ≤ 54
unfolding columns_of legal_of
few_in zero few = let two : length (columns_of 0) ≡ 2 = refl in omega (arith, two)
few_in (suc n) few = omega (arith, columns_count (suc n) (omega arith) few, few_columns (suc n))

module _ (p : Plant) (fair label next : List ℕ) (rule : Rule) (work left old new : List ℕ) (r : Result Size Refusal) (s : Size) (is : r ≡ Ok s) where
  abbrev c : ℕ
  c = length (columns_of p.props)

  abbrev Fits : Type 0
  Fits = (s.rows * s.bytes ≤ length old) × (2 ≤ s.bytes) × (s.bytes ≤ 56)

  none : {A : Type 0} → is_made r ≡ 0 → A
  none e = absurd (omega (arith, sym (ap is_made is) ∙ e))

  laid_fits : p.props ≤ 3 → (m : Machine) (t : Bool) → leb (m.rows * (c + 2)) (length old) ≡ t → LaidBy t c m old new r → Fits
  laid_fits few m true fits (e, w) =
      let rows : s.rows ≡ m.rows = ap rows_in (sym is ∙ e) in
      let bytes : s.bytes ≡ c + 2 = ap bytes_in (sym is ∙ e) in
      (rw (rows, bytes) (leb-true _ _ fits), omega (arith, bytes), omega (arith, bytes, few_in p.props few))
  laid_fits few m false fits (e, w) = none (ap is_made e)

  worked_fits : p.props ≤ 3 → WorkedFor (plant_of p fair label next) (formula_of rule) old new r → Fits
  worked_fits few (over many e same) = none (ap is_made e)
  worked_fits few (made m most is_made laid) = laid_fits few m (leb (m.rows * (c + 2)) (length old)) refl laid

  accepted_few : machine_outcome p fair label next rule (length work) ≡ Ok tt → p.props ≤ 3
  unfolding machine_outcome
  accepted_few e =
      leb-true p.props 3 ((unless_accepts (leb p.props 3) Counts).0
      ((chain_accepts (unless (leb p.props 3) Counts) (and_then (input_outcome p fair label next rule) (unless (leb 49152 (length work)) Room))).0 e).0)

  pub made_fits : Machined p fair label next rule work left old new r → Fits
  made_fits = go (machine_outcome p fair label next rule (length work)) accepted_few
    where
      go : (o : Outcome) → (o ≡ Ok tt → p.props ≤ 3) → MachinedAs (plant_of p fair label next) (formula_of rule) o work left old new r → Fits
      go (Err x) few (e, _, _) = none (ap is_made e)
      go (Ok _) few (_, w) = worked_fits (few refl) w

  -- also in what is there after it, which is as long
  pub made_within : length new ≡ length old → Machined p fair label next rule work left old new r → (s.rows * s.bytes ≤ length new) × (2 ≤ s.bytes) × (s.bytes ≤ 56)
  made_within e m = let fits = made_fits m in (rw e fits.0, fits.1, fits.2)
