-- WHAT TWO TEXTS GIVE AS A FIXED MACHINE: the machine of what was read, and where a text is refused everything lent stays.
use Rattle.std.specs.Prelude.{ℕ, ◌≡◌, refl, List, Result, Ok, Err}
use Rattle.std.proofs.Common.{sym, ap, subst, ◌∙◌}
use Rattle.answers.specs.declared.Refusal.{Refusal}
use Rattle.answers.specs.Results.{Outcome}
use Rattle.plant.specs.declared.Table.{Table}
use Rattle.syntax.specs.declared.Rule.{Rule}
use Rattle.opened.specs.declared.Opened.{Opened}
use Rattle.opened.specs.Opened.{fair_in, label_in, next_in, opened_of}
use Rattle.opened.specs.Lent.{Lent}
use Rattle.opened.proofs.Fits.{opened_lent}
use Rattle.fixed_machine.specs.declared.Size.{Size}
use Rattle.fixed_machine.specs.Machined.{Machined}

-- what the maker of machines answers and leaves, for a table that was read
abbrev pub MadeOf : Table → Rule → List ℕ → List ℕ → List ℕ → List ℕ → Result Size Refusal → Type 0
MadeOf t rule work left old new x = Machined t.plant (fair_in t) (label_in t) (next_in t) rule work left old new x

-- where a text is refused everything stays
abbrev pub MadeBy : Outcome → Opened → List ℕ → List ℕ → List ℕ → List ℕ → Result Size Refusal → Type 0
MadeBy (Err e) o work left old new x = (x ≡ Err e) × (left ≡ work) × (new ≡ old)
MadeBy (Ok _) o work left old new x = MadeOf o.table o.rule work left old new x

abbrev pub MadeFrom : Opened → List ℕ → List ℕ → List ℕ → List ℕ → Result Size Refusal → Type 0
MadeFrom o work left old new x = MadeBy o.outcome o work left old new x

-- ---- for code

-- the parts of a table that was read can be lent
pub read_lent : (table rule : List ℕ) {o : Opened} → o ≡ opened_of table rule → Lent o.table
read_lent table rule {o} is = subst (λ (x : Opened). Lent x.table) (sym is) (opened_lent table rule)

module _ {o : Opened} where
  pub made_refused : (x : Opened) (work old : List ℕ) {e : Refusal} → o ≡ x → o.outcome ≡ Err e → MadeFrom x work work old old (Err e)
  made_refused x work old {e} is bad =
      subst (λ (k : Outcome). MadeBy k x work work old old (Err e)) (sym (sym (ap (λ (y : Opened). y.outcome) is) ∙ bad)) (refl, refl, refl)

  pub made_read : (x : Opened) (work left old new : List ℕ) (r : Result Size Refusal) → o ≡ x → o.outcome ≡ Ok tt → MadeOf o.table o.rule work left old new r → MadeFrom x work left old new r
  made_read x work left old new r is good made =
      subst (λ (k : Outcome). MadeBy k x work left old new r) (sym (sym (ap (λ (y : Opened). y.outcome) is) ∙ good)) (subst (λ (y : Opened). MadeOf y.table y.rule work left old new r) is made)
