-- WHAT IS PROMISED OF `make_machine`. What it answers and leaves is determined: `one_answer`. 15 exactly if more than 256 monitor states are reached: `fifteen_exactly`; the words end 0: `words_end_zero`.
-- Each row is reached, and no two answer alike: `rows_reached`, `rows_differ`; no machine that answers alike has fewer rows: `none_smaller`. That machine and stepping agree is in Agrees.
use Rattle.std.specs.Prelude.{ℕ, ◌+◌, ◌*◌, ◌≤◌, ◌<◌, ◌≡◌, ◌↔◌, Bool, true, false, List, leb, length, replicate, Result, Ok, Err}
use Rattle.std.proofs.Common.{sym, ap, subst, ◌∙◌, arith}
use Rattle.meaning.specs.Formula.{Formula}
use Rattle.meaning.specs.Run as run
use Rattle.model.specs.LiveSet.{live_set}
use Rattle.model.specs.Monitor as model
use Rattle.answers.specs.declared.Kind.TheVariants.{Rows}
use Rattle.answers.specs.Results.{Outcome}
use Rattle.answers.specs.Paper.{refused_at, kind_number}
use Rattle.plant.specs.declared.Plant.{Plant}
use Rattle.plant.specs.Table.{plant_of}
use Rattle.syntax.specs.declared.Rule.{Rule}
use Rattle.syntax.specs.Value.{formula_of}
use Rattle.columns.specs.Columns.{columns_of}
use Rattle.machines.specs.Machine.{Machine, run, Columns, Same, Reached, Proper, Equal}
use Rattle.machines.specs.Alike.{numbered_reached}
use Rattle.machines.specs.Bytes.{table_byte, bytes_equal}
use Rattle.machines.specs.Explored.{MoreThan}
use Rattle.machines.specs.Follow.{stepped}
use Rattle.machines.specs.Made as machines
use Rattle.machines.proofs.Made as machines_laws
use Rattle.joined.specs.Written.{written, written_same}
use Rattle.fixed_machine.specs.declared.Size.{Size}
use Rattle.answers.specs.declared.Refusal.{Refusal}
use Rattle.fixed_machine.specs.Worked.{LaidBy, Laid, over, made}
use Rattle.fixed_machine.specs.Machined.{step_at, shown_in, WorkedFor, MachinedAs, machine_outcome, Machined}
use Rattle.machine_promises.specs.Agrees.{MadeFor}

-- ---- the machine

module _ (T : run.Plant) (f : Formula) (m : Machine) (made_for : MadeFor T f m) where
  abbrev c : ℕ
  c = length (columns_of T.props)

  -- every row is reached
  pub rows_reached : (r : ℕ) → r < m.rows → Reached c m r
  rows_reached r l = numbered_reached made_for.canonical.numbered r l

  -- no two rows answer alike on all logs
  pub rows_differ : (r s : ℕ) → r < m.rows → s < m.rows → Same c m r s → r ≡ s
  rows_differ r s l h alike = made_for.canonical.distinct r s l h alike

  -- any machine that answers as stepping does has at least as many rows
  pub none_smaller : (n : Machine) → Proper c n → ((w : List ℕ) → Columns c w → n.output (run n 0 w) ≡ shown_in (stepped (step_at T f (live_set T f)) (model.opening T f (live_set T f)) w)) → m.rows ≤ n.rows
  none_smaller n proper agrees = machines.made_smallest made_for proper agrees

  -- and one of the same form is the same, row by row and cell by cell
  pub one_machine : (n : Machine) → MadeFor T f n → Equal c m n
  one_machine n other = machines_laws.made_unique made_for other

-- ---- the call

-- what was laid is determined by the machine
laid_one : (c : ℕ) (m n : Machine) (old new new' : List ℕ) (r r' : Result Size Refusal) → Equal c m n → Laid c m old new r → Laid c n old new' r' → (r ≡ r') × (new ≡ new')
laid_one c m n old new new' r r' equal a b = go (leb (m.rows * (c + 2)) (length old)) a (subst (λ (t : Bool). LaidBy t c n old new' r') (ap (λ (k : ℕ). leb (k * (c + 2)) (length old)) (sym equal.size)) b)
  where
    go : (t : Bool) → LaidBy t c m old new r → LaidBy t c n old new' r' → (r ≡ r') × (new ≡ new')
    go true (e, w) (e', w') = (
      e ∙ ap (λ (k : ℕ). Ok (record { rows = k; bytes = c + 2 })) equal.size ∙ sym e',
      w ∙ written_same (m.rows * (c + 2)) (table_byte c m) (table_byte c n) old (bytes_equal equal) ∙ ap (λ (k : ℕ). written (k * (c + 2)) (table_byte c n) old) equal.size ∙ sym w',
    )
    go false (e, w) (e', w') = (e ∙ sym e', w ∙ sym w')

worked_one : (T : run.Plant) (f : Formula) (old new new' : List ℕ) (r r' : Result Size Refusal) → WorkedFor T f old new r → WorkedFor T f old new' r' → (r ≡ r') × (new ≡ new')
worked_one T f old new new' r r' (over a e s) (over b e' s') = (e ∙ sym e', s ∙ sym s')
worked_one T f old new new' r r' (over a e s) (made n few m laid) = absurd (few a)
worked_one T f old new new' r r' (made n few m laid) (over b e s) = absurd (few b)
worked_one T f old new new' r r' (made n few m laid) (made n' few' m' laid') = laid_one (length (columns_of T.props)) n n' old new new' r r' (machines_laws.made_unique m m') laid laid'

module _ (p : Plant) (fair label next : List ℕ) (rule : Rule) (work old : List ℕ) where
  abbrev T : run.Plant
  T = plant_of p fair label next

  abbrev f : Formula
  f = formula_of rule

  -- TWO RESULTS THAT THE CALL ALLOWS ARE EQUAL: the answer, the words and the bytes
  pub one_answer : (left left' new new' : List ℕ) (r r' : Result Size Refusal) → Machined p fair label next rule work left old new r → Machined p fair label next rule work left' old new' r'
      → (r ≡ r') × (left ≡ left') × (new ≡ new')
  one_answer left left' new new' r r' = go (machine_outcome p fair label next rule (length work))
    where
      go : (o : Outcome) → MachinedAs T f o work left old new r → MachinedAs T f o work left' old new' r' → (r ≡ r') × (left ≡ left') × (new ≡ new')
      go (Err x) (e, l, n) (e', l', n') = (e ∙ sym e', l ∙ sym l', n ∙ sym n')
      go (Ok _) (z, w) (z', w') = let (e, n) = worked_one T f old new new' r r' w w' in (e, z ∙ sym z', n)

  module _ (left new : List ℕ) (r : Result Size Refusal) (ok : machine_outcome p fair label next rule (length work) ≡ Ok tt) (answered : Machined p fair label next rule work left old new r) where
    behind : (left ≡ replicate (length work) 0) × WorkedFor T f old new r
    behind = subst (λ (o : Outcome). MachinedAs T f o work left old new r) ok answered

    -- past the checks all words end 0, whatever is answered
    pub words_end_zero : left ≡ replicate (length work) 0
    words_end_zero = behind.0

    -- 15 EXACTLY where events lead to more than 256 states of the monitor
    pub fifteen_exactly : (r ≡ Err (refused_at Rows 0)) ↔ MoreThan (length (columns_of p.props)) (step_at T f (live_set T f)) (model.opening T f (live_set T f)) 256
    fifteen_exactly = go behind.1
      where
        kind : Result Size Refusal → ℕ
        kind (Ok s) = 0
        kind (Err x) = kind_number x.kind

        laid_kind : (t : Bool) (m : Machine) → LaidBy t (length (columns_of p.props)) m old new r → kind r ≡ 15 → ⊥
        laid_kind true m (e, _) h = omega (arith, sym (ap kind e) ∙ h)
        laid_kind false m (e, _) h = omega (arith, sym (ap kind e) ∙ h)

        go : WorkedFor T f old new r → (r ≡ Err (refused_at Rows 0)) ↔ MoreThan (length (columns_of p.props)) (step_at T f (live_set T f)) (model.opening T f (live_set T f)) 256
        go (over many e s) = (λ _. many, λ _. e)
        go (made m few m-made laid) = (λ e. absurd (laid_kind (leb (m.rows * (length (columns_of p.props) + 2)) (length old)) m laid (ap kind e)), λ many. absurd (few many))
