-- LOOK-UPS AND STEPPING AGREE: the events of an accepted log, looked up one after another in the bytes that `make_machine` wrote, show what the monitor shows
-- (`look_ups_agree`, in proofs/LookUps). What must be believed of look-ups is `looked_through` and `lost_put_in`, with machine_lookup/specs/Lookup.
use Prim.Native.Nat.{ℕ, ◌+◌, ◌*◌, ◌≤◌, ◌<◌}
use Rattle.std.specs.Prelude.{◌≡◌, Bool, true, false, leb, length, get_or, take, replicate, Result, Ok, Err}
use Rattle.std.proofs.Math.Path.{refl, ap}
use Rattle.std.proofs.Common.{sym, subst, ◌∙◌, arith, leb-true, get_or-take, length-take-le}
use Rattle.std.proofs.Math.Bool.{So}
use mathlib.Core.List.{List, [], ◌∷◌, ◌++◌, map, foldl}
use Rattle.std.proofs.Math.Decide.{dec_lt}
use Rattle.meaning.specs.Formula.{Formula}
use Rattle.meaning.specs.Run as run
use Rattle.model.specs.LiveSet.{live_set}
use Rattle.model.specs.Monitor as model
use Rattle.answers.specs.declared.Verdict.{Verdict}
use Rattle.answers.specs.declared.Verdict.TheVariants.{Inconclusive, True, False, OutOfModel}
use Rattle.answers.specs.declared.Lamp.{Lamp}
use Rattle.answers.specs.Results.{Answer}
use Rattle.answers.specs.Results.{Outcome}
use Rattle.answers.specs.Paper as paper
use Rattle.answers.specs.Chain.{refused_none}
use Rattle.plant.specs.declared.Plant.{Plant}
use Rattle.plant.specs.Table.{plant_of}
use Rattle.syntax.specs.declared.Rule.{Rule}
use Rattle.syntax.specs.Value.{formula_of}
use Rattle.event_log.specs.declared.Event.{Event}
use Rattle.event_log.specs.Legal.{legal_of, event_of}
use Rattle.event_log.specs.Log.{nothing}
use Rattle.checks.specs.Input.{Input}
use Rattle.sides.specs.Held.{lamp_in}
use Rattle.event_numbers.specs.Numbers.{number_of, missing_of}
use Rattle.monitor.specs.declared.Watched.{Watched}
use Rattle.watching.specs.Filled.{filled}
use Rattle.watching.specs.Watching.{after, AllTaken}
use Rattle.watching.proofs.Watching.{after_model}
use Rattle.columns.specs.Columns.{columns_of, count_of}
use Rattle.columns.proofs.Columns.{columns_count}
use Rattle.machines.specs.Machine.{Machine, run, Columns}
use Rattle.machines.specs.Alike.{run_inside, numbered_reached}
use Rattle.machines.specs.Bytes.{table_byte}
use Rattle.machines.specs.Explored.{MoreThan}
use Rattle.machines.specs.Follow.{stepped}
use Rattle.joined.specs.Written.{written_at, written_length}
use Rattle.explored.specs.States.{few_left}
use Rattle.answers.specs.declared.Refusal.{Refusal}
use Rattle.fixed_machine.specs.declared.Size.{Size}
use Rattle.fixed_machine.specs.Worked.{LaidBy, over, made}
use Rattle.fixed_machine.specs.Machined.{step_at, shown_in, MachinedAs, machine_outcome, Machined, outcome_many}
use Rattle.machine_lookup.specs.declared.Stand.{Stand}
use Rattle.machine_lookup.specs.Lookup.{stand_at, looked_up}
use Rattle.machine_lookup.specs.Columns.{column_low}
use Rattle.machine_promises.specs.Agrees.{column_for, WithoutGaps, AllLegal, MadeFor, taken_legal, columns_in, leads_there}
use Rattle.machine_promises.specs.FewRows.{rows_few}
use Rattle.machine_promises.specs.InBytes.{Bytes, row_stands, look_leads}

-- ---- what is believed

-- a look-up from the row where the last one led; a refusal stays
unfoldable pub look_on : List ℕ → ℕ → Result Stand Refusal → Event → Result Stand Refusal
look_on bytes props (Ok s) e = looked_up bytes props s.row e
look_on bytes props (Err x) e = Err x

-- events looked up one after another, from row 0 on
abbrev pub looked_through : List ℕ → ℕ → List Event → Result Stand Refusal
looked_through bytes props es = foldl (look_on bytes props) (stand_at bytes (count_of props + 2) 0) es

-- a log, with an event that sees nothing put in for each number that is missing
abbrev pub put_in_from : Bool → ℕ → List Event → List Event
put_in_from seen expected [] = []
put_in_from seen expected (e ∷ es) = replicate (missing_of seen expected (number_of e.num expected)) nothing ++ e ∷ put_in_from true (number_of e.num expected + 1) es

abbrev pub lost_put_in : List Event → List Event
lost_put_in es = put_in_from false 0 es

-- the bytes of the rows, of a buffer in which they were written
abbrev pub bytes_of : Size → List ℕ → List ℕ
bytes_of size buffer = take (size.rows * size.bytes) buffer

-- a look-up is not refused, and shows the verdict's number and `left` of the lamp that a call shows
pub record ShowsAs (shown : Answer) (looked : Result Stand Refusal) : Type 0 where
  pub lamp : Lamp
  pub row : ℕ
  pub shows : shown ≡ Ok lamp
  pub finds : looked ≡ Ok (record { row = row; verdict = paper.number_of lamp.verdict; left = lamp.left })

-- ---- events looked up one after another

-- a verdict's number is at most 3
verdict_low : (v : Verdict) → paper.number_of v ≤ 3
verdict_low Inconclusive = omega arith
verdict_low True = omega arith
verdict_low False = omega arith
verdict_low OutOfModel = omega arith

module _ (p : Plant) (fair label next : List ℕ) (rule : Rule) (given : Input p fair label next rule) where
  abbrev T : run.Plant
  T = plant_of p fair label next

  abbrev f : Formula
  f = formula_of rule

  abbrev c : ℕ
  c = length (columns_of p.props)

  -- a machine of this monitor, and its bytes
  pub record Stands (m : Machine) (bytes : List ℕ) : Type 0 where
    pub three : p.props ≤ 3
    pub of : MadeFor T f m
    pub few : m.rows ≤ 256
    pub in_bytes : Bytes c m bytes

  module _ {m : Machine} {bytes : List ℕ} (stands : Stands m bytes) where
    -- after a word its row shows what the monitor shows
    word_shows : (w : List ℕ) → Columns c w → (s : model.Monitor) → stepped (step_at T f (live_set T f)) (model.opening T f (live_set T f)) w ≡ s
        → stand_at bytes (c + 2) (run m 0 w) ≡ Ok (record { row = run m 0 w; verdict = paper.number_of (lamp_in s).verdict; left = (lamp_in s).left })
    word_shows w h s e =
        row_stands stands.in_bytes (run m 0 w) (paper.number_of (lamp_in s).verdict) (lamp_in s).left
        (run_inside stands.of.canonical.proper h 0 stands.of.canonical.proper.opening) (stands.of.agrees w h ∙ ap shown_in e) (verdict_low (lamp_in s).verdict) (few_left s)

    -- so every row shows a lamp
    row_shows : (r : ℕ) → r < m.rows → (v : ℕ) × (l : ℕ) × (stand_at bytes (c + 2) r ≡ Ok (record { row = r; verdict = v; left = l }))
    row_shows r l =
        let (w, h, e) = numbered_reached stands.of.canonical.numbered r l in
        subst (λ (r : ℕ). (v : ℕ) × (l : ℕ) × (stand_at bytes (c + 2) r ≡ Ok (record { row = r; verdict = v; left = l }))) e (_, _, word_shows w h _ refl)

    -- a look-up leads where the column leads the machine
    module _ (r : ℕ) (l : r < m.rows) (e : Event) (ok : So (legal_of e p.props)) where
      count : c ≡ count_of p.props
      count = columns_count p.props given.table.some_props stands.three

      leads : looked_up bytes p.props r e ≡ stand_at bytes (c + 2) (m.next r (column_for e))
      leads = look_leads stands.in_bytes p.props given.table.some_props stands.three count stands.few stands.of.canonical.proper r l e ok

      -- which is a row
      inside : m.next r (column_for e) < m.rows
      inside = stands.of.canonical.proper.inside r (column_for e) l (rw count (column_low p.props given.table.some_props stands.three e ok))

      row_found : (s : Stand) × (looked_up bytes p.props r e ≡ Ok s)
      row_found = let (v, x, h) = row_shows (m.next r (column_for e)) inside in (_, leads ∙ h)

    -- and so look-ups one after another
    walk : (gs : List Event) → AllLegal p.props gs → (r : ℕ) → r < m.rows
        → foldl (look_on bytes p.props) (stand_at bytes (c + 2) r) gs ≡ stand_at bytes (c + 2) (run m r (map column_for gs))
    unfolding run look_on
    walk [] ok r l = refl
    walk (g ∷ gs) (ok, rest) r l =
        let (v, x, e) = row_shows r l in
        ap (λ (s : Result Stand Refusal). foldl (look_on bytes p.props) (look_on bytes p.props s g) gs) e
        ∙ ap (λ (s : Result Stand Refusal). foldl (look_on bytes p.props) s gs) (leads r l g ok)
        ∙ walk gs rest (m.next r (column_for g)) (inside r l g ok)

    -- looked up are events that stand for what an accepted log brings
    pub looks_as : (es gs : List Event) → AllTaken p fair label next rule es → AllLegal p.props gs → map event_of gs ≡ filled es
        → ShowsAs (after p fair label next rule es).answer (looked_through bytes p.props gs)
    unfolding model.run_of
    looks_as es gs taken ok brought = record {
      lamp = lamp_in (model.run_of T f (live_set T f) (filled es));
      row = run m 0 (map column_for gs);
      shows = ap (λ (w : Watched). w.answer) (after_model p fair label next rule given es taken);
      finds =
          ap (λ (k : ℕ). foldl (look_on bytes p.props) (stand_at bytes (k + 2) 0) gs) (sym (columns_count p.props given.table.some_props stands.three))
          ∙ walk gs ok 0 stands.of.canonical.proper.opening
          ∙ word_shows (map column_for gs) (columns_in p fair label next rule given stands.three gs ok) (model.run_of T f (live_set T f) (filled es))
          (leads_there p fair label next rule given stands.three gs ok (model.opening T f (live_set T f)) ∙ ap (foldl (model.step_of T f (live_set T f)) (model.opening T f (live_set T f))) brought);
    }

  -- ---- in what the call wrote

  -- where it answers with rows, the bytes are those of the machine
  abbrev size_of : Result Size Refusal → Size
  size_of (Ok s) = s
  size_of (Err x) = record { rows = 0; bytes = 0 }

  abbrev is_rows : Result Size Refusal → ℕ
  is_rows (Ok s) = 1
  is_rows (Err x) = 0

  module _ (work left old new : List ℕ) (size : Size) (answered : Machined p fair label next rule work left old new (Ok size)) where
    -- WHAT THE CALL WROTE is a machine of this monitor, byte for byte, with as many rows as it answers
    pub wrote : (m : Machine) × Stands m (bytes_of size new) × (m.rows ≡ size.rows)
    wrote = by (machine_outcome p fair label next rule (length work)) refl answered
      where
        laid : (three : p.props ≤ 3) (m : Machine) → (MoreThan c (step_at T f (live_set T f)) (model.opening T f (live_set T f)) 256 → ⊥) → MadeFor T f m
            → (t : Bool) → leb (m.rows * (c + 2)) (length old) ≡ t → LaidBy t c m old new (Ok size) → Stands m (bytes_of size new) × (m.rows ≡ size.rows)
        laid three m few of false g (e, n) = absurd (omega (arith, ap is_rows e))
        laid three m few of true g (e, n) =
            let k = m.rows * (c + 2) in
            let fits : k ≤ length old = leb-true k (length old) g in
            let long : length new ≡ length old = ap length n ∙ written_length k (table_byte c m) old in (
              subst (λ (s : Size). Stands m (bytes_of s new)) (sym (ap size_of e)) (record {
                three = three;
                of = of;
                few = rows_few of 256 few;
                in_bytes = record {
                  long = length-take-le k new (omega arith);
                  are = λ q l. get_or-take k new q 0 l ∙ ap (λ (b : List ℕ). get_or b q 0) n ∙ written_at k (table_byte c m) old q l fits;
                };
              }),
              sym (ap (λ (x : Result Size Refusal). (size_of x).rows) e),
            )

        by : (o : Outcome) → machine_outcome p fair label next rule (length work) ≡ o → MachinedAs T f o work left old new (Ok size) → (m : Machine) × Stands m (bytes_of size new) × (m.rows ≡ size.rows)
        by (Err x) g (e, _, _) = absurd (omega (arith, ap is_rows e))
        by (Ok _) g (_, over many e s) = absurd (omega (arith, ap is_rows e))
        by (Ok _) g (_, made m few of is-laid) =
            let (stands, rows) = laid three m few of (leb (m.rows * (c + 2)) (length old)) refl is-laid in
            (m, stands, rows)
          where
            three : p.props ≤ 3
            three = elim (dec_lt 3 p.props) [ yes l ↦ refused_none (sym (outcome_many p fair label next rule (length work) l) ∙ g) | no d ↦ omega arith ]

    -- A LOOK-UP IS NEVER REFUSED there, from any row and with any legal event
    pub never_refused : (r : ℕ) → r < size.rows → (e : Event) → So (legal_of e p.props) → (s : Stand) × (looked_up (bytes_of size new) p.props r e ≡ Ok s)
    never_refused r l e ok = let (m, stands, rows) = wrote in row_found stands r (rw rows l) e ok

    -- where none is lost, the events are looked up as they are
    pub look_ups_plain : (es : List Event) → AllTaken p fair label next rule es → WithoutGaps es → ShowsAs (after p fair label next rule es).answer (looked_through (bytes_of size new) p.props es)
    look_ups_plain es taken gapless = let (m, stands, _) = wrote in looks_as stands es es taken (taken_legal p fair label next rule given stands.three es false 0 taken) (sym gapless)
