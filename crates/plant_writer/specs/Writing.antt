-- What writing a table answers, and what it leaves in the buffer.
use Rattle.std.specs.Prelude.{ℕ, ◌≤◌, ◌<◌, ◌≡◌, List, leb, length, Result, Ok, Err}
use Rattle.std.proofs.Common.{sym, ap, ◌∙◌, arith, le-leb}
use Rattle.std.proofs.lemmas.Bool.{lt-leb}
use Rattle.words.specs.Over.{over}
use Rattle.answers.specs.declared.Kind.TheVariants.{Room}
use Rattle.answers.specs.declared.Refusal.{Refusal}
use Rattle.answers.specs.Results.{Outcome}
use Rattle.answers.specs.Paper.{refused_at}
use Rattle.answers.specs.Chain.{and_then, unless}
use Rattle.plant.specs.declared.Plant.{Plant}
use Rattle.plant.specs.Table.{plant_of, table_outcome}
use Rattle.plant.specs.Check.{accepted_exactly}
use Rattle.plant.specs.Written.{table_text}
use Rattle.plant.specs.Promises.{accepted_formed}
use Rattle.plant_writer.specs.Longest.{at_most_2477}
use Rattle.plant_writer.specs.Pieces.{Writable}
use Rattle.plant_writer.specs.declared.Length.{Length}

-- an accepted table can be written where there is room for the longest text
pub writable : (p : Plant) (fair label next : List ℕ) → table_outcome p fair label next ≡ Ok tt → (room : ℕ) → room ≡ 2477 → Writable p fair label next room
writable p fair label next e room is =
    let (f, a) = (accepted_exactly p fair label next).0 e in
    record {
      props = omega (arith, a.few_props);
      states = omega (arith, a.few_states);
      fairs = omega (arith, a.few_fair);
      labels = a.labels;
      nexts = a.nexts;
      fits = omega (arith, is, at_most_2477 (plant_of p fair label next) (accepted_formed (plant_of p fair label next) a));
    }

module _ (p : Plant) (fair label next old : List ℕ) where
  -- the text of the table that is handed in
  abbrev pub its_text : List ℕ
  its_text = table_text (plant_of p fair label next)

  -- 1 and 2 for the table, and then 11 for a buffer shorter than its text
  abbrev pub write_outcome : Outcome
  write_outcome = and_then (table_outcome p fair label next) (unless (leb (length its_text) (length old)) Room)

  -- the refusal, or how many bytes the text has
  abbrev pub told_by : Outcome → Result Length Refusal
  told_by (Ok _) = Ok (record { bytes = length its_text })
  told_by (Err r) = Err r

  abbrev pub write_answer : Result Length Refusal
  write_answer = told_by write_outcome

  -- the text over the buffer's start where it is written, and else the buffer as it was
  abbrev pub left_by : Outcome → List ℕ
  left_by (Ok _) = over its_text old
  left_by (Err r) = old

  abbrev pub write_buffer : List ℕ
  write_buffer = left_by write_outcome

  -- ---- its three cases

  by_outcome : (o : Outcome) → write_outcome ≡ o → (told_by o ≡ write_answer) × (left_by o ≡ write_buffer)
  by_outcome o e = (ap told_by (sym e), ap left_by (sym e))

  pub no_table : (r : Refusal) → table_outcome p fair label next ≡ Err r → (Err r ≡ write_answer) × (old ≡ write_buffer)
  no_table r e = by_outcome (Err r) (ap (λ (o : Outcome). and_then o (unless (leb (length its_text) (length old)) Room)) e)

  module _ (e : table_outcome p fair label next ≡ Ok tt) where
    pub no_room : length old < length its_text → (r : Refusal) → r ≡ refused_at Room 0 → (Err r ≡ write_answer) × (old ≡ write_buffer)
    no_room h r is =
        let o : write_outcome ≡ Err r = ap (λ (o : Outcome). and_then o (unless (leb (length its_text) (length old)) Room)) e
        ∙ ap (λ b. unless b Room) (lt-leb (length its_text) (length old) h) ∙ ap Err (sym is) in
        by_outcome (Err r) o

    pub fitting : length its_text ≤ length old → (n : ℕ) (now : List ℕ) → n ≡ length its_text → now ≡ over its_text old
        → (Ok (record { bytes = n }) ≡ write_answer) × (now ≡ write_buffer)
    fitting h n now long laid =
        let o : write_outcome ≡ (Ok tt) = ap (λ (o : Outcome). and_then o (unless (leb (length its_text) (length old)) Room)) e
        ∙ ap (λ b. unless b Room) (le-leb (length its_text) (length old) h) in
        let r = by_outcome (Ok tt) o in
        (ap (λ (k : ℕ). Ok (record { bytes = k })) long ∙ r.0, laid ∙ r.1)
