-- What is promised of writing a table. The contract of write_table is two equations: it answers `write_answer`, and leaves `write_buffer` in the buffer (Writing).
use Rattle.std.specs.Prelude.{ℕ, ◌≤◌, ◌≡◌, refl, Bool, true, false, List, leb, length, take, drop, Result, Ok, Err}
use Rattle.std.proofs.Common.{sym, ap, ◌∙◌, arith, leb-true, length-append, length-drop, take_at, drop_at}
use Rattle.std.proofs.lemmas.Bool.{false≢true}
use Rattle.meaning.specs.Run as run
use Rattle.meaning.specs.Limits.{AcceptedTable}
use Rattle.words.specs.Over.{over}
use Rattle.answers.specs.declared.Kind.TheVariants.{Room}
use Rattle.answers.specs.declared.Refusal.{Refusal}
use Rattle.answers.specs.Results.{Outcome}
use Rattle.answers.specs.Chain.{unless, chain_accepts, unless_accepts}
use Rattle.plant.specs.declared.Plant.{Plant}
use Rattle.plant.specs.declared.Table.{Table}
use Rattle.plant.specs.Table.{plant_of, table_outcome}
use Rattle.plant.specs.Check.{accepted_exactly}
use Rattle.plant.specs.Read.{table_of, table_read, take_padded}
use Rattle.plant.specs.Written.{table_text}
use Rattle.plant.specs.Promises.{accepted_formed, accepted_read}
use Rattle.plant_writer.specs.declared.Length.{Length}
use Rattle.plant_writer.specs.Longest.{at_most_2477}
use Rattle.plant_writer.specs.Writing.{write_answer, write_buffer, write_outcome, told_by, left_by}

-- which of the two an answer is, and the bytes that it tells
abbrev is_text : Result Length Refusal → Bool
is_text (Ok l) = true
is_text (Err r) = false

abbrev bytes_in : Result Length Refusal → ℕ
bytes_in (Ok l) = l.bytes
bytes_in (Err r) = 0

-- a table that was read has these counts, and these parts where a caller lends them as its counts say
pub record SameTable (p : Plant) (fair label next : List ℕ) (t : Table) : Type 0 where
  pub plant : t.plant ≡ p
  pub fairs : take p.just t.fair ≡ fair
  pub labels : take p.states t.label ≡ label
  pub nexts : take p.states t.next ≡ next

-- ---- WHAT IS WRITTEN

module _ (p : Plant) (fair label next old : List ℕ) where
  abbrev pub table : run.Plant
  table = plant_of p fair label next

  abbrev after : List ℕ
  after = write_buffer p fair label next old

  -- a table that 01 accepts was handed in, and l tells how long its text is; it stands at the buffer's start, the bytes beyond are those that were there
  pub record IsWritten (l : Length) : Type 0 where
    pub fairs : length fair ≡ p.just
    pub accepted : AcceptedTable table
    pub long : l.bytes ≡ length (table_text table)
    pub most : l.bytes ≤ 2477
    pub text : take l.bytes after ≡ table_text table
    pub beyond : drop l.bytes after ≡ drop l.bytes old
    pub size : length after ≡ length old

  module _ (l : Length) (e : write_answer p fair label next old ≡ Ok l) where
    is_accepted_lem : write_outcome p fair label next old ≡ Ok tt
    is_accepted_lem = by_case (write_outcome p fair label next old) e
      where
        by_case : (o : Outcome) → told_by p fair label next old o ≡ Ok l → o ≡ Ok tt
        by_case (Ok _) e = refl
        by_case (Err r) e = absurd (false≢true (ap is_text e))

    pub written : IsWritten l
    written =
        let (t, r) = (chain_accepts (table_outcome p fair label next) (unless (leb (length (table_text table)) (length old)) Room)).0 is_accepted_lem in
        let (f, a) = (accepted_exactly p fair label next).0 t in
        let fits : length (table_text table) ≤ length old = leb-true _ _ ((unless_accepts (leb (length (table_text table)) (length old)) Room).0 r) in
        let long : l.bytes ≡ length (table_text table) = ap bytes_in (sym e ∙ ap (told_by p fair label next old) is_accepted_lem) in
        let is : after ≡ over (table_text table) old = ap (left_by p fair label next old) is_accepted_lem in
        record {
          fairs = f;
          accepted = a;
          long = long;
          most = omega (arith, long, at_most_2477 table (accepted_formed table a));
          text = ap (take l.bytes) is ∙ take_at (table_text table) (drop (length (table_text table)) old) l.bytes (sym long);
          beyond = ap (drop l.bytes) is ∙ drop_at (table_text table) (drop (length (table_text table)) old) l.bytes (sym long) ∙ ap (λ (n : ℕ). drop n old) (sym long);
          size = ap length is ∙ omega (arith, length-append (table_text table) (drop (length (table_text table)) old), length-drop (length (table_text table)) old);
        }

    -- WHAT WAS WRITTEN IS READ AS THE TABLE HANDED IN (02, b)

    -- it is accepted
    pub written_read : table_read (take l.bytes after) ≡ record { outcome = Ok tt; table = table_of table }
    written_read = ap table_read written.text ∙ accepted_read table written.accepted

    -- and the table read is the one handed in
    pub same_table : SameTable p fair label next (table_read (take l.bytes after)).table
    same_table = rw written_read
        (record {
          plant = ap (λ (n : ℕ). record { props = p.props; states = p.states; start = p.start; just = n }) written.fairs;
          fairs = take_padded 4 p.just fair written.fairs (few_fair written.fairs);
          labels = take_padded 64 p.states label written.accepted.labels written.accepted.few_states;
          nexts = take_padded 64 p.states next written.accepted.nexts written.accepted.few_states;
        })
      where
        few_fair : length fair ≡ p.just → p.just ≤ 4
        few_fair f = omega (arith, f, written.accepted.few_fair)

  -- a refusal leaves all bytes as they were
  pub refused_leaves : (r : Refusal) → write_answer p fair label next old ≡ Err r → after ≡ old
  refused_leaves r e = by_case (write_outcome p fair label next old) e
    where
      by_case : (o : Outcome) → told_by p fair label next old o ≡ Err r → left_by p fair label next old o ≡ old
      by_case (Ok _) e = absurd (false≢true (sym (ap is_text e)))
      by_case (Err q) e = refl

-- ---- A TEXT THAT IS ACCEPTED COMES BACK BYTE FOR BYTE, ITS DIGITS SMALL

-- the table of a text, its parts lent as its counts say, and written
abbrev pub back_answer : Table → List ℕ → Result Length Refusal
back_answer t old = write_answer t.plant (take t.plant.just t.fair) (take t.plant.states t.label) (take t.plant.states t.next) old

abbrev pub back_buffer : Table → List ℕ → List ℕ
back_buffer t old = write_buffer t.plant (take t.plant.just t.fair) (take t.plant.states t.label) (take t.plant.states t.next) old
