-- Tables written and read again, on the calls: the table comes back, and so does the text. Said of the contracts themselves, as the kit reads them (see OneAnswer).
use Rattle.std.specs.Prelude.{ℕ, ◌≤◌, ◌≡◌, List, map, length, take, Ok}
use Rattle.std.proofs.Common.{sym, ap, subst, ◌∙◌}
use Rattle.words.specs.Over.{over}
use Rattle.plant.specs.declared.Plant.{Plant}
use Rattle.plant.specs.declared.Table.{Table}
use Rattle.plant.specs.declared.TableRead.{TableRead}
use Rattle.plant.specs.Read.{table_read}
use Rattle.plant_writer.specs.declared.Length.{Length}
use Rattle.plant_writer.specs.Writing.{write_answer, write_buffer}
use Rattle.plant_writer.specs.Lower.{lower}
use Rattle.plant_writer.specs.Promises.{SameTable, written_read, same_table}
use Rattle.plant_writer.proofs.Promises.{accepted_back}
use Rattle.plant.proofs.read_table.Reads as read_table
use Rattle.plant_writer.proofs.write_table.Reads as write_table

-- what write_table wrote is accepted by read_table, and gives the table that was handed in
pub table_comes_back :
    (κs : _) (x : _) (r : _) (u : _) → write_table.Learnt κs x r u → (l : Length) → r ≡ Ok l
    → (κs' : _) (x' : _) (r' : _) (u' : _) → read_table.Learnt κs' x' r' u' → x'.0.now ≡ take l.bytes u.1.1.1.1.0.now
    → (r'.outcome ≡ Ok tt) × SameTable x.0 x.1.0.now x.1.1.0.now x.1.1.1.0.now r'.table
table_comes_back κs x r u e l is κs' x' r' u' e' text =
    let answer = sym e.0 ∙ is in
    let read : r' ≡ table_read (take l.bytes (write_buffer x.0 x.1.0.now x.1.1.0.now x.1.1.1.0.now x.1.1.1.1.0.now)) = e' ∙ ap table_read (text ∙ ap (take l.bytes) e.1) in (
      ap (λ (t : TableRead). t.outcome) (read ∙ written_read x.0 x.1.0.now x.1.1.0.now x.1.1.1.0.now x.1.1.1.1.0.now l answer),
      subst (λ (t : TableRead). SameTable x.0 x.1.0.now x.1.1.0.now x.1.1.1.0.now t.table) (sym read)
          (same_table x.0 x.1.0.now x.1.1.0.now x.1.1.1.0.now x.1.1.1.1.0.now l answer),
    )

-- the table of a text that read_table accepted, its parts lent as its counts say, is written by write_table as that text, its digits small; the bytes beyond stay
pub text_comes_back :
    (κs : _) (x : _) (r : _) (u : _) → read_table.Learnt κs x r u → r.outcome ≡ Ok tt
    → (κs' : _) (x' : _) (r' : _) (u' : _) → write_table.Learnt κs' x' r' u'
    → x'.0 ≡ r.table.plant → x'.1.0.now ≡ take r.table.plant.just r.table.fair → x'.1.1.0.now ≡ take r.table.plant.states r.table.label
    → x'.1.1.1.0.now ≡ take r.table.plant.states r.table.next → length x.0.now ≤ length x'.1.1.1.1.0.now
    → (r' ≡ Ok (record { bytes = length x.0.now })) × (u'.1.1.1.1.0.now ≡ over (map lower x.0.now) x'.1.1.1.1.0.now)
text_comes_back κs x r u e accepted κs' x' r' u' e' plant fair label next room =
    let s : List ℕ = x.0.now in
    let old : List ℕ = x'.1.1.1.1.0.now in
    let t : Table = (table_read s).table in
    let same : r.table ≡ t = ap (λ (y : TableRead). y.table) e in
    let back = accepted_back s old (sym (ap (λ (y : TableRead). y.outcome) e) ∙ accepted) room in (
      e'.0 ∙ parts (λ p f l n. write_answer p f l n old) same plant fair label next ∙ back.0,
      e'.1 ∙ parts (λ p f l n. write_buffer p f l n old) same plant fair label next ∙ back.1,
    )
  where
    parts :
        {A : Type 0} (w : Plant → List ℕ → List ℕ → List ℕ → A) {y t : Table} {p : Plant} {f l n : List ℕ} → y ≡ t → p ≡ y.plant → f ≡ take y.plant.just y.fair
        → l ≡ take y.plant.states y.label → n ≡ take y.plant.states y.next
        → w p f l n ≡ w t.plant (take t.plant.just t.fair) (take t.plant.states t.label) (take t.plant.states t.next)
    parts w {y} {t} {p} {f} {l} {n} same a b c d = rw (a, b, c, d) (ap (λ (z : Table). w z.plant (take z.plant.just z.fair) (take z.plant.states z.label) (take z.plant.states z.next)) same)
