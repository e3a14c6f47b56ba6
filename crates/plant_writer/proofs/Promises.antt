-- More of specs/Promises. What is promised of writing a table. The contract of write_table is two equations: it answers `write_answer`, and leaves `write_buffer` in the buffer (Writing).
use Rattle.std.specs.Prelude.{ℕ, ◌≤◌, ◌≡◌, List, map, length, take, Ok}
use Rattle.std.proofs.Common.{sym, ap, ◌∙◌, arith}
use Rattle.std.proofs.lemmas.List.{length-map}
use Rattle.words.specs.Over.{over}
use Rattle.text.specs.Place.{fills_small}
use Rattle.plant.specs.declared.Table.{Table}
use Rattle.plant.specs.Table.{plant_of}
use Rattle.plant.specs.Read.{table_read}
use Rattle.plant.specs.Written.{table_slots, table_text}
use Rattle.plant.specs.Promises.{accepted_text, lent_parts, lent_passes}
use Rattle.plant_writer.specs.Lower.{lower}
use Rattle.plant_writer.proofs.Lower.{table_lowered}
use Rattle.plant_writer.specs.Writing.{fitting}
use Rattle.plant_writer.specs.Promises.{back_answer, back_buffer, table}

-- a text that is accepted comes back byte for byte, its digits small
pub accepted_back :
    (s old : List ℕ) → (table_read s).outcome ≡ Ok tt → length s ≤ length old
    → (back_answer (table_read s).table old ≡ Ok (record { bytes = length s })) × (back_buffer (table_read s).table old ≡ over (map lower s) old)
accepted_back s old e room =
    let (t, a, f, r) = accepted_text s e in
    let x : Table = (table_read s).table in
    let whole : plant_of x.plant (take x.plant.just x.fair) (take x.plant.states x.label) (take x.plant.states x.next) ≡ t =
    ap (λ (y : Table). plant_of y.plant (take y.plant.just y.fair) (take y.plant.states y.label) (take y.plant.states y.next)) r ∙ lent_parts t a in
    let low : map lower s ≡ table_text t = table_lowered t s ((fills_small s (table_slots t)).1 f) in
    let long : length s ≡ length (table_text t) = sym (length-map s lower) ∙ ap length low in
    let its = ap table_text whole in
    let done = fitting x.plant (take x.plant.just x.fair) (take x.plant.states x.label) (take x.plant.states x.next) old (lent_passes s e)
    (omega (arith, ap length its, long, room)) (length s) (over (map lower s) old) (long ∙ sym (ap length its)) (ap (λ (l : List ℕ). over l old) (low ∙ sym its)) in
    (sym done.0, sym done.1)

-- a text whose digits are small is written back as it is
pub small_back : (s old : List ℕ) → (table_read s).outcome ≡ Ok tt → length s ≤ length old → map lower s ≡ s → back_buffer (table_read s).table old ≡ over s old
small_back s old e room same = (accepted_back s old e room).1 ∙ ap (λ (l : List ℕ). over l old) same
