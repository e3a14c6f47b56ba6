-- A machine's rows in its bytes: what a row shows there, and where a look-up leads.
use Rattle.std.specs.Prelude.{ℕ, suc, ◌+◌, ◌*◌, ◌/◌, ◌%◌, ◌≤◌, ◌<◌, ◌≡◌, true, List, Ok}
use Rattle.std.proofs.Math.Path.{refl, sym, ap, ap₂}
use Rattle.std.proofs.Common.{◌∙◌, add-zero}
use Rattle.std.proofs.Math.Bool.{So}
use native.Mathlib.Omega.{arith}
use Rattle.std.proofs.Math.Nat.{mul-add-div_right, mul-add-mod_self_right, div-eq_of_lt, mod-eq_of_lt}
use borrow.Author.Tests.{lt-ltb, le-leb}
use Rattle.std.proofs.Math.ListN.{length, get_or}
use Rattle.event_log.specs.declared.Event.{Event}
use Rattle.event_log.specs.Legal.{legal_of}
use Rattle.columns.specs.Columns.{count_of}
use Rattle.machines.specs.Machine.{Machine, Proper}
use Rattle.machines.specs.Bytes.{row_byte, table_byte}
use Rattle.machines.specs.Grown.{place_inside}
use Rattle.machine_lookup.specs.Lookup.{holds_row, stand_at, looked_up, looked_there}
use Rattle.machine_lookup.specs.Columns.{column_low}
use Rattle.machine_promises.specs.Agrees.{column_for}

-- the bytes of a machine, and no more
pub record Bytes (c : ℕ) (m : Machine) (bytes : List ℕ) : Type 0 where
  pub long : length bytes ≡ m.rows * (c + 2)
  pub are : (k : ℕ) → k < m.rows * (c + 2) → get_or bytes k 0 ≡ table_byte c m k

module _ {c : ℕ} {m : Machine} {bytes : List ℕ} (in_bytes : Bytes c m bytes) where
  -- byte i of row r
  byte_of : (r i : ℕ) → r < m.rows → i < c + 2 → get_or bytes (r * (c + 2) + i) 0 ≡ row_byte m r i
  unfolding table_byte
  byte_of r i l h =
      let some : 0 < c + 2 = omega arith in
      let row : (r * (c + 2) + i) / (c + 2) ≡ r = mul-add-div_right some r i ∙ rw (div-eq_of_lt h) (add-zero r) in
      let column : (r * (c + 2) + i) % (c + 2) ≡ i = mul-add-mod_self_right r (c + 2) i ∙ mod-eq_of_lt h in
      in_bytes.are (r * (c + 2) + i) (place_inside (c + 2) r i m.rows l h) ∙ ap₂ (row_byte m) row column

  -- they are as many rows as the machine's
  rows_in : length bytes / (c + 2) ≡ m.rows
  rows_in = ap (λ (k : ℕ). k / (c + 2)) (in_bytes.long ∙ sym (add-zero (m.rows * (c + 2)))) ∙ mul-add-div_right {m = c + 2} (omega arith) m.rows 0 ∙ rw (div-eq_of_lt {n = 0} {m = c + 2} (omega arith)) (add-zero m.rows)

  -- a row shows what its two bytes say
  pub row_stands : (r v l : ℕ) → r < m.rows → m.output r ≡ v * 256 + l → v ≤ 3 → l ≤ 64 → stand_at bytes (c + 2) r ≡ Ok (record { row = r; verdict = v; left = l })
  unfolding stand_at row_byte
  row_stands r v l h e few low =
      let first : get_or bytes (r * (c + 2)) 0 ≡ v = ap (λ (k : ℕ). get_or bytes k 0) (sym (add-zero (r * (c + 2)))) ∙ byte_of r 0 h (omega arith) ∙ ap (λ (x : ℕ). x / 256 % 256) e ∙ omega arith in
      let second : get_or bytes (r * (c + 2) + 1) 0 ≡ l = byte_of r 1 h (omega arith) ∙ ap (λ (x : ℕ). x % 256) e ∙ omega arith in
      rw (rows_in, first, second, lt-ltb r m.rows h, le-leb v 3 few, le-leb l 64 low) refl

  -- a cell holds the row that follows
  cell_of : m.rows ≤ 256 → Proper c m → (r k : ℕ) → r < m.rows → k < c → m.next r k ≡ get_or bytes (r * (c + 2) + 2 + k) 0
  unfolding row_byte
  cell_of few proper r k l h =
      let place : r * (c + 2) + (suc (suc k)) ≡ r * (c + 2) + 2 + k = omega arith in
      sym (ap (λ (p : ℕ). get_or bytes p 0) (sym place) ∙ byte_of r (suc (suc k)) l (omega arith) ∙ mod-eq_of_lt {n = m.next r k} {m = 256} (omega (arith, proper.inside r k l h)))

  -- and a row of the machine is held
  pub row_held : m.rows ≤ 256 → (r : ℕ) → r < m.rows → holds_row (length bytes) (c + 2) r ≡ true
  unfolding holds_row
  row_held few r l =
      let whole : length bytes % (c + 2) ≡ 0 = ap (λ (k : ℕ). k % (c + 2)) (in_bytes.long ∙ sym (add-zero (m.rows * (c + 2)))) ∙ mul-add-mod_self_right m.rows (c + 2) 0 ∙ mod-eq_of_lt {n = 0} {m = c + 2} (omega arith) in
      rw (whole, rows_in, lt-ltb r m.rows l, le-leb m.rows 256 few) refl

  -- so a look-up leads where the machine does
  pub look_leads : (props : ℕ) → 1 ≤ props → props ≤ 3 → c ≡ count_of props → m.rows ≤ 256 → Proper c m → (r : ℕ) → r < m.rows → (e : Event) → So (legal_of e props)
      → looked_up bytes props r e ≡ stand_at bytes (c + 2) (m.next r (column_for e))
  look_leads props some three count few proper r l e ok =
      let low : column_for e < c = rw count (column_low props some three e ok) in
      sym (looked_there bytes props r e some three {width = c + 2} (ap (λ (k : ℕ). k + 2) count) (row_held few r l) {k = column_for e} {x = m.next r (column_for e)} ok refl (cell_of few proper r (column_for e) l low) refl)
