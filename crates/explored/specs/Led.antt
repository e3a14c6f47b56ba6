-- The monitor after the event of a place, by where the first column of its row led.
use Rattle.std.specs.Prelude.{ℕ, ◌+◌, ◌-◌, ◌*◌, ◌/◌, ◌%◌, ◌≤◌, ◌<◌, ◌≡◌, true, List, get_or, drop}
use Rattle.std.proofs.Math.Path.{sym, ap₂}
use Rattle.std.proofs.Common.{ap, ◌∙◌, arith, div-add-mod', mod-eq_of_lt, add-zero, get_or-drop}
use Rattle.std.proofs.Math.Nat.{mod-le, mul-add-mod_self_right, mul-add-div_right, div-eq_of_lt}
use Rattle.event_log.specs.declared.Event.{Event}
use Rattle.ways.specs.declared.Ways.{Ways}
use Rattle.sides.specs.declared.Monitor.{Monitor}
use Rattle.sides.specs.Sides.{advanced_by, advanced_in}
use Rattle.narrowed.specs.Narrowed.{narrowed_in, narrowed_is, advanced_whole}
use Rattle.columns.specs.Columns.{event_at}
use Rattle.explored.specs.Blocks.{block_at}
use Rattle.explored.specs.States.{monitor_from, monitor_in, block_after, Found, block_back}

-- where the first column of a place's row has its cell
abbrev pub first_cell : ℕ → ℕ → ℕ
first_cell c place = 33280 + (place - place % c)

-- at a place of another column that cell holds a row, and the row stands for where the first column led
pub record Led (label next leave enter holds : List ℕ) (count : ℕ) (live : List ℕ) (c : ℕ) (room : List ℕ) (place : ℕ) : Type 0 where
  pub low : 0 < place % c → get_or room (first_cell c place) 0 < 256
  pub state : 0 < place % c → monitor_in (block_at 130 room (get_or room (first_cell c place) 0)) ≡ advanced_by label next leave enter holds count live (monitor_in (block_at 130 room (place / c))) (event_at 0)

-- a place and the first of its row
module _ (place c : ℕ) (some : 1 ≤ c) where
  rows_before : place - place % c ≡ place / c * c + 0
  rows_before = omega (arith, div-add-mod' place c)

  first_column : (place - place % c) % c ≡ 0
  first_column = rw rows_before (mul-add-mod_self_right (place / c) c 0 ∙ mod-eq_of_lt {n = 0} {m = c} some)

  same_row : (place - place % c) / c ≡ place / c
  same_row = rw rows_before (mul-add-div_right {m = c} some (place / c) 0 ∙ rw (div-eq_of_lt {n = 0} {m = c} some) (add-zero (place / c)))

-- a state that an event led to is read back from its words
step_back : (label next : List ℕ) (w : Ways) (live block : List ℕ) (k : ℕ) → monitor_in (block_after label next w live block k) ≡ advanced_in label next w live (monitor_in block) (event_at k)
unfolding block_after monitor_from
step_back label next w live block k =
    let ((keeps, breaks), expected) = advanced_whole label next w.leave w.enter w.holds w.count live (monitor_in block) (event_at k) in
    block_back (advanced_in label next w live (monitor_in block) (event_at k)) expected keeps breaks

module _ {label next : List ℕ} {w : Ways} {live opening : List ℕ} {c : ℕ} {room : List ℕ} {places rows : ℕ} (found : Found label next w live opening c room places rows) where
  -- so it is while states are found
  pub led_found : 1 ≤ c → rows ≤ 256 → Led label next w.leave w.enter w.holds w.count live c room places
  led_found some few = record {
    low = λ later. rw (← cell) (omega (arith, found.exploring.grown.lower (places - places % c) (earlier later)));
    state = λ later. ap monitor_in (ap (block_at 130 room) (sym cell) ∙ found.exploring.moves (places - places % c) (earlier later)) ∙ back later;
  }
    where
      cell : get_or (drop 33280 room) (places - places % c) 0 ≡ get_or room (first_cell c places) 0
      cell = get_or-drop 33280 room (places - places % c) 0

      -- the first column's place is earlier
      earlier : 0 < places % c → places - places % c < places
      earlier later = omega (arith, mod-le places c)

      back : 0 < places % c → monitor_in (block_after label next w live (block_at 130 room ((places - places % c) / c)) ((places - places % c) % c)) ≡ advanced_by label next w.leave w.enter w.holds w.count live (monitor_in (block_at 130 room (places / c))) (event_at 0)
      back later =
          ap₂ (λ (r k : ℕ). monitor_in (block_after label next w live (block_at 130 room r) k)) (same_row places c some) (first_column places c some)
          ∙ step_back label next w live (block_at 130 room (places / c)) 0

-- ---- for code

module _ (label next leave enter holds : List ℕ) (count : ℕ) (live : List ℕ) (c : ℕ) (room : List ℕ) (place : ℕ) where
  pub led_narrowed : count ≤ 64 → Led label next leave enter holds count live c room place → {from wide r : Monitor} {e : Event} → from ≡ monitor_in (block_at 130 room (place / c)) → e ≡ event_at (place % c)
      → from.seen ≡ true → 0 < place % c → wide ≡ monitor_in (block_at 130 room (get_or room (first_cell c place) 0)) → r ≡ narrowed_in label holds live wide e
      → r ≡ advanced_by label next leave enter holds count live (monitor_in (block_at 130 room (place / c))) (event_at (place % c))
  unfolding event_at
  led_narrowed most led {from} {wide} {r} {e} f g seen later h is =
      is ∙ ap₂ (λ (x : Monitor) (y : Event). narrowed_in label holds live x y) (h ∙ led.state later) g
      ∙ sym (narrowed_is label next leave enter holds count most live (monitor_in (block_at 130 room (place / c))) (ap (λ (m : Monitor). m.seen) (sym f) ∙ seen) (event_at (place % c)))

  pub led_moved : {from r : Monitor} {e : Event} → from ≡ monitor_in (block_at 130 room (place / c)) → e ≡ event_at (place % c) → r ≡ advanced_by label next leave enter holds count live from e
      → r ≡ advanced_by label next leave enter holds count live (monitor_in (block_at 130 room (place / c))) (event_at (place % c))
  led_moved f g is = rw (← f, ← g) is
