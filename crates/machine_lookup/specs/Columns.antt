-- The column of a legal event is where the columns have it.
use Rattle.std.specs.Prelude.{ℕ, zero, suc, ◌+◌, ◌*◌, ◌/◌, ◌%◌, ◌^◌, ◌≤◌, ◌<◌, Bool, ◌&&◌, ◌||◌, not, cond, ltb, leb}
use Rattle.std.proofs.Math.Path.{◌≡◌, refl}
use Rattle.std.proofs.Math.Bool.{true, false, So}
use native.Mathlib.Omega.{arith}
use Rattle.std.specs.Int.Bits.{bit_and}
use Rattle.std.proofs.lemmas.Nat.{and_le_r}
use Rattle.std.proofs.Math.Dec.{eqb}
use Rattle.std.proofs.Math.ListN.{get_or}
use borrow.Author.Tests.{ltb-true, eqb-true}
use Rattle.meaning.specs.Limits.{most_props}
use Rattle.words.specs.Word.{only_of}
use Rattle.words.specs.Below.{all_below}
use Rattle.words.specs.Folds.{all_at}
use Rattle.words.specs.Truth.{and_says}
use Rattle.event_log.specs.declared.Event.{Event}
use Rattle.event_log.specs.Legal.{legal_of}
use Rattle.columns.specs.Columns.{event, sees, vals, event_at, count_of}
use Rattle.machine_lookup.specs.Lookup.{twos, column_of}

-- the two columns are within, and see and give what the event does
abbrev right_two : ℕ → ℕ → ℕ → ℕ → Bool
right_two props see val q = ltb (q * 2 + 1) (count_of props) && (eqb (get_or sees q 0) see && eqb (get_or vals q 0) val)

unfoldable right_at : ℕ → ℕ → ℕ → Bool
right_at props see val = not (legal_of (event see val false) props) || right_two props see val (get_or twos (see * 8 + val) 0)

-- for each of the events that see and give less than 8, one after the other
all_right : (props : ℕ) → 1 ≤ props → props ≤ 3 → all_below 8 (λ see. all_below 8 (right_at props see)) ≡ true
unfolding all_below right_at legal_of count_of
all_right zero a b = absurd (omega arith)
all_right (suc zero) a b = refl
all_right (suc (suc zero)) a b = refl
all_right (suc (suc (suc zero))) a b = refl
all_right (suc (suc (suc (suc p)))) a b = absurd (omega arith)

-- a legal event sees and gives less than 8
pub legal_low : (e : Event) (props : ℕ) → props ≤ 3 → So (legal_of e props) → (e.see < 8) × (e.val < 8)
unfolding legal_of
legal_low e props few ok =
    let (_, rest) = (and_says (leb props most_props) (ltb e.see (2 ^ props) && eqb (bit_and e.val e.see) e.val)).0 ok in
    let (sees, gives) = (and_says (ltb e.see (2 ^ props)) (eqb (bit_and e.val e.see) e.val)).0 rest in
    let low : e.see < 2 ^ props = ltb-true e.see (2 ^ props) sees in
    let within : bit_and e.val e.see ≡ e.val = eqb-true (bit_and e.val e.see) e.val gives in
    (omega (arith, low, eight props few), omega (arith, low, eight props few, within, and_le_r e.val e.see))
  where
    eight : (p : ℕ) → p ≤ 3 → 2 ^ p ≤ 8
    eight zero l = omega arith
    eight (suc zero) l = omega arith
    eight (suc (suc zero)) l = omega arith
    eight (suc (suc (suc zero))) l = omega arith
    eight (suc (suc (suc (suc p)))) l = absurd (omega arith)

module _ (props : ℕ) (some : 1 ≤ props) (few : props ≤ 3) (e : Event) (ok : So (legal_of e props)) where
  abbrev q : ℕ
  q = get_or twos (e.see * 8 + e.val) 0

  right : So (right_two props e.see e.val q)
  unfolding right_at legal_of
  right =
      let (low, below) = legal_low e props few ok in
      given (legal_of e props) _ ok (all_at 8 (right_at props e.see) (all_at 8 (λ see. all_below 8 (right_at props see)) (all_right props some few) e.see low) e.val below)
    where
      given : (a b : Bool) → So a → So (not a || b) → So b
      given true b h s = s
      given false b h s = absurd (let z : ◌≡◌ {A = Bool} false true = h in let y : ◌≡◌ {A = ℕ} 0 1 = cc in omega arith)

  -- it is within
  pub column_low : column_of e.see e.val e.new < count_of props
  unfolding column_of
  column_low = let l = ltb-true (q * 2 + 1) (count_of props) ((and_says (ltb (q * 2 + 1) (count_of props)) (eqb (get_or sees q 0) e.see && eqb (get_or vals q 0) e.val)).0 right).0 in go e.new l
    where
      go : (b : Bool) → q * 2 + 1 < count_of props → q * 2 + only_of b 1 < count_of props
      go true l = l
      go false l = omega arith

  -- and there stands the event, but for its number
  pub column_event : event_at (column_of e.see e.val e.new) ≡ event e.see e.val e.new
  unfolding column_of event_at
  column_event =
      let (sees-it, gives-it) = (and_says (eqb (get_or sees q 0) e.see) (eqb (get_or vals q 0) e.val)).0 ((and_says (ltb (q * 2 + 1) (count_of props)) (eqb (get_or sees q 0) e.see && eqb (get_or vals q 0) e.val)).0 right).1 in
      go e.new (eqb-true (get_or sees q 0) e.see sees-it) (eqb-true (get_or vals q 0) e.val gives-it)
    where
      go : (b : Bool) → get_or sees q 0 ≡ e.see → get_or vals q 0 ≡ e.val
          → event (get_or sees ((q * 2 + only_of b 1) / 2) 0) (get_or vals ((q * 2 + only_of b 1) / 2) 0) (eqb ((q * 2 + only_of b 1) % 2) 1) ≡ event e.see e.val b
      go true s v =
          let half : (q * 2 + 1) / 2 ≡ q = omega arith in
          let rest : (q * 2 + 1) % 2 ≡ 1 = omega arith in
          rw (half, rest, s, v) refl
      go false s v =
          let half : (q * 2 + 0) / 2 ≡ q = omega arith in
          let rest : (q * 2 + 0) % 2 ≡ 0 = omega arith in
          rw (half, rest, s, v) refl

-- at least six columns
pub six_columns : (props : ℕ) → 6 ≤ count_of props
unfolding count_of
six_columns props = go (eqb props 1) (eqb props 2)
  where
    go : (a b : Bool) → 6 ≤ cond a 6 (cond b 18 54)
    go true b = omega arith
    go false true = omega arith
    go false false = omega arith
