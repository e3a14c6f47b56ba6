-- `fill`: the places passed are filled; each turn stores the state in its row and the row in its cell, in one list.
use Rattle.std.proofs.Common.{ℕ, ◌+◌, ◌≡◌, ◌∙◌, arith, le_antisymm, eqb, eq-eqb, ne_eqb, add-zero, length-set}
use Rattle.words.specs.Word.{only_of}
use Rattle.machines.specs.Grown.{rows_fit, end_turn, end_fit}
use Rattle.explored.specs.Blocks.{stored_length}
use Rattle.explored.specs.States.{many, few, step_is}
use Rattle.explored.specs.Led.{led_found}
use Rattle.explored.specs.Turn.{found_turn, found_full}
use Rattle.explored.proofs.fill.Goals.{then-row-rows, else-row-rows}
use Rattle.explored.proofs.fill.Goals as goal

pub next_at-made-requires : goal.next_at-made-requires
next_at-made-requires c =
    let inv = c.loop-place.invariant in
    let pre = c.requires in
    (pre.0, pre.1, pre.2, omega (arith, c.loop-place-test.true, inv.2), led_found inv.4 pre.1 inv.0)

pub returns-then-row-eq256 : goal.returns-then-row-eq256
returns-then-row-eq256 c =
    let inv = c.loop-place.invariant in
    many (found_full inv.4 (rw inv.1 at c.loop-place-test.true) inv.0 c.find-row.ensures.0
    (step_is _ _ _ _ _ _ c.next_at-made.ensures c.block_of-state.ensures) c.if-row-eq256.true)

-- a row that was not found is a new one
grown : (row rows : ℕ) {n : ℕ} (m x : ℕ) → row ≡ rows → n ≡ m + x → n ≡ m + only_of (eqb row rows) x
grown row rows m x new e = rw (eq-eqb row rows new) e

still : (row rows : ℕ) {n : ℕ} (m x : ℕ) → (row ≡ rows → ⊥) → n ≡ m → n ≡ m + only_of (eqb row rows) x
still row rows m x old e = rw (ne_eqb row rows old, add-zero) e

pub loop-place-preserved : goal.loop-place-preserved
loop-place-preserved c =
    let inv = c.loop-place.invariant in
    let pre = c.requires in
    let row = c.find-row.result in
    let rows = c.loop-place.rows in
    let more : c.if-row-rows.rows ≡ rows + only_of (eqb row rows) 1 =
    elim c.if-row-rows.branch [ then-row-rows w ↦ grown row rows rows 1 w.if-row-rows.true w.rows-is | else-row-rows w ↦ still row rows rows 1 w.if-row-rows.false w.rows-is ] in
    let later : c.if-row-rows.end ≡ c.loop-place.end + only_of (eqb row rows) c.args.c =
    elim c.if-row-rows.branch [ then-row-rows w ↦ grown row rows c.loop-place.end c.args.c w.if-row-rows.true w.end-is | else-row-rows w ↦ still row rows c.loop-place.end c.args.c w.if-row-rows.false w.end-is ] in
    let turn = end_turn (eqb row rows) _ _ _ inv.1 in
    let fit = rows_fit _ _ 256 inv.0 c.if-row-eq256.false in (
      rw more fit,
      rw (later, more) turn,
      rw later (end_fit _ _ 256 _ turn fit),
      simp length-set (rw c.store.ensures (stored_length 130 _ _ 130 _ ∙ inv.3)),
      rw (c.store.ensures, more)
          (found_turn inv.4 (rw inv.1 at c.loop-place-test.true) inv.0 c.find-row.ensures.0
          (step_is _ _ _ _ _ _ c.next_at-made.ensures c.block_of-state.ensures) (omega (arith, pre, inv, c.loop-place-test.true)) (omega (arith, inv, c.find-row.ensures, c.if-row-eq256.false))),
    )

pub returns : goal.returns
returns c =
    let inv = c.loop-place.invariant in
    few inv.0 (rw (le_antisymm inv.4.exploring.behind (rw inv.1 at c.loop-place-test.false)) at inv.4)
