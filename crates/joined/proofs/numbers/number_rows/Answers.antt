-- `numbers::number_rows`: the rows passed have the numbers of their classes, and the first rows among them are counted.
use Rattle.std.proofs.Common.{zero-le, refl, ◌∙◌, arith, eqb, get_or, ℕ, List, ◌<◌, ◌≤◌, ◌≡◌, cond, eq-eqb, ne_eqb, Bool, true, false, rules}
use Rattle.words.specs.Below.{count_below}
use Rattle.joined.specs.Written.{written, written_none, written_turn, written_rest}
use Rattle.machines.specs.First.{only_le}
use Rattle.joined.specs.Ranks.{Leading, count_turn, rank_turn}
use Rattle.joined.specs.Table.{rank_in}
use Rattle.joined.proofs.numbers.number_rows.Goals.{then-own, else-own}
use mir.Val.{bool_byte}
use Rattle.words.specs.Word.{only_of}
use Rattle.joined.proofs.numbers.number_rows.Goals as goal

-- a flag as a number
flag : (b : Bool) → bool_byte b ≡ only_of b 1
flag true = refl
flag false = refl

pub loop-r-init : goal.loop-r-init
unfolding count_below
loop-r-init c = (written_none _ _, refl, zero-le)

-- the first row of a class is a row passed, or this one
low : {n r : ℕ} (old : List ℕ) {class : List ℕ} → Leading n old → r < n → class ≡ written r (rank_in old) old → get_or class r 0 ≤ r
low {r} old leading l e = rw (e, written_rest r (rank_in old) old r (omega arith)) (leading r l).0

pub bounds-class-first : goal.bounds-class-first
bounds-class-first c =
    let inv = c.loop-r.invariant in
    omega (arith, low c.args.class.now c.requires.2 c.loop-r-test.true inv.0, c.loop-r.auto.class, c.requires.1, c.loop-r-test.true)

pub offset_bounds-class-first : goal.offset_bounds-class-first
offset_bounds-class-first c = record { fits = omega (arith, low c.args.class.now c.requires.2 c.loop-r-test.true c.loop-r.invariant.0, c.requires.0, c.loop-r-test.true) }

pub loop-r-preserved : goal.loop-r-preserved
loop-r-preserved c =
    let inv = c.loop-r.invariant in
    let class = c.loop-r.class in
    let r = c.loop-r.r in
    let old = c.args.class.now in
    let made : c.if-own.class ≡ cond (eqb (get_or class r 0) r) c.loop-r.count (get_or class (get_or class r 0) 0) =
    elim c.if-own.branch [
      | then-own w ↦ let t = w.if-own.true in w.class-is ∙ rw (eq-eqb (get_or class r 0) r (search rules)) refl
      | else-own w ↦ let t = w.if-own.false in w.class-is ∙ rw (ne_eqb (get_or class r 0) r (search rules)) refl
    ] in
    let step : bool_byte (eqb (get_or class r 0) r) ≡ only_of (eqb (get_or class r 0) r) 1 = flag (eqb (get_or class r 0) r) in (
      written_turn _ _ _ _ _ inv.0 (made ∙ rank_turn _ _ old _ _ c.requires.2 c.loop-r-test.true c.requires.1 inv.0 inv.1),
      rw (c.from.ensures, step) (count_turn _ _ old _ _ inv.0 inv.1),
      omega (arith, c.from.ensures, step, inv.2, only_le (eqb (get_or class r 0) r) 1),
    )
