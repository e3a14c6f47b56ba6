-- `shape_of`: for one, two and three propositions, and any other number.
use Rattle.std.proofs.Common.{refl, ◌∙◌, arith}
use Rattle.columns.specs.Columns.{count_of}
use Rattle.machine_lookup.specs.Shape.{rows_8, rows_20, rows_56, shape_right, shape_none}
use Rattle.std.proofs.lemmas.Grind.{common_steps}
use Rattle.machine_lookup.proofs.shape_of.Goals as goal

pub returns-in-1 : goal.returns-in-1
unfolding count_of
returns-in-1 c =
    let key = c.in-1.is in
    shape_right _ _ (omega (arith, key)) (omega (arith, key)) (rw (key) refl) (c.rows_in.ensures ∙ rows_8 _)

pub returns-in-2 : goal.returns-in-2
unfolding count_of
returns-in-2 c =
    let key = c.in-2.is in
    shape_right _ _ (omega (arith, key)) (omega (arith, key)) (rw (key) refl) (c.rows_in-in-2.ensures ∙ rows_20 _)

pub returns-in-3 : goal.returns-in-3
unfolding count_of
returns-in-3 c =
    let key = c.in-3.is in
    shape_right _ _ (omega (arith, key)) (omega (arith, key)) (rw (key) refl) (c.rows_in-in-3.ensures ∙ rows_56 _)

pub returns-in_default : goal.returns-in_default
returns-in_default c = grind (arith, common_steps, shape_none)
