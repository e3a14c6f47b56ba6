-- The proof of the cycle of calls {put_tree}. The measure is the number of nodes left. What each branch tells, a law of `Trees` says.
-- Assumes nothing.
use Rattle.std.proofs.Common.{ℕ, ◌-◌, ◌≡◌, sym, ◌∙◌, arith, length}
use Rattle.syntax.specs.Postfix.{sides}
use Rattle.printer.specs.Tell.{parens}
use Rattle.printer.proofs.Trees.{node_at, many, Last, told_none, told_leaf, told_one, told_two, room_leaf, room_inner, room_word, room_close, room_right, room_sign, room_left, room_lead}
use Rattle.printer.proofs.+put_tree.Goals as goal
use Rattle.printer.proofs.+put_tree.Goals.{After-sides_of-sides, Else-sides-eq1}

last : (t : ℕ) (c : goal.After-sides_of-sides t) → let a = c.args in Last a.rule.nodes a.node a.end (length a.buffer.now)
last t c = record { some = c.if-node-eq0.false; room = c.requires }

not_none : (t : ℕ) (c : goal.Else-sides-eq1 t) → let a = c.args in sides (node_at a.rule.nodes (a.node - 1)) ≡ 0 → ⊥
not_none t c e = c.if-sides-eq0.false (c.sides_of-sides.ensures ∙ e)

not_one : (t : ℕ) (c : goal.Else-sides-eq1 t) → let a = c.args in sides (node_at a.rule.nodes (a.node - 1)) ≡ 1 → ⊥
not_one t c e = c.if-sides-eq1.false (c.sides_of-sides.ensures ∙ e)

two : (t : ℕ) (c : goal.Else-sides-eq1 t) → let a = c.args in parens (sides (node_at a.rule.nodes (a.node - 1))) ≡ 2
two t c = many _ (not_none t c) (not_one t c)

pub returns-then-node-eq0 : goal.returns-then-node-eq0
returns-then-node-eq0 t c = told_none _ _ _ _ c.if-node-eq0.true c.requires.fits

pub put_word-at-requires : goal.put_word-at-requires
put_word-at-requires t c = room_leaf (last t (goal.at.put_word-at-requires t c).After-sides_of-sides)

pub returns-then-sides-eq0 : goal.returns-then-sides-eq0
returns-then-sides-eq0 t c = told_leaf (last t (goal.at.returns-then-sides-eq0 t c).After-sides_of-sides) (sym c.sides_of-sides.ensures ∙ c.if-sides-eq0.true) c.put_word-at.ensures

pub put_tree-inner-requires : goal.put_tree-inner-requires
put_tree-inner-requires t c = (omega arith, room_inner (last t (goal.at.put_tree-inner-requires t c).After-sides_of-sides))

pub put_word-at-requires-then-sides-eq1 : goal.put_word-at-requires-then-sides-eq1
put_word-at-requires-then-sides-eq1 t c = room_word (last t (goal.at.put_word-at-requires-then-sides-eq1 t c).After-sides_of-sides) c.put_tree-inner.ensures

pub returns-then-sides-eq1 : goal.returns-then-sides-eq1
returns-then-sides-eq1 t c = told_one (last t (goal.at.returns-then-sides-eq1 t c).After-sides_of-sides) (sym c.sides_of-sides.ensures ∙ c.if-sides-eq1.true) c.put_tree-inner.ensures c.put_word-at-then-sides-eq1.ensures

pub overflow_sub-close : goal.overflow_sub-close
overflow_sub-close t c = (room_close (last t (goal.at.overflow_sub-close t c).After-sides_of-sides) (two t c)).0

pub put_byte-requires : goal.put_byte-requires
put_byte-requires t c = (room_close (last t (goal.at.put_byte-requires t c).After-sides_of-sides) (two t (goal.at.put_byte-requires t c).Else-sides-eq1)).1

pub put_tree-right-requires : goal.put_tree-right-requires
put_tree-right-requires t c =
    (omega arith, room_right (last t (goal.at.put_tree-right-requires t c).After-sides_of-sides) (two t (goal.at.put_tree-right-requires t c).Else-sides-eq1) c.put_byte.ensures)

pub put_word-mid-requires : goal.put_word-mid-requires
put_word-mid-requires t c =
    room_sign (last t (goal.at.put_word-mid-requires t c).After-sides_of-sides) (two t (goal.at.put_word-mid-requires t c).Else-sides-eq1) c.put_byte.ensures c.put_tree-right.ensures

pub put_tree-left-requires : goal.put_tree-left-requires
put_tree-left-requires t c =
    let right = c.put_tree-right.ensures in
    (omega (arith, right.down), room_left (last t (goal.at.put_tree-left-requires t c).After-sides_of-sides) (two t (goal.at.put_tree-left-requires t c).Else-sides-eq1) c.put_byte.ensures right c.put_word-mid.ensures)

pub overflow_sub-open : goal.overflow_sub-open
overflow_sub-open t c =
    (room_lead (last t (goal.at.overflow_sub-open t c).After-sides_of-sides) (two t (goal.at.overflow_sub-open t c).Else-sides-eq1) c.put_byte.ensures c.put_tree-right.ensures c.put_word-mid.ensures c.put_tree-left.ensures).0

pub returns : goal.returns
returns t c =
    let all = last t (goal.at.returns t c).After-sides_of-sides in
    let pair = two t (goal.at.returns t c).Else-sides-eq1 in
    let closes = (room_close all pair).0 in
    let opens = (room_lead all pair c.put_byte.ensures c.put_tree-right.ensures c.put_word-mid.ensures c.put_tree-left.ensures).0 in
    told_two all (not_none t (goal.at.returns t c).Else-sides-eq1) (not_one t (goal.at.returns t c).Else-sides-eq1) c.put_byte.ensures (omega arith)
    c.put_tree-right.ensures c.put_word-mid.ensures
    c.put_tree-left.ensures c.put_byte-2.ensures (omega arith)
