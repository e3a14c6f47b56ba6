-- `nodes::is_whole` meets its contract. The loop's invariant: the answer for the nodes from here on, on the rules so far, is the answer. Assumes nothing.
use Rattle.std.proofs.Common.{rules, arith, ◌∙◌, ap, take}
use Rattle.syntax.specs.Postfix.{whole}
use Rattle.syntax.proofs.Held.{ops_turn, ops_end}
use Rattle.rule_value.proofs.Turns.{held_nodes, whole_on, whole_stops, whole_ends}
use Rattle.rule_value.proofs.nodes.is_whole.Goals as goal

pub returns-then-depth-sides : goal.returns-then-depth-sides
returns-then-depth-sides c =
    let l = c.loop-node in
    whole_stops l.depth l.invariant.1 (ops_turn (take c.stored.result c.args.rule.nodes) l.node-index c.loop-node-test.true) (omega (arith, c.if-depth-sides.true, c.sides_of-sides.ensures))
    ∙ ap (λ os. whole os 0) (held_nodes c.args.rule (search rules) _ c.stored.ensures)

pub loop-node-preserved : goal.loop-node-preserved
loop-node-preserved c =
    let l = c.loop-node in (
      omega (arith, l.invariant.0, c.if-depth-sides.false),
      whole_on l.depth l.invariant.1 (ops_turn (take c.stored.result c.args.rule.nodes) l.node-index c.loop-node-test.true) _ c.sides_of-sides.ensures c.if-depth-sides.false,
    )

pub returns : goal.returns
returns c =
    let l = c.loop-node in
    whole_ends l.depth l.invariant.1 (ops_end (take c.stored.result c.args.rule.nodes) l.node-index c.loop-node-test.false)
    ∙ ap (λ os. whole os 0) (held_nodes c.args.rule (search rules) _ c.stored.ensures)
