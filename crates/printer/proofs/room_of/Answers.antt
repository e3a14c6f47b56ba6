-- `printer::room_of` meets its contract. The loop's invariant: what is counted and what the nodes ahead bring are what all bring. Assumes nothing.
use Rattle.std.proofs.Common.{rules, ℕ, ◌≡◌, ◌+◌, ◌∙◌, ap, arith, take, drop, length}
use Rattle.syntax.specs.Value.{op_at, ops_of}
use Rattle.syntax.proofs.Held.{ops_turn, ops_end, held_start}
use Rattle.printer.specs.Tell.{share, shares}
use Rattle.printer.proofs.Printing.{share_few}
use Rattle.printer.proofs.room_of.Goals as goal

pub loop-node-preserved : goal.loop-node-preserved
unfolding shares
loop-node-preserved c =
    let l = c.loop-node in
    let ns = take c.stored.result c.args.rule.nodes in
    let turn : shares (ops_of (drop l.node-index ns)) ≡ share (op_at ns l.node-index) + shares (ops_of (drop (l.node-index + 1) ns)) = ap shares (ops_turn ns l.node-index c.loop-node-test.true) in
    (omega (arith, l.invariant.0, c.share_of-total.ensures, share_few (op_at ns l.node-index)), omega (arith, l.invariant.1, c.share_of-total.ensures, turn))

pub returns : goal.returns
unfolding shares
returns c =
    let l = c.loop-node in
    let ns = take c.stored.result c.args.rule.nodes in
    let none : shares (ops_of (drop l.node-index ns)) ≡ 0 = ap shares (ops_end ns l.node-index c.loop-node-test.false) in
    let all : l.total ≡ shares (ops_of ns) = omega (arith, l.invariant.1, none) in
    all ∙ ap (λ (k : ℕ). shares (ops_of (take k c.args.rule.nodes))) c.stored.ensures ∙ ap shares (held_start c.args.rule (search rules))
