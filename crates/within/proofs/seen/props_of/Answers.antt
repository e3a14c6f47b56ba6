-- `seen::props_of`: the fold over the nodes is their union.
use Rattle.std.proofs.Common.{rules, ◌≡◌, ◌∙◌, ◌≤◌, ℕ, fold, take, length, bit_or, arith}
use Rattle.std.proofs.lemmas.Grind.{common_steps}
use Rattle.std.proofs.iter.Rest.{running}
use Rattle.syntax.specs.declared.Node.{Node}
use Rattle.within.specs.Props.{prop_set}
use Rattle.within.proofs.Folded.{props_by_fold}
use Rattle.within.proofs.seen.props_of.Goals as goal

pub returns : goal.returns
returns c =
    let folded : c.fold.result ≡ fold (λ (x : ℕ) (o : Node). bit_or x (prop_set o.op)) 0 (take c.args.rule.len c.args.rule.nodes) = grind (arith, common_steps, running) in
    let long : c.args.rule.len ≤ length c.args.rule.nodes = search rules in
    folded ∙ props_by_fold c.args.rule long
