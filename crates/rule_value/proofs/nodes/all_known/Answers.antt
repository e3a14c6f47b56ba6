-- `nodes::all_known` meets its contract. Assumes nothing.
use Rattle.std.proofs.Common.{rules, ◌∙◌, ap, take}
use Rattle.meaning.specs.Step.{every}
use Rattle.rule_value.specs.Valid.{known}
use Rattle.rule_value.proofs.Turns.{every_by_all, held_nodes}
use Rattle.rule_value.proofs.nodes.all_known.Goals as goal

pub returns : goal.returns
returns c =
    every_by_all (known c.args.props) (take c.stored.result c.args.rule.nodes) _ (search rules) ∙ ap (every (known c.args.props)) (held_nodes c.args.rule (search rules) _ c.stored.ensures)
