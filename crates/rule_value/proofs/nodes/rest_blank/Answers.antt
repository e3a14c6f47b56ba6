-- `nodes::rest_blank` meets its contract. Assumes nothing.
use Rattle.std.proofs.Common.{rules, ◌-◌, ◌∙◌, ap, length, take, drop}
use Rattle.meaning.specs.Step.{every}
use Rattle.rule_value.specs.Valid.{is_false}
use Rattle.rule_value.proofs.Turns.{every_by_all, other_nodes}
use Rattle.rule_value.proofs.nodes.rest_blank.Goals as goal

pub returns : goal.returns
returns c =
    let ns = c.args.rule.nodes in
    every_by_all is_false (take (length ns - c.stored.result) (drop c.stored.result ns)) _ (search rules) ∙ ap (every is_false) (other_nodes c.args.rule (search rules) _ c.stored.ensures)
