-- `with_parts`: the rule, and then the log. Assumes nothing.
use Rattle.rule_text.specs.declared.RuleRead.{RuleRead}
use Rattle.transcript.specs.Said.{log_text, rule_text, file_of}
use Rattle.transcript.proofs.Cases.{refused_said, accepted_said}
use Rattle.transcript.proofs.with_parts.Goals as goal

pub returns-in-Err : goal.returns-in-Err
unfolding rule_text
returns-in-Err c =
    let a = c.args in
    refused_said (λ (r : RuleRead). r.outcome) (λ (r : RuleRead). log_text a.plant a.fair.now a.label.now a.next.now r.rule (file_of a.logged a.log.now))
    c.read_rule-read.ensures c.in-Err.is c.put_refused.ensures

pub returns : goal.returns
unfolding rule_text
returns c =
    let a = c.args in
    accepted_said (λ (r : RuleRead). r.outcome) (λ (r : RuleRead). log_text a.plant a.fair.now a.label.now a.next.now r.rule (file_of a.logged a.log.now))
    c.read_rule-read.ensures c.in_default.is c.with_rule.ensures
