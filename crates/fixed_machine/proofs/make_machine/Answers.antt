-- `make_machine`: the checks in their order, and then the work.
use Rattle.std.proofs.Common.{refl, ap, ◌∙◌, rules}
use Rattle.live.specs.declared.Prepared.{Prepared}
use Rattle.checks.specs.Input.{input_accepted}
use Rattle.checks.proofs.Given.{ready}
use Rattle.watching.specs.Watching.{live_words}
use Rattle.fixed_machine.specs.Machined.{outcome_many, outcome_input, outcome_room, outcome_good, outcome_prepared, machined_refused, machined_made}
use Rattle.fixed_machine.proofs.make_machine.Goals as goal

pub returns-then-plant-gt-PROPS : goal.returns-then-plant-gt-PROPS
returns-then-plant-gt-PROPS c =
    let a = c.args in
    machined_refused a.plant a.fair.now a.label.now a.next.now a.rule a.work.now a.machine.now
    (outcome_many a.plant a.fair.now a.label.now a.next.now a.rule _ c.if-plant-gt-PROPS.true) c.at.ensures

pub returns-then-work-lt-WORDS : goal.returns-then-work-lt-WORDS
returns-then-work-lt-WORDS c =
    let a = c.args in
    machined_refused a.plant a.fair.now a.label.now a.next.now a.rule a.work.now a.machine.now
    (outcome_room a.plant a.fair.now a.label.now a.next.now a.rule _ c.if-plant-gt-PROPS.false
    (outcome_prepared a.plant a.fair.now a.label.now a.next.now a.rule c.prepare-prepared.ensures c.in_ok-prepared.was) c.if-work-lt-WORDS.true) c.at-then-work-lt-WORDS.ensures

pub work_on-requires : goal.work_on-requires
work_on-requires c =
    let a = c.args in
    let ok = outcome_prepared a.plant a.fair.now a.label.now a.next.now a.rule c.prepare-prepared.ensures c.in_ok-prepared.was in
    (ready ((input_accepted a.plant a.fair.now a.label.now a.next.now a.rule (search rules)).0 ok), c.if-work-lt-WORDS.false)

pub returns-in_err-prepared : goal.returns-in_err-prepared
returns-in_err-prepared c =
    let a = c.args in
    let refused =
    machined_refused a.plant a.fair.now a.label.now a.next.now a.rule a.work.now a.machine.now
    (outcome_input a.plant a.fair.now a.label.now a.next.now a.rule _ c.if-plant-gt-PROPS.false
    (outcome_prepared a.plant a.fair.now a.label.now a.next.now a.rule c.prepare-prepared.ensures c.in_err-prepared.was)) refl in
    search rules

pub returns : goal.returns
returns c =
    let a = c.args in
    let ok = outcome_prepared a.plant a.fair.now a.label.now a.next.now a.rule c.prepare-prepared.ensures c.in_ok-prepared.was in
    let given = (input_accepted a.plant a.fair.now a.label.now a.next.now a.rule (search rules)).0 ok in
    machined_made a.plant a.fair.now a.label.now a.next.now a.rule given c.if-plant-gt-PROPS.false a.work.now
    (outcome_good a.plant a.fair.now a.label.now a.next.now a.rule _ c.if-plant-gt-PROPS.false ok c.if-work-lt-WORDS.false)
    (ap (λ (r : Prepared). r.live.words) c.prepare-prepared.ensures ∙ live_words a.plant a.fair.now a.label.now a.next.now a.rule given)
    c.work_on.ensures.made c.work_on.ensures.words
