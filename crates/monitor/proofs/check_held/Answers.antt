-- `check_held`: the check of table and rule, and then the test of both sets. Assumes nothing.
use Rattle.std.proofs.Common.{refl, ◌∙◌, rules, arith}
use Rattle.answers.specs.declared.Kind.TheVariants.{Value}
use Rattle.answers.specs.Chain.{first_passes, test_passes, test_fails}
use Rattle.monitor.specs.Checked.{held_of}
use Rattle.checks.proofs.Given.{accepted, parts_is}
use Rattle.monitor.proofs.Given.{fits_are}
use Rattle.monitor.proofs.check_held.Goals as goal

pub all-states-requires : goal.all-states-requires
all-states-requires c =
    let a = c.args in
    let i = accepted a.plant a.fair.now a.label.now a.next.now a.rule (search rules) c.check_input.ensures c.in_ok-check_input.was in
    (i.table.some_states, i.table.few_states)

pub valuations-count-requires : goal.valuations-count-requires
valuations-count-requires c =
    let a = c.args in
    let i = accepted a.plant a.fair.now a.label.now a.next.now a.rule (search rules) c.check_input.ensures c.in_ok-check_input.was in
    omega (arith, c.parts_of.ensures, parts_is i, i.few)

pub returns-then-not-both_fit : goal.returns-then-not-both_fit
unfolding held_of
returns-then-not-both_fit c =
    let a = c.args in
    let i = accepted a.plant a.fair.now a.label.now a.next.now a.rule (search rules) c.check_input.ensures c.in_ok-check_input.was in
    test_fails Value c.if-not-both_fit.true (c.both_fit.ensures ∙ fits_are a.plant a.fair.now a.label.now a.next.now a.rule i _ _
    c.parts_of.ensures c.all-states.ensures c.valuations-count.ensures.0 refl refl a.expected) c.at.ensures
    ∙ first_passes _ c.check_input.ensures c.in_ok-check_input.was

pub returns : goal.returns
unfolding held_of
returns c =
    let a = c.args in
    let i = accepted a.plant a.fair.now a.label.now a.next.now a.rule (search rules) c.check_input.ensures c.in_ok-check_input.was in
    test_passes Value c.if-not-both_fit.false (c.both_fit.ensures ∙ fits_are a.plant a.fair.now a.label.now a.next.now a.rule i _ _
    c.parts_of.ensures c.all-states.ensures c.valuations-count.ensures.0 refl refl a.expected)
    ∙ first_passes _ c.check_input.ensures c.in_ok-check_input.was
