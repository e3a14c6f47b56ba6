-- `step`: the checks, and then the new monitor with its lamp. Assumes nothing.
use Rattle.std.proofs.Common.{ap, Ok, rules}
use Rattle.checks.proofs.Given.{ready}
use Rattle.monitor.proofs.Words.{words_of}
use Rattle.monitor.proofs.Given.{step_given, not_stepped, is_stepped}
use Rattle.monitor.proofs.step.Goals as goal

pub stepped-stepped-requires : goal.stepped-stepped-requires
stepped-stepped-requires c =
    let a = c.args in
    let g = c.well_formed.1.1.1.1.1 in
    let m = g.1.0.1.1 in
    let given = step_given a.plant a.fair.now a.label.now a.next.now a.rule (search rules) a.live a.monitor a.event
    (words_of a.live.words g.0.1.1.0) (words_of a.monitor.keeps.words m.1.0.1.1.0) (words_of a.monitor.breaks.words m.1.1.0.1.1.0)
    c.check_step.ensures c.in-Ok.is in
    (ready given.0, given.1)

pub returns-in-Err : goal.returns-in-Err
returns-in-Err c =
    let a = c.args in
    let g = c.well_formed.1.1.1.1.1 in
    let m = g.1.0.1.1 in
    not_stepped a.plant a.fair.now a.label.now a.next.now a.rule (search rules) a.live a.monitor a.event
    (words_of a.live.words g.0.1.1.0) (words_of a.monitor.keeps.words m.1.0.1.1.0) (words_of a.monitor.breaks.words m.1.1.0.1.1.0)
    c.check_step.ensures c.in-Err.is

pub returns-in-Ok : goal.returns-in-Ok
returns-in-Ok c =
    let a = c.args in
    let g = c.well_formed.1.1.1.1.1 in
    let m = g.1.0.1.1 in
    is_stepped a.plant a.fair.now a.label.now a.next.now a.rule (search rules) a.live a.monitor a.event
    (words_of a.live.words g.0.1.1.0) (words_of a.monitor.keeps.words m.1.0.1.1.0) (words_of a.monitor.breaks.words m.1.1.0.1.1.0)
    c.check_step.ensures c.in-Ok.is c.stepped-stepped.ensures (ap Ok c.lamp.ensures)
