-- `look`: the checks, and then the lamp. Assumes nothing.
use Rattle.std.proofs.Common.{ap, Ok, rules}
use Rattle.monitor.proofs.Words.{words_of}
use Rattle.monitor.proofs.Given.{not_lit, is_lit}
use Rattle.monitor.proofs.look.Goals as goal

pub returns-in_err-check_held : goal.returns-in_err-check_held
returns-in_err-check_held c =
    let a = c.args in
    let m = c.well_formed.1.1.1.1.1.0.1.1 in
    let h = not_lit a.plant a.fair.now a.label.now a.next.now a.rule (search rules)
    a.monitor (words_of a.monitor.keeps.words m.1.0.1.1.0) (words_of a.monitor.breaks.words m.1.1.0.1.1.0)
    c.check_held.ensures c.in_err-check_held.was in
    search (rules, h)

pub returns : goal.returns
returns c =
    let a = c.args in
    let m = c.well_formed.1.1.1.1.1.0.1.1 in
    is_lit a.plant a.fair.now a.label.now a.next.now a.rule (search rules)
    a.monitor (words_of a.monitor.keeps.words m.1.0.1.1.0) (words_of a.monitor.breaks.words m.1.1.0.1.1.0)
    c.check_held.ensures c.in_ok-check_held.was (ap Ok c.lamp-lamp.ensures)
