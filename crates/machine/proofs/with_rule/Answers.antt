-- `with_rule`: what was made stands in the lent bytes (`made_within`).
use Rattle.std.proofs.Common.{ℕ, ◌≡◌, sym, ◌∙◌, rules, length, replicate}
use lib.ListN.{length-replicate}
use Rattle.machine.proofs.Fits.{made_within}
use Rattle.machine.proofs.with_rule.Goals as goal

pub show_machine-requires : goal.show_machine-requires
show_machine-requires g c =
    let given = c.args in
    let new = c.make_machine-made.new.machine in
    let long : length new ≡ 14336 = search rules in
    made_within given.plant given.fair.now given.label.now given.next.now given.rule (replicate 49152 0) c.make_machine-made.new.work
    (replicate 14336 0) new _ _ c.in-Ok.is (long ∙ sym (length-replicate {A = ℕ} 14336 0)) c.make_machine-made.ensures
