-- `behind::unseen`: as many events noted as turns were gone. Assumes nothing.
use Rattle.std.proofs.Common.{◌≡◌}
use Rattle.day_sheet.specs.Code.{unseen_to, unseen_sheet}
use Rattle.day_sheet.proofs.behind.unseen.Given as goal

abbrev pub invariant-loop-k : goal.invariant-loop-k
invariant-loop-k l =
    (l.now ≡ unseen_to l.label l.next l.ways l.live l.initial.now l.k) × (l.day ≡ unseen_sheet l.label l.next l.ways l.live l.initial.now l.initial.day l.from l.k)
