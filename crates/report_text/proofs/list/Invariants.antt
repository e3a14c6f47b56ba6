-- `report_text::list`: from each place on the list ends where it does from its start.
use Prim.Native.Nat.{max}
use Rattle.std.proofs.Common.{◌≤◌, ◌≡◌, length, drop}
use Rattle.report_text.specs.Form.{list_to}
use Rattle.report_text.proofs.list.Given as goal

abbrev pub invariant-loop-at : goal.invariant-loop-at
invariant-loop-at l = (l.at ≤ max l.c.at (length l.text)) × (list_to l.c l.inside l.at (drop l.at l.text) ≡ list_to l.c l.initial.inside l.c.at (drop l.c.at l.text))
