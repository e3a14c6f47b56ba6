-- `halves::entering`: the words of the turns passed are stored, the others still 0.
use mathlib.Core.Path.{◌≡◌}
use Prim.Native.Nat.{◌≤◌, ◌-◌}
use Rattle.leads.specs.Halves.{entering_after}
use Rattle.leads.proofs.halves.entering.Given as goal

abbrev pub invariant-loop-i : goal.invariant-loop-i
invariant-loop-i l = l.words ≡ entering_after l.mid l.rest l.nexts l.operand l.i
