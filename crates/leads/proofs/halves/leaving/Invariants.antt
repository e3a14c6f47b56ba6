-- `halves::leaving`: the words of the turns passed are stored, the others still 0.
use mathlib.Core.Path.{◌≡◌}
use Prim.Native.Nat.{◌≤◌, ◌-◌}
use Rattle.leads.specs.Halves.{leaving_after}
use Rattle.leads.proofs.halves.leaving.Given as goal

abbrev pub invariant-loop-i : goal.invariant-loop-i
invariant-loop-i l = l.words ≡ leaving_after l.mid l.rest l.low l.high l.i
