-- `halves::entering`: the words of the turns passed are stored, the others still 0.
use mathlib.Core.Path.{◌≡◌, refl, ◌∙◌}
use Prim.Native.Nat.{zero-le}
use native.Mathlib.Omega.{arith}
use Rattle.leads.specs.Halves.{halves_after, entering_of}
use Rattle.leads.specs.Laws.{halves_turn}
use Rattle.leads.proofs.halves.entering.Goals as goal

pub loop-i-init : goal.loop-i-init
unfolding halves_after
loop-i-init c = refl

pub loop-i-preserved : goal.loop-i-preserved
loop-i-preserved c = halves_turn _ _ _ _ _ _ c.loop-i.invariant c.meeting_from.ensures c.meeting_from-in-loop-i.ensures

pub returns : goal.returns
unfolding entering_of
returns c =
    let end : c.loop-i.i ≡ 512 = omega arith in
    c.loop-i.invariant ∙ rw (end, c.middle-mid.ensures.0)
