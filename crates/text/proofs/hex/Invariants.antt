-- `text::hex`. The loop has read _i digits.
use Rattle.text.specs.Read.{IsHex}
use Rattle.text.proofs.hex.Given as goal

abbrev pub invariant-loop-i : goal.invariant-loop-i
invariant-loop-i l = IsHex l.text l.initial.next l._i l.value l.next
