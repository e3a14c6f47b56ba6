-- What a call gives: the lamp, or that it was accepted, or a refusal.
use Rattle.std.specs.Prelude.{Result}
use Rattle.answers.specs.declared.Lamp.{Lamp}
use Rattle.answers.specs.declared.Refusal.{Refusal}

-- of a call that shows the lamp
abbrev pub Answer : Type 0
Answer = Result Lamp Refusal

-- of a call that gives nothing, or whose value stands beside it
abbrev pub Outcome : Type 0
Outcome = Result (Unit {0}) Refusal
