-- `word_at`: by where the word stands.
use Rattle.std.proofs.Common.{refl, ◌∙◌, arith, lt-ltb, le-ltb}
use Rattle.explored.specs.States.{word_at}
use Rattle.explored.proofs.Folded.{flag_digit}
use Rattle.explored.proofs.word_at.Goals as goal

pub returns-in-0 : goal.returns-in-0
unfolding word_at
returns-in-0 c = rw c.in-0.is refl

pub returns-in-1 : goal.returns-in-1
unfolding word_at
returns-in-1 c = rw c.in-1.is (c.from.ensures ∙ flag_digit c.args.seen)

pub returns-in-2-to-65 : goal.returns-in-2-to-65
unfolding word_at
returns-in-2-to-65 c = let x = c.in-2-to-65 in rw (le-ltb c.args.i 2 (omega arith), lt-ltb c.args.i 66 (omega arith)) refl

pub returns-in_default : goal.returns-in_default
unfolding word_at
returns-in_default c = let x = c.in_default in rw (le-ltb c.args.i 2 (omega arith), le-ltb c.args.i 66 (omega arith)) c.entry.ensures
