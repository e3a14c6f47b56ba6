-- `block_of`: each word is made at its place.
use Rattle.std.proofs.Common.{rules, ◌∙◌}
use Rattle.words.specs.Lists.{filled_all}
use Rattle.words.proofs.Made.{filled_made}
use Rattle.explored.specs.States.{word_at, block_of}
use Rattle.explored.proofs.Folded.{flag_digit}
use Rattle.explored.proofs.block_of.Goals as goal

pub returns : goal.returns
unfolding block_of
returns c =
    let m = c.args.monitor in
    rw (← flag_digit m.seen, ← c.from.ensures, ← c.digest-of_keeps.ensures, ← c.digest-of_both.ensures)
    (filled_made _ _ (word_at c.digest-of_both.result m.seen m.keeps.words m.breaks.words) (λ k y q call. search rules) 130 _ c.from_fn.ensures.items ∙ filled_all 130 (word_at c.digest-of_both.result m.seen m.keeps.words m.breaks.words))
