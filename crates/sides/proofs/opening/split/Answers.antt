-- `split`: each word is made by a call. Assumes nothing.
use Rattle.std.proofs.Common.{rules, true, false}
use Rattle.words.proofs.Made.{words_made}
use Rattle.sides.specs.Sides.{split_in, split_of}
use Rattle.sides.proofs.opening.split.Goals as goal

pub returns-then-keeps : goal.returns-then-keeps
unfolding split_of
returns-then-keeps c =
    let a = c.args in
    rw c.if-keeps.true (words_made _ _ (split_in a.held.now a.among a.holds.now true) (λ k y q call. search rules) _ c.from_fn-words.ensures.items)

pub returns-else-keeps : goal.returns-else-keeps
unfolding split_of
returns-else-keeps c =
    let a = c.args in
    rw c.if-keeps.false (words_made _ _ (split_in a.held.now a.among a.holds.now false) (λ k y q call. search rules) _ c.from_fn-words-else-keeps.ensures.items)
