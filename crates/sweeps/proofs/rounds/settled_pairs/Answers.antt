-- `rounds::settled_pairs`: each word is made by a call, those from `count` on are 0.
use Rattle.std.proofs.Common.{rules, ◌∙◌, ltb}
use borrow.Author.Tests.{tests}
use Rattle.words.specs.Word.{only_of}
use Rattle.words.proofs.Made.{words_made}
use Rattle.moves.specs.Fit.{entry}
use Rattle.sweeps.specs.Rounds.{settled_in}
use Rattle.sweeps.proofs.Made.{words_first}
use Rattle.sweeps.proofs.rounds.settled_pairs.Goals as goal

pub returns : goal.returns
unfolding settled_in
returns c =
    let a = c.args in
    words_made _ _ (λ v. only_of (ltb v a.count) (entry a.settled.now v a.k)) (λ k y q call. search (rules, tests)) _ c.from_fn.ensures.items
    ∙ words_first a.count (λ v. entry a.settled.now v a.k)
