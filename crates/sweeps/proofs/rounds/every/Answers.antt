-- `rounds::every`: each word is made by a call, those from `count` on are 0.
use Rattle.std.proofs.Common.{rules, ◌∙◌, ltb}
use borrow.Author.Tests.{tests}
use Rattle.words.specs.Word.{only_of}
use Rattle.words.proofs.Made.{words_made}
use Rattle.sweeps.specs.Rounds.{every_of}
use Rattle.sweeps.proofs.Made.{words_first}
use Rattle.sweeps.proofs.rounds.every.Goals as goal

pub returns : goal.returns
unfolding every_of
returns c =
    let a = c.args in
    words_made _ _ (λ v. only_of (ltb v a.count) a.word) (λ k y q call. search (rules, tests)) _ c.from_fn.ensures.items ∙ words_first a.count (λ v. a.word)
