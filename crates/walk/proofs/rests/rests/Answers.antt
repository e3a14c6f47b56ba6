-- `rests::rests`: a word at a time, and the law of what was gathered (`rests_of`).
use Rattle.std.proofs.Common.{rules, ◌∙◌, ℕ, ltb, lt-ltb, sym}
use Rattle.words.specs.Word.{only_of}
use Rattle.words.specs.Lists.{words_at, words_ext, length_words}
use Rattle.words.proofs.Made.{words_made}
use Rattle.walk.specs.Rests.{rests_at, rests_of}
use Rattle.walk.proofs.rests.rests.Goals as goal

pub returns : goal.returns
returns c =
    let a = c.args in
    let at : ℕ → ℕ = rests_at a.next.now a.leave.now a.enter.now a.fair.now a.settled.now a.parts in
    let to : ℕ → ℕ = λ v. only_of (ltb v a.count) (at v) in
    rests_of _ a.leave.now a.enter.now _ _ _ a.count c.requires.0
    (words_made _ _ to (λ k y q call. search rules) _ c.from_fn.ensures.items
    ∙ words_ext _ _ (length_words 64 _) (length_words a.count _) (λ v l. words_at 64 to v l ∙ rw (lt-ltb v 64 l) (sym (words_at a.count at v l))))
