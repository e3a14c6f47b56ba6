-- `joined`: forty bytes, each made at its place. Assumes nothing.
use Rattle.std.proofs.Common.{ℕ, rules, ◌∙◌, ◌++◌, take, get_or}
use Rattle.words.specs.Lists.{filled_all}
use Rattle.words.proofs.Made.{filled_made}
use Rattle.radio.specs.Kept.{padded}
use Rattle.radio.proofs.line.joined.Goals as goal

pub returns : goal.returns
unfolding padded
returns c =
    let a = c.args in
    let f : ℕ → ℕ = λ i. get_or (take a.len a.part ++ take a.took a.rest.now) i 0 in
    filled_made _ _ f (λ k y q call. search rules) 40 _ c.from_fn.ensures.items ∙ filled_all 40 f
