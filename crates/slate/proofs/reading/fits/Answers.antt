use Rattle.std.proofs.Common.{ℕ, get_or, ap, ◌∙◌, rules, tests}
use Rattle.std.proofs.lemmas.Iterator.{YieldsList-from_slice}
use Rattle.std.proofs.lemmas.Iterator.Consumers.{YieldsList-from_enumerate}
use Rattle.std.proofs.lemmas.Iterator.Search.{all_from_yields_List}
use Rattle.words.specs.Below.{all_below}
use Rattle.slate.specs.Box.{can_be, fits_in}
use Rattle.words.proofs.Made.{all_numbered}
use Rattle.slate.proofs.reading.fits.Goals as goal

pub returns : goal.returns
unfolding fits_in
returns c =
    let w = c.args.words.now in
    all_from_yields_List (λ (p : ℕ × ℕ). can_be p.0 p.1) _ _ _ c.all.ensures.ran (YieldsList-from_enumerate (YieldsList-from_slice w cc) cc) (λ x b q k. search (rules, tests))
    ∙ all_numbered can_be 0 w ∙ ap (λ n. all_below n (λ p. can_be p (get_or w p 0))) c.told-words
