use Rattle.std.proofs.Common.{◌≡◌, length, take, drop, get_or, ap, ◌∙◌, arith, rules, tests, get_or-drop, length-drop, length-take-le}
use Rattle.std.proofs.lemmas.List.{get_or-take}
use Rattle.std.proofs.lemmas.Iterator.{YieldsList-from_slice}
use Rattle.std.proofs.lemmas.Iterator.Search.{all_from_yields_List}
use Rattle.words.specs.Below.{all_below}
use Rattle.words.specs.Folds.{all_same}
use Rattle.day_words.specs.Words.{is_verdict, fits_in}
use Rattle.words.proofs.Made.{all_listed}
use Rattle.day_words.proofs.fits.Goals as goal

pub returns : goal.returns
unfolding fits_in
returns c =
    let verdicts = take 64 (drop 129 c.args.words.now) in
    let long : length verdicts ≡ 64 = length-take-le 64 (drop 129 c.args.words.now) (omega (arith, length-drop 129 c.args.words.now)) in
    all_from_yields_List is_verdict _ _ _ c.all.ensures.ran (YieldsList-from_slice verdicts cc) (λ x b q k. search (rules, tests)) ∙ all_listed is_verdict 0 verdicts
    ∙ ap (λ n. all_below n (λ k. is_verdict (get_or verdicts k 0))) long
    ∙ all_same 64 _ _ (λ k h. ap is_verdict (get_or-take 64 (drop 129 c.args.words.now) k 0 h ∙ get_or-drop 129 c.args.words.now k 0))
