use Rattle.std.proofs.Common.{◌∙◌, arith, rules}
use Rattle.radio_words.specs.Words.{radio_word, changed_word, with_radio}
use Rattle.words.proofs.Made.{list_made, laid_over}
use Rattle.radio_words.proofs.with_radio.Goals as goal

pub returns : goal.returns
unfolding changed_word with_radio
returns c =
    let laid = list_made _ _ (radio_word c.args.radio) 0 (λ k y q call. search rules) 10 _ c.from_fn-laid.ensures.items in
    laid_over c.args.words c.copy_from_slice.new.self 363 10 384 (radio_word c.args.radio) (search rules) (omega arith) (c.copy_from_slice.ensures.after ∙ laid)
