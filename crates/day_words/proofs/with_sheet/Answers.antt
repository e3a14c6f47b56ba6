use Rattle.std.proofs.Common.{rules}
use Rattle.day_words.specs.Words.{changed_word, with_sheet}
use Rattle.words.proofs.Made.{list_made}
use Rattle.day_words.proofs.with_sheet.Goals as goal

pub returns : goal.returns
unfolding with_sheet
returns c = list_made _ _ (changed_word c.args.words c.args.sheet) 0 (λ k y q call. search rules) 260 _ c.from_fn.ensures.items
