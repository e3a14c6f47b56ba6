use Rattle.std.proofs.Common.{refl, rules}
use Rattle.stretches.specs.Sheet.{blank}
use Rattle.day_words.specs.Words.{line_in, lines_in, sheet_in}
use Rattle.words.proofs.Made.{list_made}
use Rattle.day_words.proofs.sheet_in.Goals as goal

pub returns : goal.returns
unfolding lines_in sheet_in
returns c = rw (c.count_in.ensures, list_made _ _ (line_in c.args.words) blank (λ k y q call. search rules) 64 _ c.from_fn.ensures.items) refl
