-- `report_text::word`: the fold over the known bytes.
use Rattle.std.proofs.Common.{rules, ◌∙◌}
use Rattle.std.proofs.lemmas.Iterator.{YieldsList-from_slice}
use Rattle.std.proofs.lemmas.Iterator.Consumers.{fold_from_yields_List}
use Rattle.report_text.specs.Form.{byte_taken}
use Rattle.report_text.proofs.Turn.{word_by_fold}
use Rattle.report_text.proofs.word.Goals as goal

pub returns : goal.returns
returns c =
    fold_from_yields_List _ (byte_taken c.args.text.now) c.args.c _ c.fold.ensures.ran (YieldsList-from_slice c.args.known.now cc) (λ d x r q k. search rules)
    ∙ word_by_fold c.args.text.now c.args.c c.args.known.now
