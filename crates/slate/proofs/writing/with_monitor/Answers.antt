use Rattle.std.proofs.Common.{◌∙◌, arith, rules}
use Rattle.slate.specs.Box.{monitor_word, changed_word, with_monitor}
use Rattle.words.proofs.Made.{list_made, laid_over}
use Rattle.slate.proofs.writing.with_monitor.Goals as goal

pub returns : goal.returns
unfolding changed_word with_monitor
returns c =
    let laid = list_made _ _ (monitor_word c.args.monitor) 0 (λ k y q call. search rules) 130 _ c.from_fn-laid.ensures.items in
    laid_over c.args.words c.copy_from_slice.new.self 233 130 384 (monitor_word c.args.monitor) (search rules) (omega arith) (c.copy_from_slice.ensures.after ∙ laid)
