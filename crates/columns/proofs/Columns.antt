-- More of specs/Columns. THE COLUMNS OF A FIXED MACHINE (02, g): the legal events, by see first, within one see by val, and of each the one without restart first. What must be believed of columns is `columns_of`.
use Rattle.std.specs.Prelude.{ℕ, ◌≤◌, ◌<◌, ◌≡◌, List, length, get_or}
use Rattle.std.proofs.Common.{ap, ◌∙◌}
use Rattle.words.specs.Lists.{at_list, length_list}
use Rattle.event_log.specs.declared.Event.{Event}
use Rattle.event_log.specs.Log.{nothing}
use Rattle.columns.specs.Columns.{columns_are, columns_of, count_of, event_at}

module _ (props : ℕ) (some : 1 ≤ props) (few : props ≤ 3) where
  pub columns_count : length (columns_of props) ≡ count_of props
  columns_count = ap length (columns_are props some few) ∙ length_list (count_of props) event_at

  pub columns_at : (k : ℕ) → k < count_of props → get_or (columns_of props) k nothing ≡ event_at k
  columns_at k l = ap (λ (es : List Event). get_or es k nothing) (columns_are props some few) ∙ at_list nothing (count_of props) event_at k l
