-- More of specs/Needed: the claim, of all rows at once.
use Rattle.std.specs.Prelude.{◌≡◌, map}
use Rattle.std.proofs.Common.{ap, ◌∙◌}
use Rattle.meaning.specs.Step.{table}
use Rattle.marked.specs.Marked.{Row}
use Rattle.promises.specs.ThreeTexts.{shown_for, model_shown}
use Rattle.sensors_needed.specs.Needed.{all_fine, all_shown, lamps_shown, pairs, rows_of, texts_read}

-- THE CLAIM: for each row the calls show what stands in it
pub each_needed : map (λ (r : Row). shown_for r.table r.rule r.log) (rows_of pairs) ≡ map (λ (r : Row). r.shows) (rows_of pairs)
each_needed = all_shown (rows_of pairs) all_fine ∙ ap (map model_shown) texts_read ∙ lamps_shown
