-- More of specs/Marked. M1 to M10 (01, Marked examples) and the lines of the program's example (01, Log and program), from the bytes of their texts to the lamp: one table under one claim about the calls. M9 is as request e has it.
use Rattle.std.specs.Prelude.{◌≡◌, map}
use Rattle.std.proofs.Common.{ap, ◌∙◌}
use Rattle.model.specs.Marked.{marked, marked_shown}
use Rattle.promises.specs.ThreeTexts.{shown_for, model_shown}
use Rattle.marked.specs.Marked.{all_fine, all_shown, on_paper, rows, rows_same, texts_read}

-- THE CLAIM: for each row the calls show what stands in it
pub marked_called : map (λ r. shown_for r.table r.rule r.log) rows ≡ map (λ r. r.shows) rows
marked_called = all_shown rows all_fine ∙ ap (map model_shown) texts_read ∙ ap (map on_paper) marked_shown ∙ rows_same
