-- More of specs/Forms. The two forms of a log's lines: which one an accepted text has, and where a text that mixes them is refused.
use Rattle.std.specs.Prelude.{ℕ, ◌<◌, ◌≡◌, refl, Bool, true, false, List, [], ◌∷◌, ◌++◌, length, get_or, Ok}
use Rattle.std.proofs.Common.{sym, ap, ◌∙◌, eqb-true}
use Rattle.std.proofs.lemmas.Bool.{eqb-false}
use Rattle.text.specs.Form.{seen}
use Rattle.text.specs.Written.{small_of}
use Rattle.text.specs.Place.{Fills, RefusedAt, fills_small}
use Rattle.text.specs.Lines.{line_start, lines, all_begun}
use Rattle.text.specs.LinesRead.{fills_fit}
use Rattle.text.specs.Choice.{guess_first}
use Rattle.text.specs.FirstLine.{first_of}
use Rattle.text.proofs.LinesChoice.{odd_behind_first, odd_behind_other}
use Rattle.event_log.specs.declared.Event.{Event}
use Rattle.event_log.specs.Line.{line, line_bytes, line_fixed}
use Rattle.event_log.specs.Log.{nothing, gives, lines_form, log_form, log_apart, log_whole}
use Rattle.event_log.specs.Read.{refused_log, is_numbered, bytes_in, whole_lines, log_read}
use Rattle.event_log.specs.Promises.{log_slots, log_text, AllWritable, lines_are, all_ok, whole, apart}
use Rattle.event_log.proofs.Promises.{fills_log, accepted_text, twelve_exactly}
use Rattle.event_log.specs.Forms.{other_byte}

-- its lines are numbered exactly if its first event gives its number
pub first_is : (w : ℕ) (es : List Event) (s : List ℕ) → AllWritable w es → small_of (log_slots w es) s ≡ log_text w es → is_numbered s ≡ first_of gives es
unfolding is_numbered
first_is w es s ok e =
    sym (guess_first (whole true w) (whole false w) (apart w) s) ∙ ap (first_of gives) ((log_whole w).exact es s ((all_ok w es).1 ok) ((fills_log w es s).1 e))

-- they fill the text
lines_fills : (w : ℕ) (es : List Event) (s : List ℕ) → AllWritable w es → small_of (log_slots w es) s ≡ log_text w es
    → (lines_form (is_numbered s) w).Ok es × Fills s ((lines_form (is_numbered s) w).slots es)
unfolding lines seen
lines_fills w es s ok e = (rw (first_is w es s ok e) ok, rw (lines_are (is_numbered s) w es) ((fills_small s (log_slots w es)).1 e))

-- so there are as many as it has room for, and the text ends behind the last
pub lines_many : (w : ℕ) (es : List Event) (s : List ℕ) → AllWritable w es → small_of (log_slots w es) s ≡ log_text w es
    → (whole_lines w s ≡ length es) × (length s ≡ line_start (bytes_in w s) (length es))
lines_many w es s ok e =
    let n = is_numbered s in
    let (fine, fills) = lines_fills w es s ok e in
    let long = (fills_fit (line n w) (line_bytes n w) (line_fixed n w) nothing es s [] fine fills).0 in
    ((all_begun (line_bytes n w) (length s) (length es) (line_fixed n w).some long).1, long)

-- behind a log's lines a line of the other form is refused at its first byte, whatever follows
pub mixed : (w : ℕ) (s r : List ℕ) → 0 < length s → (log_read w s).outcome ≡ Ok tt → log_read w (s ++ other_byte (is_numbered s) ∷ r) ≡ refused_log (length s)
unfolding is_numbered
mixed w s r some e =
    let (es, ok, f, lines, at) = accepted_text w s e in
    let (fine, fills) = lines_fills w es s ok f in
    (twelve_exactly w (s ++ other_byte (is_numbered s) ∷ r) (length s)).1 (by_form (is_numbered s) refl es fine fills)
  where
    by_form : (numbered : Bool) → is_numbered s ≡ numbered → (es : List Event) → (lines_form numbered w).Ok es → Fills s ((lines_form numbered w).slots es)
        → RefusedAt (log_form w) (s ++ other_byte numbered ∷ r) (length s)
    by_form true e es ok f = odd_behind_first (line_fixed true w) (line_fixed false w) nothing (log_apart w) es s r ok f (eqb-true (get_or s 0 0) 110 e)
    by_form false e es ok f = odd_behind_other (line_fixed true w) (line_fixed false w) nothing (log_apart w) es s r ok f some (eqb-false (get_or s 0 0) 110 e)
