-- More of specs/Promises. What is promised of logs. Check 10: `legal_exactly` in Legal. Two forms of lines: Forms. Here: what reading a log of w digits means.
use Rattle.std.specs.Prelude.{ℕ, ◌≡◌, refl, ◌↔◌, Bool, List, length, get_or, Ok}
use Rattle.std.proofs.Common.{sym, subst, ap, ◌∙◌}
use Rattle.std.proofs.lemmas.Bool.{false≢true}
use Rattle.answers.specs.Chain.{is_accepted, place_of}
use Rattle.text.specs.Form.{led}
use Rattle.text.specs.Written.{small_of}
use Rattle.text.specs.Place.{Fills, OfForm, RefusedAt, refused_one}
use Rattle.text.specs.Promises.{WrittenOut, written_small, filled_out, of_form_out, value_one, out_one}
use Rattle.text.specs.Lines.{lines}
use Rattle.text.specs.LinesRead.{Told, lined, misfit, told}
use Rattle.event_log.specs.declared.Event.{Event}
use Rattle.event_log.specs.declared.LogRead.{LogRead}
use Rattle.event_log.specs.Line.{line, line_bytes, line_fixed}
use Rattle.event_log.specs.Log.{nothing, log_form, log_whole}
use Rattle.event_log.specs.Read.{refused_log, accepted_log, is_numbered, read_as, event_as, log_read, event_at}
use Rattle.event_log.specs.Promises.{AllWritable, Reading, accepted, all_ok, lines_fill, lines_ok, lines_refused, log_slots, log_text, misformed, outcome_of, slots_are}

-- it is the one written out
pub log_out : (w : ℕ) → WrittenOut (log_form w) (AllWritable w) (log_slots w)
log_out w = record { well = all_ok w; slots_are = slots_are w }

-- a text fills the slots of a log exactly if it is, its digits made small, that log's text
pub fills_log : (w : ℕ) (es : List Event) (s : List ℕ) → Fills s ((log_form w).slots es) ↔ (small_of (log_slots w es) s ≡ log_text w es)
fills_log w = filled_out (log_out w)

-- a text is of the form exactly if it is, its digits made small, the text of a log
pub form_exactly : (w : ℕ) (s : List ℕ) → OfForm (log_form w) s ↔ ((es : List Event) × AllWritable w es × (small_of (log_slots w es) s ≡ log_text w es))
form_exactly w = of_form_out (log_out w)

-- two logs have different texts
pub text_one : (w : ℕ) (es fs : List Event) → AllWritable w es → AllWritable w fs → log_text w es ≡ log_text w fs → es ≡ fs
text_one w = out_one (log_out w) (log_whole w)

pub reading : (w : ℕ) (s : List ℕ) → Reading w s
unfolding read_as event_as
reading w s = by_case (told (line numbered w) (line_bytes numbered w) (line_fixed numbered w) nothing refused_log accepted_log s)
  where
    numbered : Bool
    numbered = is_numbered s

    by_case : Told (line (is_numbered s) w) (line_bytes (is_numbered s) w) (line_fixed (is_numbered s) w) nothing refused_log accepted_log s → Reading w s
    by_case (lined es ok f r at) = accepted es (lines_ok numbered w es ok) (lines_fill numbered w es s f) r at
    by_case (misfit i p r) = misformed i (lines_refused w s i numbered refl p) r

-- a text that is, its digits made small, the text of a log is accepted, with as many lines, and the event of each is the log's
pub small_read :
    (w : ℕ) (es : List Event) (s : List ℕ) → AllWritable w es → small_of (log_slots w es) s ≡ log_text w es
    → (log_read w s ≡ accepted_log (length es)) × ((k : ℕ) → event_at w s k ≡ get_or es k nothing)
small_read w es s ok f = by_case (reading w s)
  where
    by_case : Reading w s → (log_read w s ≡ accepted_log (length es)) × ((k : ℕ) → event_at w s k ≡ get_or es k nothing)
    by_case (accepted fs ok' e r at) =
        let same : fs ≡ es = value_one (log_out w) (log_whole w) fs es s ok' ok e f in
        (r ∙ ap (λ (x : List Event). accepted_log (length x)) same, λ k. at k ∙ ap (λ (x : List Event). get_or x k nothing) same)
    by_case (misformed i p r) = absurd (p.not_of_form (record { value = es; ok = (all_ok w es).1 ok; fills = (fills_log w es s).1 f }))

-- so is the text itself
pub text_read_lem : (w : ℕ) (es : List Event) → AllWritable w es → (log_read w (log_text w es) ≡ accepted_log (length es)) × ((k : ℕ) → event_at w (log_text w es) k ≡ get_or es k nothing)
text_read_lem w es ok = small_read w es (log_text w es) ok (written_small (log_slots w es))

-- an accepted text is, its digits made small, the text of a log, and these are its lines and the events read
pub accepted_text :
    (w : ℕ) (s : List ℕ) → (log_read w s).outcome ≡ Ok tt
    → (es : List Event) × AllWritable w es × (small_of (log_slots w es) s ≡ log_text w es) × ((log_read w s).lines ≡ length es) × ((k : ℕ) → event_at w s k ≡ get_or es k nothing)
accepted_text w s e = by_case (reading w s)
  where
    by_case :
        Reading w s
        → (es : List Event) × AllWritable w es × (small_of (log_slots w es) s ≡ log_text w es) × ((log_read w s).lines ≡ length es) × ((k : ℕ) → event_at w s k ≡ get_or es k nothing)
    by_case (accepted es ok f r at) = (es, ok, f, ap (λ (x : LogRead). x.lines) r, at)
    by_case (misformed i p r) = absurd (false≢true (ap is_accepted (sym (ap outcome_of r) ∙ e)))

-- accepted exactly if it is, its digits made small, the text of a log
pub accepted_small : (w : ℕ) (s : List ℕ) → ((log_read w s).outcome ≡ Ok tt) ↔ ((es : List Event) × AllWritable w es × (small_of (log_slots w es) s ≡ log_text w es))
accepted_small w s = (
  λ e. let (es, ok, f, lines, at) = accepted_text w s e in (es, ok, f),
  λ (es, ok, e). ap outcome_of (small_read w es s ok e).0,
)

-- refused by 12 exactly at its place (01, Refusal numbers): the first byte at which no log begins with what was read, the length where it only stops too soon
pub twelve_exactly : (w : ℕ) (s : List ℕ) (i : ℕ) → (log_read w s ≡ refused_log i) ↔ RefusedAt (log_form w) s i
twelve_exactly w s i = (λ e. there e (reading w s), λ p. back p (reading w s))
  where
    there : log_read w s ≡ refused_log i → Reading w s → RefusedAt (log_form w) s i
    there e (accepted es ok f r at) = absurd (false≢true (ap (λ (x : LogRead). is_accepted x.outcome) (sym e ∙ r)))
    there e (misformed j p r) = subst (RefusedAt (log_form w) s) (ap (λ (x : LogRead). place_of x.outcome) (sym r ∙ e)) p

    back : RefusedAt (log_form w) s i → Reading w s → log_read w s ≡ refused_log i
    back p (accepted es ok f r at) = absurd (p.not_of_form (record { value = es; ok = (all_ok w es).1 ok; fills = (fills_log w es s).1 f }))
    back p (misformed j q r) = r ∙ ap refused_log (refused_one q p)
