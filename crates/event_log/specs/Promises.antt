-- What is promised of logs. Check 10: `legal_exactly` in Legal. Two forms of lines: Forms. Here: what reading a log of w digits means.
use Rattle.std.specs.Prelude.{ℕ, ◌<◌, ◌≡◌, refl, ◌↔◌, Bool, true, false, cond, List, [], ◌∷◌, ◌++◌, length, get_or}
use Rattle.std.proofs.Common.{sym, ap, ◌∙◌, arith, eqb-true}
use Rattle.std.proofs.lemmas.Bool.{false≢true, eqb-false}
use Rattle.answers.specs.Results.{Outcome}
use Rattle.words.specs.Word.{digit}
use Rattle.text.specs.Slot.{Slot, word}
use Rattle.text.specs.Number.{hex_slots, count_slots}
use Rattle.text.specs.Form.{led, both, seen}
use Rattle.text.specs.Hex.{hex}
use Rattle.text.specs.Count.{counted}
use Rattle.text.specs.Many.{slots_below}
use Rattle.text.specs.Written.{text_of, small_of}
use Rattle.text.specs.Place.{Fills, Whole, RefusedAt, fills_small}
use Rattle.text.specs.Lines.{lines, first_line_lem, lines_whole}
use Rattle.text.specs.Choice.{Apart, choice}
use Rattle.text.proofs.Choice.{refused_first, refused_other}
use Rattle.text.specs.FirstLine.{first_of}
use Rattle.text.proofs.LinesChoice.{lines_apart}
use Rattle.event_log.specs.declared.Event.{Event}
use Rattle.event_log.specs.declared.LogRead.{LogRead}
use Rattle.event_log.specs.Lead.{num_slots, leading}
use Rattle.event_log.specs.Line.{Writable, line, line_bytes, line_fixed, see_key, val_key, new_key}
use Rattle.event_log.specs.Log.{nothing, gives, lines_form, log_form, log_apart}
use Rattle.event_log.specs.Read.{refused_log, accepted_log, is_numbered, log_read, event_at}

-- ---- the form, written out

-- `num=`, eight digits and a space where the number is given; `see=`, w digits, ` val=`, w digits, ` new=`, 0 or 1, LF
abbrev pub line_slots : ℕ → Event → List Slot
line_slots w e = num_slots e.num ++ ((word see_key ++ hex_slots w e.see) ++ ((word val_key ++ hex_slots w e.val) ++ (word new_key ++ count_slots 10 (digit e.new))))

-- the lines one after the other
unfoldable pub log_slots : ℕ → List Event → List Slot
log_slots w [] = []
log_slots w (e ∷ es) = line_slots w e ++ log_slots w es

-- the written form of a log
abbrev pub log_text : ℕ → List Event → List ℕ
log_text w es = text_of (log_slots w es)

-- the events that can be written: the digits hold them, and all give their numbers if the first does, and none otherwise
abbrev pub AllWritable : ℕ → List Event → Type 0
AllWritable w es = (k : ℕ) → k < length es → Writable (first_of gives es) w (get_or es k nothing)

-- ---- this is the form that is read

-- a choice told by a test
by_test : (b : Bool) (P : Bool → Type 0) → ((b ≡ true → P true) × (b ≡ false → P false)) ↔ P b
by_test true P = (λ h. h.0 refl, λ p. (λ e. p, λ e. absurd (false≢true (sym e))))
by_test false P = (λ h. h.1 refl, λ p. (λ e. absurd (false≢true e), λ e. p))

pub lines_are : (numbered : Bool) (w : ℕ) (es : List Event) → (lines_form numbered w).slots es ≡ log_slots w es
unfolding log_slots lines slots_below leading seen both led hex counted
lines_are numbered w [] = refl
lines_are numbered w (e ∷ es) = first_line_lem (line numbered w) (line_bytes numbered w) (line_fixed numbered w) nothing e es ∙ ap (λ (ts : List Slot). line_slots w e ++ ts) (lines_are numbered w es)

pub slots_are : (w : ℕ) (es : List Event) → (log_form w).slots es ≡ log_slots w es
unfolding choice
slots_are w es = by_form (first_of gives es)
  where
    by_form : (b : Bool) → cond b ((lines_form true w).slots es) ((lines_form false w).slots es) ≡ log_slots w es
    by_form true = lines_are true w es
    by_form false = lines_are false w es

pub all_ok : (w : ℕ) (es : List Event) → (log_form w).Ok es ↔ AllWritable w es
unfolding choice lines seen
all_ok w es = by_test (first_of gives es) (λ numbered. (k : ℕ) → k < length es → Writable numbered w (get_or es k nothing))

-- ---- lines of the one form, and of the log

-- lines that are of the form that the first byte tells are of the log's form
pub lines_ok : (numbered : Bool) (w : ℕ) (es : List Event) → (lines_form numbered w).Ok es → AllWritable w es
unfolding lines seen first_of
lines_ok numbered w [] ok = λ k l. absurd (omega arith)
lines_ok numbered w (e ∷ es) ok = λ k l. rw (ok 0 (omega arith)).0 (ok k l)

pub lines_fill : (numbered : Bool) (w : ℕ) (es : List Event) (s : List ℕ) → Fills s ((lines_form numbered w).slots es) → small_of (log_slots w es) s ≡ log_text w es
lines_fill numbered w es s f = (fills_small s (log_slots w es)).0 (rw (lines_are numbered w es) at f)

pub whole : (numbered : Bool) (w : ℕ) → Whole (lines_form numbered w)
whole numbered w = lines_whole (line numbered w) (line_bytes numbered w) (line_fixed numbered w) nothing

pub apart : (w : ℕ) → Apart 110 (first_of gives) (lines_form true w) (lines_form false w)
apart w = lines_apart (line_fixed true w) (line_fixed false w) nothing (log_apart w)

-- and where they are refused, the log is
pub lines_refused : (w : ℕ) (s : List ℕ) (i : ℕ) (numbered : Bool) → is_numbered s ≡ numbered → RefusedAt (lines_form numbered w) s i → RefusedAt (log_form w) s i
unfolding is_numbered
lines_refused w s i true e r = refused_first (whole true w) (whole false w) (apart w) s i (eqb-true (get_or s 0 0) 110 e) r
lines_refused w s i false e r = refused_other (whole true w) (whole false w) (apart w) s i (eqb-false (get_or s 0 0) 110 e) r

-- ---- what each text is answered, and why

-- a log's text, with its number of lines; or no text of the form. Its digits may stand as they are read: made small they are those written
pub data Reading (w : ℕ) (s : List ℕ) : Type 0 where
  accepted : (es : List Event) → AllWritable w es → small_of (log_slots w es) s ≡ log_text w es → log_read w s ≡ accepted_log (length es)
      → ((k : ℕ) → event_at w s k ≡ get_or es k nothing) → Reading w s
  misformed : (i : ℕ) → RefusedAt (log_form w) s i → log_read w s ≡ refused_log i → Reading w s

abbrev pub outcome_of : LogRead → Outcome
outcome_of r = r.outcome
