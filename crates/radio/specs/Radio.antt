-- A LOG THAT COMES IN SCRAPS, BYTE BY BYTE: what is kept between them, and what one byte more does.
use Rattle.std.specs.Prelude.{ℕ, ◌+◌, Bool, true, false, not, cond, ltb, leb, length, Ok, Err}
use mathlib.Core.List.{List, [], ◌∷◌, ◌++◌, foldl}
use Rattle.answers.specs.declared.Kind.TheVariants.{LogText}
use Rattle.answers.specs.declared.Refusal.{Refusal}
use Rattle.answers.specs.Results.{Answer}
use Rattle.answers.specs.Results.{Outcome}
use Rattle.answers.specs.Paper.{number_of, refused_at}
use Rattle.text.specs.Promises.{fit_of}
use Rattle.event_log.specs.declared.Event.{Event}
use Rattle.event_log.specs.Line.{line}
use Rattle.event_log.specs.Read.{is_numbered, bytes_in, event_at}
use Rattle.sides.specs.declared.Monitor.{Monitor}
use Rattle.monitor.specs.declared.Watched.{Watched}
use Rattle.radio.specs.declared.Form.{Form}
use Rattle.radio.specs.declared.Form.TheVariants.{Unknown, Plain, Numbered}

-- the bytes of the line that is not whole yet, where in the whole log it begins, the form of the lines before it, the refusal that stands, if any, and the monitor
pub record Ear : Type 0 where
  pub part : List ℕ
  pub start : ℕ
  pub form : Form
  pub standing : Outcome
  pub monitor : Monitor

-- this, and the verdicts given since the scrap began
pub record Heard : Type 0 where
  pub ear : Ear
  pub verdicts : List ℕ

-- ---- the line

-- the first line's form is every line's
abbrev pub agrees : Form → Bool → Bool
agrees Unknown numbered = true
agrees Plain numbered = not numbered
agrees Numbered numbered = numbered

abbrev pub form_of : Bool → Form
form_of true = Numbered
form_of false = Plain

-- how many bytes of a text that has no more than a line fit a line of w digits
unfoldable pub good_of : ℕ → Form → List ℕ → ℕ
good_of w form q = cond (agrees form (is_numbered q)) (fit_of (line (is_numbered q) w) q) 0

-- whether it begins a line
abbrev pub begins : ℕ → Form → List ℕ → Bool
begins w form q = leb (length q) (good_of w form q)

-- ---- one byte more

-- behind a refusal nothing is kept of the line
abbrev pub stopped : Heard → Refusal → Heard
stopped h r = record { ear = record { part = []; start = h.ear.start; form = h.ear.form; standing = Err r; monitor = h.ear.monitor }; verdicts = h.verdicts }

-- a line that is not whole yet
abbrev pub kept : Heard → List ℕ → Heard
kept h q = record { ear = record { part = q; start = h.ear.start; form = h.ear.form; standing = h.ear.standing; monitor = h.ear.monitor }; verdicts = h.verdicts }

-- a whole line: its event's verdict, and the next line begins behind it; or its event is refused, at the line's offset in the whole log
abbrev pub answered : Heard → List ℕ → Watched → Answer → Heard
answered h q s (Ok l) =
    record { ear = record { part = []; start = h.ear.start + length q; form = form_of (is_numbered q); standing = Ok tt; monitor = s.monitor }; verdicts = h.verdicts ++ number_of l.verdict ∷ [] }
answered h q s (Err r) = stopped h (refused_at r.kind h.ear.start)

module _ (w : ℕ) (step : Monitor → Event → Watched) where
  abbrev pub ended : Heard → List ℕ → Heard
  ended h q = answered h q (step h.ear.monitor (event_at w q 0)) (step h.ear.monitor (event_at w q 0)).answer

  -- the bytes of a line that is begun
  abbrev pub lengthened : Heard → List ℕ → Heard
  lengthened h q = cond (ltb (length q) (bytes_in w q)) (kept h q) (ended h q)

  -- where no line begins so, the byte is refused at its place in the whole log; behind a refusal nothing more happens
  abbrev pub byte_heard : Outcome → Heard → ℕ → Heard
  byte_heard (Ok _) h b =
      let q = h.ear.part ++ b ∷ [] in
      cond (begins w h.ear.form q) (lengthened h q) (stopped h (refused_at LogText (h.ear.start + length h.ear.part)))
  byte_heard (Err r) h b = h

  unfoldable pub hear : Heard → ℕ → Heard
  hear h b = byte_heard h.ear.standing h b

  -- ANY BYTES, one after the other
  abbrev pub hear_all : Heard → List ℕ → Heard
  hear_all h s = foldl hear h s
