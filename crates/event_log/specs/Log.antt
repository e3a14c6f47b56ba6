-- A log: lines of w digits one after the other, as many as the text has bytes for, all of them numbered or none.
use Rattle.std.specs.Prelude.{ℕ, Bool, true, false, List}
use Rattle.std.proofs.Common.{arith}
use Rattle.text.specs.Form.{Form, seen}
use Rattle.text.specs.Place.{Whole}
use Rattle.text.specs.Lines.{lines}
use Rattle.text.specs.Choice.{choice}
use Rattle.text.specs.FirstLine.{first_of}
use Rattle.text.proofs.LinesChoice.{LinesApart, lines_choice}
use Rattle.event_log.specs.Lead.{is_given}
use Rattle.event_log.specs.Line.{line, line_bytes, line_fixed, numbered_begins, plain_begins}
use Rattle.event_log.specs.declared.Event.{Event}
use Rattle.event_log.specs.declared.Num.TheVariants.{Expected}

-- the event that sees nothing, of the number expected
abbrev pub nothing : Event
nothing = record { num = Expected; see = 0; val = 0; new = false }

-- whether an event gives its number
abbrev pub gives : Event → Bool
gives e = is_given e.num

-- a line for each event, of the one form or of the other
abbrev pub lines_form : Bool → ℕ → Form (List Event)
lines_form numbered w = lines (line numbered w) (line_bytes numbered w) nothing

-- the form of a log: numbered lines where the first event gives its number, and such a text begins with `n`; plain lines otherwise
abbrev pub log_form : ℕ → Form (List Event)
log_form w = choice 110 (first_of gives) (lines_form true w) (lines_form false w)

-- a numbered line begins with `n`, and a plain one with `s`
pub log_apart : (w : ℕ) → LinesApart 110 115 gives (line true w) (line false w)
unfolding seen
log_apart w = record { byte = omega arith; differ = λ e. omega arith; begins = λ e ok. (ok.0, numbered_begins w e ok); others = λ e ok. (ok.0, plain_begins w e ok) }

pub log_whole : (w : ℕ) → Whole (log_form w)
log_whole w = lines_choice (line_fixed true w) (line_fixed false w) nothing (log_apart w)
