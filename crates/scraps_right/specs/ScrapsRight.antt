-- FROM THE BYTES OF A TABLE, A RULE AND SCRAPS to what the runs of the plant dictate: however a log is cut, each verdict byte is right for the events before it. It reads as WholeLog
-- (front_door/specs) does. proofs/FromTexts proves the claim, as `scraps_right_lem`; there is no proof on this page.
use Rattle.std.specs.Prelude.{ℕ, suc, ◌≤◌, ◌<◌, ◌≡◌, List, map, length, get_or, take}
use Rattle.meaning.specs.Formula.{Formula}
use Rattle.meaning.specs.Run.{Plant}
use Rattle.meaning.specs.Limits.{AcceptedTable}
use Rattle.answers.specs.declared.Verdict.{Verdict}
use Rattle.answers.specs.declared.Verdict.TheVariants.{Inconclusive}
use Rattle.answers.specs.Results.{Outcome}
use Rattle.answers.specs.Paper.{number_of}
use Rattle.text.specs.Number.{width_of}
use Rattle.event_log.specs.declared.Event.{Event}
use Rattle.event_log.specs.Read.{log_read}
use Rattle.controller.specs.declared.LogAnswer.{LogAnswer}
use Rattle.transcript.specs.Said.{bytes}
use Rattle.front_door.specs.FrontDoor.{SaysTable, SaysLog}
use Rattle.front_door.specs.WholeLog.{VerdictAfter, Closes, SaysBare}
use Rattle.scraps.specs.Calls.{longest}
use Rattle.cuttings.specs.Scraps.{Scrap, text}
use Rattle.scraps_right.specs.Claims.{Roomy, lines_of, said_by_all, end_of_all, stop_or}

-- the whole lines of a log say events, and verdict n is right for the events 0 to n; the end is the refusal of the first event that is refused, as `closes` tells it, and else what is
-- said of the log's form
pub record Heeds (t : Plant) (f : Formula) (log said : List ℕ) (end : Outcome) : Type 0 where
  pub events : List Event
  pub says : SaysLog (bytes (lines_of (width_of t.props) log)) t.props events
  pub verdicts : List Verdict
  pub are : said ≡ map number_of verdicts
  pub byte_right : (n : ℕ) → n < length verdicts → VerdictAfter t f (take (suc n) events) (get_or verdicts n Inconclusive)
  pub answer : LogAnswer
  pub closes : Closes t events (length verdicts) answer
  pub ends : end ≡ stop_or answer (log_read (width_of t.props) log).outcome

-- texts that say an accepted table and a rule, and scraps with room for their verdicts, of a log that is not too long
abbrev pub ScrapsRight : Type 0
ScrapsRight = (table rule : List ℕ) (t : Plant) (f : Formula) → SaysTable (bytes table) t → AcceptedTable t → SaysBare rule t.props f → (ss : List Scrap) → Roomy ss → length (text ss) ≤ longest
    → Heeds t f (text ss) (said_by_all table rule ss) (end_of_all table rule ss)
