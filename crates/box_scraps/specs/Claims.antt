-- A BOX THAT TAKES A LOG IN SCRAPS: what `jug_open`, `jug_take` and `jug_end` (jugastilum/src) write and answer, one after the other. Promises proves what is claimed; this page has no
-- proof.
-- `box_opened` (box_calls/specs/Calls), `took_in`, `box_taken` and `end_in` (box_radio/specs/Radios) are by the contracts of these functions the box that is opened, what a scrap gives, the
-- box behind it, and what the end says. Each reads the words anew, so a box that is stored between two of them and loaded again goes on as if nothing had happened.
use Rattle.std.specs.Prelude.{ℕ, ◌≤◌, ◌<◌, ◌≡◌, List, [], ◌∷◌, ◌++◌, length, get_or, Ok}
use Rattle.meaning.specs.Formula.{Formula}
use Rattle.meaning.specs.Run.{Plant}
use Rattle.meaning.specs.Limits.{AcceptedTable}
use Rattle.opened.specs.Opened.{fair_in, label_in, next_in, opened_of}
use Rattle.transcript.specs.Said.{bytes}
use Rattle.front_door.specs.FrontDoor.{SaysTable}
use Rattle.front_door.specs.WholeLog.{SaysBare}
use Rattle.scraps.specs.Calls.{longest}
use Rattle.cuttings.specs.Scraps.{Scrap, text}
use Rattle.scraps_right.specs.Claims.{Roomy, one_more, said_by_all, end_of_all}
use Rattle.scraps_right.specs.ScrapsRight.{Heeds}
use Rattle.box_calls.specs.Calls.{box_opened}
use Rattle.box_radio.specs.Radios.{took_in, end_in, box_taken}

-- the words of a box behind some scraps
unfoldable pub box_behind : List ℕ → List Scrap → List ℕ
box_behind w [] = w
box_behind w (s ∷ ss) = box_behind (box_taken w (took_in w s.bytes s.room).taken) ss

-- the verdicts that these wrote, one behind the other
unfoldable pub box_said : List ℕ → List Scrap → List ℕ
box_said w [] = []
box_said w (s ∷ ss) = (took_in w s.bytes s.room).verdicts ++ box_said (box_taken w (took_in w s.bytes s.room).taken) ss

-- a scrap has bytes, as its type tells
abbrev pub Bytes : List Scrap → Type 0
Bytes [] = Unit {0}
Bytes (s ∷ ss) = ((i : ℕ) → get_or s.bytes i 0 < 256) × Bytes ss

-- behind any scraps: the verdicts written are those of the calls, the end says what they say, and one scrap more gets their answer
pub record TakesAsCalls (table rule box : List ℕ) (ss : List Scrap) : Type 0 where
  pub writes : box_said box ss ≡ said_by_all table rule ss
  pub ends : end_in (box_behind box ss) ≡ end_of_all table rule ss
  pub answers : (s : Scrap)
      → let o = opened_of table rule in
      (took_in (box_behind box ss) s.bytes s.room).taken.answer ≡ (one_more o.table.plant (fair_in o.table) (label_in o.table) (next_in o.table) o.rule o.live o.monitor ss s).taken.answer

-- A BOX OPENED BY TEXTS, whatever its words were before, and any scraps at all, refused ones among them
abbrev pub BoxTakes : Type 0
BoxTakes = (table rule : List ℕ) → (opened_of table rule).outcome ≡ Ok tt → (w : List ℕ) (ss : List Scrap) → Bytes ss → TakesAsCalls table rule (box_opened w (opened_of table rule)) ss

-- FROM THE BYTES HANDED TO THE BOX to what the runs of the plant dictate: texts that say an accepted table and a rule, and scraps with room for their verdicts, of a log that is not too
-- long
abbrev pub BoxRight : Type 0
BoxRight = (table rule : List ℕ) (t : Plant) (f : Formula) → SaysTable (bytes table) t → AcceptedTable t → SaysBare rule t.props f → (w : List ℕ) (ss : List Scrap) → Bytes ss → Roomy ss
    → length (text ss) ≤ longest
    → let box = box_opened w (opened_of table rule) in Heeds t f (text ss) (box_said box ss) (end_in (box_behind box ss))
