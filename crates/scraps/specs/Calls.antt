-- WHAT THE TWO CALLS ANSWER: the checks in their order, and behind them the bytes of the scrap one by one.
use Rattle.std.specs.Prelude.{ℕ, ◌+◌, Bool, cond, ◌&&◌, List, [], leb, ltb, eqb, length, get_or, Ok, Err}
use Rattle.words.specs.Below.{count_below}
use Rattle.pairs.specs.declared.Pairs.{Pairs}
use Rattle.model.specs.Checks.{pairs_ok}
use Rattle.answers.specs.declared.Kind.TheVariants.{Value, Room, LogText, LogLength}
use Rattle.answers.specs.Results.{Outcome}
use Rattle.answers.specs.Paper.{refused_at}
use Rattle.answers.specs.Chain.{and_then, unless}
use Rattle.plant.specs.declared.Plant.{Plant}
use Rattle.syntax.specs.declared.Rule.{Rule}
use Rattle.text.specs.Number.{width_of}
use Rattle.sides.specs.declared.Monitor.{Monitor}
use Rattle.monitor.specs.Calls.{table, formula, checked_of, monitor_fits, step_call}
use Rattle.controller.specs.declared.LogAnswer.{LogAnswer}
use Rattle.controller.specs.declared.LogAnswer.TheVariants.{Watched, Stopped, Refused}
use Rattle.radio.specs.declared.Radio.{Radio}
use Rattle.radio.specs.Radio.{Heard, hear_all}
use Rattle.radio.specs.Kept.{radio_of, heard_by, kept_ok}
use Rattle.scraps.specs.declared.Taken.{Taken}

-- the most bytes of a log
abbrev pub longest : ℕ
longest = 4294967295

-- how many line ends a scrap has, wherever they stand
unfoldable pub lines_in : List ℕ → ℕ
lines_in s = count_below (length s) (λ i. eqb (get_or s i 0) 10)

-- what is kept begins a line and is not whole, and is no more than a log may have
unfoldable pub part_fits : ℕ → Radio → Bool
part_fits props r = ltb r.len 40 && (leb (r.start + r.len) longest && kept_ok (width_of props) r)

-- 11, and then 24
unfoldable pub room_outcome : List ℕ → ℕ → ℕ → Outcome
room_outcome scrap room taken = and_then (unless (leb (lines_in scrap) room) Room) (unless (leb (taken + length scrap) longest) LogLength)

-- a scrap's answer: how many verdicts it gave; or the refusal, with how many came before it
abbrev pub heard_answer : Outcome → ℕ → LogAnswer
heard_answer (Ok _) n = Watched (record { count = n })
heard_answer (Err r) n = Stopped (record { refusal = r; event = n })

-- what a call gives, and the verdict bytes that it writes
pub record Took : Type 0 where
  pub taken : Taken
  pub verdicts : List ℕ

abbrev pub heard_as : Heard → Took
heard_as h = record { taken = record { answer = heard_answer h.ear.standing (length h.verdicts); radio = radio_of h.ear }; verdicts = h.verdicts }

-- behind the checks: a refusal takes nothing
abbrev pub took_by : Outcome → Radio → Heard → Took
took_by (Ok _) r h = heard_as h
took_by (Err x) r h = record { taken = record { answer = Refused x; radio = r }; verdicts = [] }

-- where the log ends: 12 at its length, where a line is not whole
abbrev pub end_outcome : Radio → Outcome
end_outcome r = cond (eqb r.len 0) (Ok tt) (Err (refused_at LogText (r.start + r.len)))

module _ (p : Plant) (fair label next : List ℕ) (rule : Rule) (live : Pairs) where
  -- 1, 2 and 9: the table, the rule, the live set and the monitor
  unfoldable pub held_outcome : Monitor → Outcome
  held_outcome m = checked_of p fair label next rule (pairs_ok (table p fair label next rule) (formula p fair label next rule) live.words && monitor_fits p fair label next rule m)

  -- 9 for what is kept with them, and then the refusal that stands
  unfoldable pub kept_outcome : Radio → Outcome
  kept_outcome r = and_then (held_outcome r.monitor) (and_then (unless (part_fits p.props r) Value) r.standing)

  unfoldable pub take_outcome : Radio → List ℕ → ℕ → Outcome
  take_outcome r scrap room = and_then (kept_outcome r) (room_outcome scrap room (r.start + r.len))

  -- A SCRAP, and a buffer of so many bytes
  unfoldable pub take_call : Radio → List ℕ → ℕ → Took
  take_call r scrap room = took_by (take_outcome r scrap room) r (hear_all (width_of p.props) (step_call p fair label next rule live) (heard_by r []) scrap)

  -- THE END
  unfoldable pub finish_call : Radio → Outcome
  finish_call r = and_then (kept_outcome r) (end_outcome r)
