-- The stretch since the last restart, line after line from the last one back.
use Rattle.std.specs.Prelude.{ℕ, zero, suc, ◌+◌, ◌-◌, Bool, true, ◌&&◌, not, cond, ltb, leb}
use Rattle.meaning.specs.Bit.{bit}
use Rattle.syntax.specs.declared.Rule.{Rule}
use Rattle.event_log.specs.declared.Event.{Event}
use Rattle.event_log.specs.declared.Num.{Num}
use Rattle.event_log.specs.declared.Num.TheVariants.{Expected, Given}
use Rattle.within.specs.Turn.{guesses_of, stack_after, carries_after}
use Rattle.within.specs.Props.{props_of, sees_all}
use Rattle.last_stretch.specs.declared.Back.{Back}
use Rattle.last_stretch.specs.declared.Found.{Found}

-- no number is missing between an event and the one behind it; without numbers none is
abbrev pub joins_at : ℕ → Num → Bool
joins_at n Expected = true
joins_at n (Given m) = leb m (n + 1)

abbrev pub joins : Num → Num → Bool
joins Expected later = true
joins (Given n) later = joins_at n later

-- of n lines, the one at which the stretch begins: the last restart, and the first line where there is none
unfoldable pub begins : (ℕ → Event) → ℕ → ℕ
begins event zero = 0
begins event (suc n) = cond (event n).new n (begins event n)

-- behind the last line
abbrev pub behind_last : Rule → Back
behind_last rule = record { stack = 0; ahead = guesses_of rule.nodes rule.len; num = Expected; all = true; going = true }

-- one line further back, with the propositions that the rule uses
unfoldable pub further_of : Rule → ℕ → Back → Event → Back
further_of rule props b e = record {
  stack = stack_after rule.nodes e.val b.ahead rule.len;
  ahead = carries_after rule.nodes e.val b.ahead rule.len;
  num = e.num;
  all = b.all && (sees_all props e.see && joins e.num b.num);
  going = not e.new;
}

-- what d lines tell, line i the first of them and the log's last one the last
unfoldable pub back_from : Rule → ℕ → (ℕ → Event) → ℕ → ℕ → Back
back_from rule props event zero i = behind_last rule
back_from rule props event (suc d) i = further_of rule props (back_from rule props event d (suc i)) (event i)

-- what the stretch tells, of a log of n lines
abbrev pub stretch_of : Rule → (ℕ → Event) → ℕ → Back
stretch_of rule event n = back_from rule (props_of rule) event (n - begins event n) (begins event n)

abbrev pub found_in : ℕ → Back → Found
found_in n b = record { ready = ltb 0 n && b.all; holds = bit b.stack 0 }

unfoldable pub found_of : Rule → (ℕ → Event) → ℕ → Found
found_of rule event n = found_in n (stretch_of rule event n)
