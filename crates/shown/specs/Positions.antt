-- The positions of a log's events, with those that were not received put in (02, h and l), and the last restart's.
use Rattle.std.specs.Prelude.{ℕ, zero, suc, ◌-◌, Bool, cond}
use Rattle.event_log.specs.declared.Num.{Num}
use Rattle.event_log.specs.declared.Num.TheVariants.{Expected, Given}
use Rattle.event_log.specs.declared.Event.{Event}
use Rattle.event_log.specs.Lead.{given_of}

-- how far a number is behind the first event's
abbrev pub behind_of : Num → ℕ → ℕ
behind_of first n = n - given_of first

-- of a line's event: with a number it is as far behind the first as its number is, and without numbers none is missing
abbrev pub position_of : Num → Num → ℕ → ℕ
position_of first Expected line = line
position_of first (Given n) line = behind_of first n

abbrev pub position_at : (ℕ → Event) → ℕ → ℕ
position_at event n = position_of (event 0).num (event n).num n

-- a restart's position, and else the one so far
abbrev pub later_of : Bool → ℕ → ℕ → ℕ
later_of restart at mark = cond restart at mark

-- of n lines: the last restart's position, and 0 where there is none
unfoldable pub mark_of : (ℕ → Event) → ℕ → ℕ
mark_of event zero = 0
mark_of event (suc n) = later_of (event n).new (position_at event n) (mark_of event n)
