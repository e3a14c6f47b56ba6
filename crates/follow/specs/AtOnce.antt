-- What the program asks of a scrap: that it ends at most one event's line, and that the log gets longer by it.
use Rattle.std.specs.Prelude.{ℕ, ◌+◌, ◌≤◌, ◌<◌, Bool, true, false}
use Rattle.std.proofs.Math.Bool.{So}
use Rattle.controller.specs.declared.LogAnswer.{LogAnswer}
use Rattle.controller.specs.declared.LogAnswer.TheVariants.{Watched, Stopped, Refused}
use Rattle.radio.specs.declared.Radio.{Radio}
use Rattle.scraps.specs.Calls.{longest}

-- how many events a scrap answered, also before a refusal
abbrev pub events_in : LogAnswer → ℕ
events_in (Watched e) = e.count
events_in (Stopped s) = s.event
events_in (Refused r) = 0

-- a refusal ends the log
abbrev pub goes_on : LogAnswer → Bool
goes_on (Watched e) = true
goes_on (Stopped s) = false
goes_on (Refused r) = false

-- how many bytes of the log were heard
abbrev pub bytes_heard : Radio → ℕ
bytes_heard r = r.start + r.len

-- where more is listened to, the log got longer, and is no longer than one may be
pub record Onward (before : Radio) (more : Bool) (now : Radio) : Type 0 where
  pub longer : So more → bytes_heard before < bytes_heard now
  pub short : So more → bytes_heard now ≤ longest
