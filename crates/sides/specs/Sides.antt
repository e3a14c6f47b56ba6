-- The two sides of a monitor, as code makes them of what a rule says.
use Rattle.std.specs.Prelude.{ℕ, zero, suc, ◌+◌, ◌-◌, ◌^◌, Bool, true, false, cond, List, get_or}
use Rattle.std.specs.Int.Bits.{bit_and}
use Rattle.words.specs.Below.{words_below}
use Rattle.pairs.specs.Sets.{join_of}
use Rattle.moves.specs.Image.{image_of}
use Rattle.leads.specs.Halves.{from_in, to_in}
use Rattle.labels.specs.Labels.{agreeing_of}
use Rattle.event_log.specs.declared.Event.{Event}
use Rattle.ways.specs.declared.Ways.{Ways}
use Rattle.sides.specs.declared.Monitor.{Monitor}
use Rattle.event_numbers.specs.Numbers.{number_of, missing_of}

abbrev pub sides_of : ℕ → Bool → List ℕ → List ℕ → Monitor
sides_of expected seen keeps breaks = record { seen = seen; keeps = record { words = keeps }; breaks = record { words = breaks }; expected = expected }

-- the states where the rule has the value `keeps`, by where it holds
abbrev pub value_in : List ℕ → Bool → ℕ → ℕ
value_in holds keeps v = cond keeps (get_or holds v 0) (2 ^ 64 - 1 - get_or holds v 0)

-- of each word of `held`, the states of `among` with that value
abbrev pub split_in : List ℕ → ℕ → List ℕ → Bool → ℕ → ℕ
split_in held among holds keeps v = bit_and (bit_and (get_or held v 0) among) (value_in holds keeps v)

unfoldable pub split_of : List ℕ → ℕ → List ℕ → Bool → List ℕ
split_of held among holds keeps = words_below 64 (split_in held among holds keeps)

-- of the pairs held, the live ones with states of `agree`
abbrev pub cut_in : List ℕ → List ℕ → ℕ → ℕ → ℕ
cut_in held live agree v = bit_and (bit_and (get_or live v 0) agree) (get_or held v 0)

unfoldable pub cut_of : List ℕ → List ℕ → ℕ → List ℕ
cut_of held live agree = words_below 64 (cut_in held live agree)

-- both sides, before any event
unfoldable pub opened_by : ℕ → List ℕ → List ℕ → Monitor
opened_by start holds live = sides_of 0 false (split_of live start holds true) (split_of live start holds false)

-- with no move, and with one
unfoldable pub kept_of : Monitor → List ℕ → ℕ → Monitor
kept_of m live agree = sides_of m.expected true (cut_of m.keeps.words live agree) (cut_of m.breaks.words live agree)

unfoldable pub moved_by : List ℕ → List ℕ → List ℕ → ℕ → List ℕ → Monitor → ℕ → Monitor
moved_by next leave enter count live m agree =
    sides_of m.expected true (image_of next m.keeps.words (from_in leave) (to_in enter) count live agree) (image_of next m.breaks.words (from_in leave) (to_in enter) count live agree)

-- where both sides lead
abbrev pub reached_by : List ℕ → List ℕ → List ℕ → ℕ → List ℕ → Monitor → ℕ → List ℕ
reached_by next leave enter count live m agree = image_of next (join_of m.keeps.words m.breaks.words) (from_in leave) (to_in enter) count live agree

-- and that split anew: a restart
unfoldable pub restarted_by : List ℕ → List ℕ → List ℕ → List ℕ → ℕ → List ℕ → Monitor → ℕ → Monitor
restarted_by next leave enter holds count live m agree =
    let reached = reached_by next leave enter count live m agree in sides_of m.expected true (split_of reached agree holds true) (split_of reached agree holds false)

-- by all that a rule says
abbrev pub moved_in : List ℕ → Ways → List ℕ → Monitor → ℕ → Monitor
moved_in next w live m agree = moved_by next w.leave w.enter w.count live m agree

abbrev pub restarted_in : List ℕ → Ways → List ℕ → Monitor → ℕ → Monitor
restarted_in next w live m agree = restarted_by next w.leave w.enter w.holds w.count live m agree

-- at the first event the pairs held, at a restart the moves of both sides split anew, else the moves of each
unfoldable pub advanced_by : List ℕ → List ℕ → List ℕ → List ℕ → List ℕ → ℕ → List ℕ → Monitor → Event → Monitor
advanced_by label next leave enter holds count live m e =
    let agree = agreeing_of label e.see e.val in
    cond m.seen (cond e.new (restarted_by next leave enter holds count live m agree) (moved_by next leave enter count live m agree)) (kept_of m live agree)

-- by all that a rule says
abbrev pub advanced_in : List ℕ → List ℕ → Ways → List ℕ → Monitor → Event → Monitor
advanced_in label next w live m e = advanced_by label next w.leave w.enter w.holds w.count live m e

-- ---- with numbers

-- behind so many events of which nothing was seen
unfoldable pub caught_up_by : List ℕ → List ℕ → List ℕ → List ℕ → ℕ → List ℕ → Monitor → ℕ → Monitor
caught_up_by label next leave enter count live m zero = m
caught_up_by label next leave enter count live m (suc k) = moved_by next leave enter count live (caught_up_by label next leave enter count live m k) (agreeing_of label 0 0)

-- and then behind an event
abbrev pub came_by : List ℕ → List ℕ → List ℕ → List ℕ → List ℕ → ℕ → List ℕ → Monitor → ℕ → Event → Monitor
came_by label next leave enter holds count live m k e = advanced_by label next leave enter holds count live (caught_up_by label next leave enter count live m k) e

-- another number is expected
abbrev pub expecting : ℕ → Monitor → Monitor
expecting n m = record { seen = m.seen; keeps = m.keeps; breaks = m.breaks; expected = n }

-- by all that a rule says
abbrev pub caught_up_in : List ℕ → List ℕ → Ways → List ℕ → Monitor → ℕ → Monitor
caught_up_in label next w live m k = caught_up_by label next w.leave w.enter w.count live m k

abbrev pub came_in : List ℕ → List ℕ → Ways → List ℕ → Monitor → ℕ → Event → Monitor
came_in label next w live m k e = came_by label next w.leave w.enter w.holds w.count live m k e

-- an event with its number: those missing before it, and then itself; behind it the next number is expected
abbrev pub taken_in : List ℕ → List ℕ → Ways → List ℕ → Monitor → Event → Monitor
taken_in label next w live m e =
    let n = number_of e.num m.expected in came_in label next w live (expecting (n + 1) m) (missing_of m.seen m.expected n) e
