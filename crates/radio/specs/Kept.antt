-- The radio as code keeps it, and what the code says of a piece.
use Rattle.std.specs.Prelude.{ℕ, ◌+◌, ◌-◌, ◌^◌, ◌≤◌, ◌<◌, ◌≡◌, Bool, false, cond, ◌&&◌, List, [], ◌∷◌, ◌++◌, ltb, leb, length, take, get_or, set, replicate, Ok, Err}
use Rattle.words.specs.Below.{list_below}
use Rattle.answers.specs.declared.Kind.TheVariants.{LogText}
use Rattle.answers.specs.declared.Refusal.{Refusal}
use Rattle.answers.specs.Results.{Answer}
use Rattle.answers.specs.Results.{Outcome}
use Rattle.answers.specs.Paper.{number_of, refused_at}
use Rattle.event_log.specs.declared.Event.{Event}
use Rattle.event_log.specs.Read.{is_numbered, bytes_in, event_at}
use Rattle.plant.specs.declared.Plant.{Plant}
use Rattle.ways.specs.declared.Ways.{Ways}
use Rattle.course.specs.Laid.{laid}
use Rattle.course.specs.Course.{turn}
use Rattle.sides.specs.declared.Monitor.{Monitor}
use Rattle.monitor.specs.declared.Watched.{Watched}
use Rattle.std.specs.Prelude.{Option, None, Some}
use Rattle.radio.specs.declared.Radio.{Radio}
use Rattle.radio.specs.declared.piece.Pieced.{Pieced}
use Rattle.radio.specs.declared.ends.Turned.{Turned}
use Rattle.radio.specs.declared.Went.{Went}
use Rattle.radio.specs.Radio.{Ear, Heard, form_of, good_of, begins}
use Rattle.radio.specs.Pieces.{Kept}

-- ---- the bytes kept

-- forty bytes: those kept, and zeros beyond
unfoldable pub padded : List ℕ → List ℕ
padded q = list_below 40 (λ i. get_or q i 0)

abbrev pub part_of : Radio → List ℕ
part_of r = take r.len r.part

-- what a radio keeps, and the radio that keeps it
abbrev pub ear_of : Radio → Ear
ear_of r = record { part = part_of r; start = r.start; form = r.form; standing = r.standing; monitor = r.monitor }

unfoldable pub radio_of : Ear → Radio
radio_of e = record { part = padded e.part; len = length e.part; start = e.start; form = e.form; standing = e.standing; monitor = e.monitor }

-- and the verdicts given before
abbrev pub heard_by : Radio → List ℕ → Heard
heard_by r vs = record { ear = ear_of r; verdicts = vs }

-- fewer bytes are kept than a line has, they begin one, and so many more are not too many for a log
pub record Fit (w : ℕ) (r : Radio) (more : ℕ) : Type 0 where
  pub room : r.len ≤ 40
  pub long : length r.part ≡ 40
  pub keep : Kept w r.form (part_of r)
  pub low : r.start + r.len + more < 2 ^ 62

-- the bytes kept begin a line, and are fewer than it has
unfoldable pub kept_ok : ℕ → Radio → Bool
kept_ok w r = ltb (length (part_of r)) (bytes_in w (part_of r)) && begins w r.form (part_of r)

-- ---- a piece

abbrev pub stopped_radio : Radio → Refusal → Radio
stopped_radio r x = record { part = replicate 40 0; len = 0; start = r.start; form = r.form; standing = Err x; monitor = r.monitor }

unfoldable pub lesser_of : ℕ → ℕ → ℕ
lesser_of a b = cond (ltb a b) a b

module _ (w : ℕ) where
  -- the bytes kept with more behind them, where the line has so many: refused at the first that does not fit, or kept, be it whole or not
  abbrev pub joined_piece : Radio → List ℕ → ℕ → ℕ → Pieced
  joined_piece r q took size =
      cond (ltb (good_of w r.form q) (length q)) (record { radio = stopped_radio r (refused_at LogText (r.start + good_of w r.form q)); took = took; whole = false })
      (record { radio = record { part = padded q; len = length q; start = r.start; form = r.form; standing = r.standing; monitor = r.monitor }; took = took; whole = leb size (length q) })

  -- as many bytes as the line has room for
  abbrev pub took_of : Radio → List ℕ → ℕ
  took_of r rest = lesser_of (bytes_in w (part_of r ++ rest) - r.len) (length rest)

  unfoldable pub open_piece : Radio → List ℕ → Pieced
  open_piece r rest = joined_piece r (part_of r ++ take (took_of r rest) rest) (took_of r rest) (bytes_in w (part_of r ++ rest))

  -- behind a refusal the rest is one piece
  abbrev pub piece_of : Outcome → Radio → List ℕ → Pieced
  piece_of (Ok _) r rest = open_piece r rest
  piece_of (Err x) r rest = record { radio = r; took = length rest; whole = false }

-- ---- a line

abbrev pub lit_of : Option ℕ → List ℕ
lit_of None = []
lit_of (Some v) = v ∷ []

-- what a move needs of all that a rule says
abbrev pub ways_by : List ℕ → List ℕ → List ℕ → ℕ → Ways
ways_by leave enter holds count = record { parts = 0; count = count; leave = leave; enter = enter; settled = []; holds = holds }

abbrev pub turn_by : Plant → List ℕ → List ℕ → List ℕ → List ℕ → List ℕ → ℕ → List ℕ → Monitor → Event → Watched
turn_by p label next leave enter holds count live = turn p label next (ways_by leave enter holds count) (record { words = live })

module _ (w : ℕ) (step : Monitor → Event → Watched) where
  abbrev pub answered_turn : Radio → List ℕ → Watched → Answer → Turned
  answered_turn r q s (Ok l) =
      record {
        radio = record { part = replicate 40 0; len = 0; start = r.start + length q; form = form_of (is_numbered q); standing = Ok tt; monitor = s.monitor };
        lit = Some (number_of l.verdict);
      }
  answered_turn r q s (Err x) = record { radio = stopped_radio r (refused_at x.kind r.start); lit = None }

  unfoldable pub ended_turn : Radio → List ℕ → Turned
  ended_turn r q = answered_turn r q (step r.monitor (event_at w q 0)) (step r.monitor (event_at w q 0)).answer

  abbrev pub turned_of : Bool → Radio → Turned
  turned_of whole r = cond whole (ended_turn r (part_of r)) (record { radio = r; lit = None })

-- ---- a scrap

-- verdicts behind others, of which there is at most one
abbrev pub noted_at : List ℕ → ℕ → List ℕ → List ℕ
noted_at l i [] = l
noted_at l i (b ∷ bs) = set l i b

-- what a call says of a scrap: the radio behind it, how many verdicts it gave, and what the buffer then holds
pub record Listened (h : Heard) (before now : List ℕ) (r : Went) : Type 0 where
  pub radio : r.radio ≡ radio_of h.ear
  pub done : r.done ≡ length h.verdicts
  pub bytes : now ≡ laid h.verdicts before
