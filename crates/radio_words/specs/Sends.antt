-- WHAT THE CALLS PUT IN CAN BE PUT IN: the radio that has heard nothing is one (`silent_sendable`), and so is that behind every scrap of one (`take_sendable`). So with
-- `radio_back` a box that is kept between any two scraps gives the radio back as it was.
use Rattle.std.specs.Prelude.{ℕ, zero, suc, ◌+◌, ◌<◌, ◌≡◌, Bool, cond, ltb, length, take, get_or, replicate, Ok, Err}
use Rattle.std.proofs.Common.{arith, ap}
use Rattle.std.proofs.Math.Decide.{dec_lt}
use Rattle.std.proofs.Math.Path.{refl, subst}
use Rattle.std.proofs.Math.Bool.{true, false}
use mathlib.Core.List.{List, [], ◌∷◌, ◌++◌}
use Rattle.std.proofs.lemmas.List.{length-replicate}
use Rattle.std.proofs.Math.ListN.{get_or-eq_default}
use Rattle.words.specs.Lists.{list_at, zeros}
use Rattle.pairs.specs.declared.Pairs.{Pairs}
use Rattle.answers.specs.declared.Kind.{Kind}
use Rattle.answers.specs.declared.Kind.TheVariants.{IllegalEvent, LogText, Number}
use Rattle.answers.specs.declared.Refusal.{Refusal}
use Rattle.answers.specs.Results.{Answer}
use Rattle.answers.specs.Results.{Outcome}
use Rattle.answers.specs.Paper.{refused_at}
use Rattle.plant.specs.declared.Plant.{Plant}
use Rattle.syntax.specs.declared.Rule.{Rule}
use Rattle.text.specs.Number.{width_of}
use Rattle.event_log.specs.declared.Event.{Event}
use Rattle.event_log.specs.Legal.{legal_of}
use Rattle.event_log.specs.Read.{bytes_in, event_at}
use Rattle.checks.specs.Input.{input_accepted}
use Rattle.ways.specs.declared.Ways.{Ways}
use Rattle.ways.specs.Ways.{ways_of}
use Rattle.sides.specs.declared.Monitor.{Monitor}
use Rattle.event_numbers.specs.Numbers.{event_outcome, in_turn, number_of}
use Rattle.sides.specs.Sides.{taken_in}
use Rattle.monitor.specs.declared.Watched.{Watched}
use Rattle.monitor.specs.Calls.{step_call}
use Rattle.course.specs.Course.{turn_of, turn}
use Rattle.radio.specs.declared.Form.TheVariants.{Unknown}
use Rattle.radio.specs.declared.Radio.{Radio}
use Rattle.radio.specs.Radio.{Heard, begins, stopped, kept, answered, ended, byte_heard, hear, hear_all}
use Rattle.radio.specs.Kept.{padded, heard_by, radio_of}
use Rattle.radio.specs.Laws.{padded_long}
use Rattle.radio.proofs.Ending.{all_called}
use Rattle.scraps.specs.Calls.{took_by, take_outcome, take_call}
use Rattle.scraps.specs.Laws.{take_parts, fitting}
use Rattle.radio_words.specs.Promises.{Stands, nothing, illegal, byte, number, Sendable}

-- ---- bytes

abbrev Bytes : List ℕ → Type 0
Bytes q = (i : ℕ) → get_or q i 0 < 256

none : Bytes []
none zero = omega arith
none (suc i) = omega arith

bytes_more : (q : List ℕ) (b : ℕ) → Bytes q → b < 256 → Bytes (q ++ b ∷ [])
bytes_more [] b small l zero = l
bytes_more [] b small l (suc i) = none i
bytes_more (x ∷ q) b small l zero = small zero
bytes_more (x ∷ q) b small l (suc i) = bytes_more q b (λ k. small (suc k)) l i

bytes_front : (n : ℕ) (q : List ℕ) → Bytes q → Bytes (take n q)
bytes_front zero q small i = none i
bytes_front (suc n) [] small i = none i
bytes_front (suc n) (x ∷ q) small zero = small zero
bytes_front (suc n) (x ∷ q) small (suc i) = bytes_front n q (λ k. small (suc k)) i

bytes_padded : (q : List ℕ) → Bytes q → Bytes (padded q)
unfolding padded
bytes_padded q small i = elim (dec_lt i 40) [
  | yes l ↦ rw (list_at 40 (λ k. get_or q k 0) i l) (small i)
  | no l ↦ omega (arith, get_or-eq_default (padded q) 0 {n = i} (omega (arith, padded_long q, l)))
]

-- ---- byte after byte

record Sound (h : Heard) : Type 0 where
  bytes : Bytes h.ear.part
  stands : Stands h.ear.standing

-- an answer that refuses an event does so by 10 or 16
abbrev Refuses : Answer → Type 0
Refuses a = (r : Refusal) → a ≡ Err r → (place : ℕ) → Stands (Err (refused_at r.kind place))

module _ (w : ℕ) (step : Monitor → Event → Watched) (refuses : (m : Monitor) (e : Event) → Refuses (step m e).answer) where
  sound_answered : (h : Heard) (q : List ℕ) (s : Watched) (a : Answer) → Refuses a → Sound (answered h q s a)
  sound_answered h q s (Ok l) by = record { bytes = none; stands = nothing }
  sound_answered h q s (Err r) by = record { bytes = none; stands = by r refl h.ear.start }

  sound_byte : (h : Heard) (b : ℕ) (o : Outcome) → b < 256 → Sound h → Sound (byte_heard w step o h b)
  sound_byte h b (Err r) l sound = sound
  sound_byte h b (Ok _) l sound = by_tests (begins w h.ear.form q) (ltb (length q) (bytes_in w q))
    where
      q : List ℕ
      q = h.ear.part ++ b ∷ []

      by_tests : (t u : Bool) → Sound (cond t (cond u (kept h q) (ended w step h q)) (stopped h (refused_at LogText (h.ear.start + length h.ear.part))))
      by_tests true true = record { bytes = bytes_more h.ear.part b sound.bytes l; stands = sound.stands }
      by_tests true false = sound_answered h q (step h.ear.monitor (event_at w q 0)) (step h.ear.monitor (event_at w q 0)).answer (refuses h.ear.monitor (event_at w q 0))
      by_tests false u = record { bytes = none; stands = byte (h.ear.start + length h.ear.part) }

  sound_all : (s : List ℕ) (h : Heard) → Bytes s → Sound h → Sound (hear_all w step h s)
  unfolding hear
  sound_all [] h small sound = sound
  sound_all (b ∷ s) h small sound = sound_all s (hear w step h b) (λ i. small (suc i)) (sound_byte h b h.ear.standing (small zero) sound)

-- ---- by what an event is refused

abbrev kind_in : Answer → Kind
kind_in (Err r) = r.kind
kind_in (Ok l) = Number

module _ (p : Plant) (label next : List ℕ) (ways : Ways) (live : Pairs) (m : Monitor) (e : Event) where
  turn_refuses : Refuses (turn p label next ways live m e).answer
  unfolding event_outcome
  turn_refuses = by_tests (legal_of e p.props) (in_turn m.seen m.expected (number_of e.num m.expected))
    where
      by_tests : (legal fits : Bool)
          → Refuses (turn_of (cond legal (cond fits (Ok tt) (Err (refused_at Number 0))) (Err (refused_at IllegalEvent 0))) m (taken_in label next ways live.words m e)).answer
      by_tests true true r is place = subst (λ (k : Kind). Stands (Err (refused_at k place))) (ap kind_in is) (number place)
      by_tests true false r is place = subst (λ (k : Kind). Stands (Err (refused_at k place))) (ap kind_in is) (number place)
      by_tests false fits r is place = subst (λ (k : Kind). Stands (Err (refused_at k place))) (ap kind_in is) (illegal place)

-- ---- the calls

-- the radio that has heard nothing
pub silent_sendable : (m : Monitor) → Sendable (record { part = replicate 40 0; len = 0; start = 0; form = Unknown; standing = Ok tt; monitor = m })
silent_sendable m = record { long = length-replicate {A = ℕ} 40 0; small = λ i. rw (zeros 40 i) (omega arith); stands = nothing }

module _ (p : Plant) (fair label next : List ℕ) (rule : Rule) (full : length rule.nodes ≡ 32) (live : Pairs) (r : Radio) (sends : Sendable r) (scrap : List ℕ) (small : (i : ℕ) → get_or scrap i 0 < 256) (room : ℕ) where
  pub take_sendable : Sendable (take_call p fair label next rule live r scrap room).taken.radio
  unfolding take_call radio_of
  take_sendable = by_outcome (take_outcome p fair label next rule live r scrap room) refl
    where
      behind : Heard
      behind = hear_all (width_of p.props) (step_call p fair label next rule live) (heard_by r []) scrap

      by_outcome : (o : Outcome) → take_outcome p fair label next rule live r scrap room ≡ o → Sendable (took_by o r behind).taken.radio
      by_outcome (Err x) e = sends
      by_outcome (Ok _) e =
          let g = fitting p fair label next rule live r (take_parts p fair label next rule live r scrap room e).0 in
          let called = all_called p fair label next rule ((input_accepted p fair label next rule full).0 g.input) live g.lives (width_of p.props) scrap (heard_by r []) g.held in
          let sound = subst Sound called
          (sound_all (width_of p.props) (turn p label next (ways_of label rule) live) (turn_refuses p label next (ways_of label rule) live) scrap (heard_by r []) small
          (record { bytes = bytes_front r.len r.part sends.small; stands = sends.stands })) in
          record { long = padded_long behind.ear.part; small = bytes_padded behind.ear.part sound.bytes; stands = sound.stands }
