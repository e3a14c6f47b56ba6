-- The monitor on words: its opening, its step, its verdict and the states left, for any live set handed in.
use Rattle.std.specs.Prelude.{ℕ, Bool, true, false, not, cond, get_or}
use Rattle.std.specs.Bool.{beq}
use mathlib.Core.List.{List, foldl}
use Rattle.std.specs.Int.Bits.{bit_and}
use Rattle.words.specs.Below.{word_of, words_below}
use Rattle.pairs.specs.Sets.{join_of, empty_of, left_of}
use Rattle.moves.specs.Image.{reached_at}
use Rattle.labels.specs.Labels.{agreeing_of}
use Rattle.meaning.specs.Formula.{Formula}
use Rattle.meaning.specs.Run.{Plant, label_of}
use Rattle.meaning.specs.Event.{Event}
use Rattle.meaning.specs.Verdict.{verdict_of}
use Rattle.meaning.specs.Step.{value}
use Rattle.model.specs.Moves.{from, to}
use Rattle.model.specs.LiveSet.{valuations}

-- whether an event came, and the sets of the runs that keep the rule and that break it
pub record Monitor : Type 0 where
  pub seen : Bool
  pub keeps : List ℕ
  pub breaks : List ℕ

abbrev pub side : Monitor → Bool → List ℕ
side m b = cond b m.keeps m.breaks

-- the states at which the rule, where its parts have the values v, has the value b
unfoldable pub holding : Plant → Formula → Bool → ℕ → ℕ
holding T f b v = word_of T.states (λ s. beq (value f 0 (label_of T s) v) b)

-- where the moves of a set lead
abbrev pub led_at : Plant → Formula → List ℕ → ℕ → ℕ
led_at T f old w = reached_at T.next old (from T f) (to T f) (valuations T f) w

module _ (T : Plant) (f : Formula) (live : List ℕ) where
  -- the live pairs at starting states where the rule has the value b
  unfoldable pub opens_at : Bool → ℕ → ℕ
  opens_at b v = bit_and (bit_and (get_or live v 0) T.start) (holding T f b v)

  unfoldable pub opening : Monitor
  opening = record { seen = false; keeps = words_below (valuations T f) (opens_at true); breaks = words_below (valuations T f) (opens_at false) }

  -- what the new pairs of side b come from: at the first event the pairs held; at a restart after it the moves of both sets, where the rule has
  -- the value b; otherwise the moves of the side
  unfoldable pub source_at : Monitor → Bool → Bool → ℕ → ℕ
  source_at m new b w =
      cond m.seen
      (cond new (bit_and (led_at T f (join_of m.keeps m.breaks) w) (holding T f b w)) (led_at T f (side m b) w))
      (get_or (side m b) w 0)

  -- of these, the live ones whose label agrees
  unfoldable pub kept_of : Monitor → Event → Bool → List ℕ
  kept_of m e b =
      words_below (valuations T f) (λ w. bit_and (bit_and (get_or live w 0) (agreeing_of T.label e.seen.see e.seen.val)) (source_at m e.new b w))

  unfoldable pub step_of : Monitor → Event → Monitor
  step_of m e = record { seen = true; keeps = kept_of m e true; breaks = kept_of m e false }

  -- after a list of events
  unfoldable pub run_of : List Event → Monitor
  run_of es = foldl step_of opening es

-- what is shown: the verdict, by whether the sets are occupied, and the number of table states left in them
unfoldable pub verdict : Monitor → ℕ
verdict m = verdict_of (not (empty_of m.keeps)) (not (empty_of m.breaks))

unfoldable pub left : Monitor → ℕ
left m = left_of m.keeps m.breaks
