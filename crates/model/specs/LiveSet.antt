-- The live set worked out on words: from all pairs, drop again and again those from which some goal is not reached, until nothing changes.
use Rattle.std.specs.Prelude.{ℕ, ◌-◌, ◌^◌, get_or}
use mathlib.Core.List.{List, ◌++◌, map, foldl}
use Rattle.std.specs.Int.Bits.{bit_and}
use Rattle.words.specs.Below.{word_of, words_below}
use Rattle.pairs.specs.Sets.{join_of, same_of}
use Rattle.moves.specs.Leading.{leading_of}
use Rattle.meaning.specs.Formula.{Formula, parts}
use Rattle.meaning.specs.Run.{Plant, label_of}
use Rattle.meaning.specs.Step.{Part, table}
use Rattle.theory.specs.Move.{settled}
use Rattle.model.specs.Settle.{settle}
use Rattle.model.specs.Moves.{from, to}

-- the pairs that are in both sets
unfoldable pub meet_of : List ℕ → List ℕ → List ℕ
meet_of p q = words_below 64 (λ v. bit_and (get_or p v 0) (get_or q v 0))

-- times enough: once for each of 64 * 64 pairs, and once to see that nothing changes
abbrev pub enough : ℕ
enough = 4097

module _ (T : Plant) (f : Formula) where
  -- how many valuations the rule has
  abbrev pub valuations : ℕ
  valuations = 2 ^ parts f

  -- the pairs with a move into B
  unfoldable pub before : List ℕ → List ℕ
  before B = leading_of T.next (from T f) (to T f) valuations B

  -- one sweep: B, and the pairs of Z with a move into it
  unfoldable pub widen : List ℕ → List ℕ → List ℕ
  widen Z B = join_of B (meet_of Z (before B))

  -- the pairs of Z that reach the goal G within Z
  unfoldable pub reaching : List ℕ → List ℕ → List ℕ
  reaching Z G = settle (widen Z) same_of enough (meet_of Z G)

  -- what a loop has to meet: each fairness set, and each part settled
  abbrev pub fair_set : ℕ → List ℕ
  fair_set J = words_below valuations (λ v. J)

  abbrev pub settled_set : Part → List ℕ
  settled_set c = words_below valuations (λ v. word_of T.states (λ s. settled c (label_of T s) v))

  unfoldable pub goal_sets : List (List ℕ)
  goal_sets = map fair_set T.fair ++ map settled_set (table f 0)

  -- one round: the pairs of Z with a move into Z, and of these, goal by goal, those that reach it
  unfoldable pub narrow : List ℕ → List ℕ
  narrow Z = foldl reaching (meet_of Z (before Z)) goal_sets

  -- every pair of the table and the rule
  unfoldable pub all_pairs : List ℕ
  all_pairs = words_below valuations (λ v. 2 ^ T.states - 1)

  -- the live set
  unfoldable pub live_set : List ℕ
  live_set = settle narrow same_of enough all_pairs
