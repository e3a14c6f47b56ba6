-- With tables that hold what they must, the halves are the moves of the rule.
use Rattle.std.specs.Prelude.{ℕ, ◌^◌, ◌<◌, ◌≡◌, true, false, List, get_or}
use Rattle.std.proofs.Common.{lt_of_lt_of_le, ◌∙◌}
use Rattle.std.proofs.Math.Path.{ap}
use Rattle.std.specs.Int.Bits.{bit_and}
use Rattle.meaning.specs.Bit.{bit}
use Rattle.words.specs.Lists.{words_same}
use Rattle.moves.specs.Image.{image_of}
use Rattle.moves.specs.Leading.{leading_of}
use Rattle.meaning.specs.Formula.{Formula, parts}
use Rattle.meaning.specs.Run.{Plant}
use Rattle.meaning.specs.Limits.{AcceptedTable, Small}
use Rattle.theory.specs.Parts.{part_of}
use Rattle.theory.proofs.Alive.{valuations_few}
use Rattle.model.specs.Sets.{PairSet}
use Rattle.model.specs.Moves.{from, to}
use Rattle.model.specs.LiveSet.{before}
use Rattle.model.specs.Code.{reached_same, leading_same}
use Rattle.model.specs.Tables.{unfolds, is_next, operand_of, Rows, fitting_from_lem, meeting_to}
use Rattle.leads.specs.Halves.{leaving_of, entering_of, from_in, to_in}
use Rattle.leads.specs.Laws.{leaving_fits, entering_meets}

module _ (T : Plant) (f : Formula) (A : AcceptedTable T) (small : Small f) (lows highs : List ℕ) (nexts : ℕ) (operands : List ℕ)
    (p : Rows T f lows (λ c. unfolds c false)) (q : Rows T f highs (λ c. unfolds c true))
    (x : (k : ℕ) → k < parts f → bit nexts k ≡ is_next (part_of f k)) (o : Rows T f operands operand_of) where
  abbrev leave : ℕ → ℕ → ℕ
  leave = from_in (leaving_of (parts f) lows highs)

  abbrev enter : ℕ → ℕ → ℕ
  enter = to_in (entering_of (parts f) nexts operands)

  low : (v : ℕ) → v < 2 ^ parts f → v < 64
  low v l = lt_of_lt_of_le l (valuations_few f small)

  -- the states of the table that a move may leave, and those that it may enter
  pub from_halves : (v w s : ℕ) → v < 2 ^ parts f → w < 2 ^ parts f → s < T.states → bit (leave v w) s ≡ bit (from T f v w) s
  from_halves v w s lv lw ls =
      ap (λ (y : ℕ). bit y s) (leaving_fits (parts f) lows highs v w (low v lv) (low w lw)) ∙ fitting_from_lem T f A lows highs p q v w s lv ls

  pub to_halves : (v w t : ℕ) → v < 2 ^ parts f → w < 2 ^ parts f → t < T.states → bit (enter v w) t ≡ bit (to T f v w) t
  to_halves v w t lv lw lt =
      ap (λ (y : ℕ). bit y t) (entering_meets (parts f) nexts operands v w (low v lv) (low w lw)) ∙ meeting_to T f A nexts operands x o v w t lw lt

  -- so a step, and the pairs with a move into a set, are those of the definitions
  module _ (Z : List ℕ) (z : PairSet T f Z) where
    pub image_halves : (live : List ℕ) (agree : ℕ)
        → image_of T.next Z leave enter (2 ^ parts f) live agree ≡ image_of T.next Z (from T f) (to T f) (2 ^ parts f) live agree
    unfolding image_of
    image_halves live agree =
        words_same (2 ^ parts f) _ _ (λ w lw. ap (bit_and (bit_and (get_or live w 0) agree)) (reached_same T f A Z z leave enter from_halves to_halves w lw))

    pub before_halves : leading_of T.next leave enter (2 ^ parts f) Z ≡ before T f Z
    unfolding leading_of before
    before_halves = words_same (2 ^ parts f) _ _ (leading_same T f A Z z leave enter from_halves to_halves)
