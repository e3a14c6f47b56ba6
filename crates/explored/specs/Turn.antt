-- Turns of exploring in one list.
use Rattle.std.specs.Prelude.{ℕ, ◌+◌, ◌*◌, ◌/◌, ◌%◌, ◌≤◌, ◌<◌, ◌≡◌, List, eqb, length, get_or, set, drop}
use Rattle.std.proofs.Common.{sym, ap, ◌∙◌, arith, add-zero, length-drop, eq-eqb, ne_eqb}
use Rattle.std.proofs.Math.Decide.{ℕ_discrete}
use Rattle.meaning.specs.Says.{Says}
use Rattle.words.specs.Word.{only_of}
use Rattle.words.specs.Below.{first_below}
use Rattle.words.specs.Folds.{all_at, all_of}
use Rattle.words.specs.Lists.{list_of, list_at}
use Rattle.words.specs.Tests.{eq_says}
use Rattle.ways.specs.declared.Ways.{Ways}
use Rattle.machines.specs.First.{First, first_is}
use Rattle.machines.specs.Explored.{MoreThan, exploring_start, exploring_old, exploring_more}
use Rattle.machines.proofs.Explored.{exploring_new}
use Rattle.explored.specs.Blocks.{block_at, stored, block_here, block_other, block_before, cells_behind, cell_stored}
use Rattle.explored.specs.States.{block_after, step_length, word_agrees, same_block, Found}

-- what the comparison of a block says
same_says : (room state : List ℕ) (r : ℕ) → length state ≡ 130 → Says (same_block room state r) (block_at 130 room r ≡ state)
unfolding block_at word_agrees
same_says room state r e = (
  λ a. list_of 130 (λ i. get_or room (r * 130 + i) 0) state e (λ i l. (eq_says (get_or room (r * 130 + i) 0) (get_or state i 0)).0 (all_at 130 (word_agrees room r state) a i l)),
  λ h. all_of 130 (word_agrees room r state) (λ i l. (eq_says (get_or room (r * 130 + i) 0) (get_or state i 0)).1
      (sym (list_at 130 (λ i. get_or room (r * 130 + i) 0) i l) ∙ ap (λ (m : List ℕ). get_or m i 0) h)),
)

module _ {label next : List ℕ} {w : Ways} {live : List ℕ} {opening : List ℕ} {c : ℕ} where
  -- before the first place
  pub found_start : (room : List ℕ) → block_at 130 room 0 ≡ opening → Found label next w live opening c room 0 1
  found_start room e = record { exploring = exploring_start (block_at 130 room) (drop 33280 room) e }

  module _ {room : List ℕ} {places rows : ℕ} (found : Found label next w live opening c room places rows) (left : places < rows * c) (most : rows ≤ 256)
      {row : ℕ} {state : List ℕ} (look : row ≡ first_below rows (same_block room state)) (step : state ≡ block_after label next w live (block_at 130 room (places / c)) (places % c)) where
    -- a state has 130 words
    long : length state ≡ 130
    long = rw step (step_length label next w live (block_at 130 room (places / c)) (places % c))

    -- the row where the next state was looked for
    looked : First rows (same_block room state) row
    looked = rw look (first_is rows (same_block room state))

    -- no row met has it where it was not found
    fresh : row ≡ rows → (r : ℕ) → r < rows → block_at 130 room r ≡ state → ⊥
    fresh e r l h = looked.before r (omega arith) ((same_says room state r long).1 h)

    -- it is stored in its row, and its row in the cell
    pub found_turn : 33280 + places < length room → row < 256
        → Found label next w live opening c (set (stored 130 row state 130 room) (33280 + places) row) (places + 1) (rows + only_of (eqb row rows) 1)
    found_turn enough-long low = record {
      exploring = elim (ℕ_discrete row rows) [
        | yes e ↦ rw (eq-eqb row rows e, cells) (exploring_new found.exploring enough left after kept row there e (λ r l h. fresh e r l (h ∙ here)))
        | no d ↦ rw (ne_eqb row rows d, add-zero, cells) (exploring_old found.exploring enough left after kept row there (omega (arith, looked.bound)))
      ];
    }
      where
        after : ℕ → List ℕ
        after = block_at 130 (set (stored 130 row state 130 room) (33280 + places) row)

        cells : drop 33280 (set (stored 130 row state 130 room) (33280 + places) row) ≡ set (drop 33280 room) places row
        cells = cell_stored 33280 places row (stored 130 row state 130 room) ∙ ap (λ (l : List ℕ). set l places row) (cells_behind 130 row state 130 room 33280 (omega arith))

        enough : places < length (drop 33280 room)
        enough = omega (arith, length-drop 33280 room)

        here : after row ≡ state
        here = block_before 130 33280 places row (stored 130 row state 130 room) row (omega arith) ∙ block_here 130 row state room long (omega arith)

        there : after row ≡ block_after label next w live (block_at 130 room (places / c)) (places % c)
        there = here ∙ step

        kept : (r : ℕ) → r < rows → after r ≡ block_at 130 room r
        kept r l = elim (ℕ_discrete r row) [
          | yes e ↦ ap after e ∙ here ∙ sym ((same_says room state row long).0 (looked.found (omega arith))) ∙ ap (block_at 130 room) (sym e)
          | no d ↦ block_before 130 33280 places row (stored 130 row state 130 room) r (omega arith) ∙ block_other 130 row state room r d
        ]

    -- a state for which there is no row left
    pub found_full : row ≡ 256 → MoreThan c (block_after label next w live) opening 256
    found_full e =
        let all : rows ≡ 256 = omega (arith, looked.bound) in
        rw all at (exploring_more found.exploring left (λ r h i. fresh (e ∙ sym all) r h (i ∙ sym step)))
