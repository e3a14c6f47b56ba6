-- For code that keeps a word of states for each part at each valuation: what the words must hold, and that they give `from` and `to`.
use Rattle.std.specs.Prelude.{ℕ, ◌-◌, ◌^◌, ◌<◌, ◌≡◌, refl, Bool, ◌&&◌, ◌||◌, List}
use Rattle.std.proofs.Common.{lt_of_lt_of_le, ◌∙◌}
use Rattle.std.proofs.Math.Path.{sym}
use Rattle.std.proofs.Math.Bool.{true, false, cond}
use Rattle.std.specs.Bool.{beq}
use borrow.Author.Tests.{lt-ltb}
use Rattle.meaning.specs.Bit.{bit}
use Rattle.words.specs.Truth.{beq_self}
use Rattle.words.specs.Laws.{bit_all}
use Rattle.words.specs.Folds.{all_same}
use Rattle.words.specs.Unions.{bit_shared}
use Rattle.moves.specs.Fit.{entry, agreeing, fitting_of, meeting_of, bit_agreeing, bit_fitting}
use Rattle.meaning.specs.Formula.{Formula, parts}
use Rattle.meaning.specs.Run.{Plant, label_of}
use Rattle.meaning.specs.Limits.{AcceptedTable}
use Rattle.meaning.specs.Step.{Value, Part, next_part, untilPart, releasePart, fit}
use Rattle.theory.specs.Parts.{part_of, part_number, part_number_lem}
use Rattle.model.specs.Moves.{leaving, entering, from, to}
use Rattle.model.specs.Code.{from_parts, to_parts}

-- what the part unfolds to where its value next is x; a part X asks nothing of the state left
unfoldable pub unfolds : Part → Bool → Value
unfolds (next_part k a) x l v = bit v k
unfolds (untilPart k a b) x l v = b l v || (a l v && x)
unfolds (releasePart k a b) x l v = b l v && (a l v || x)

-- whether it is a part X, and the value of its operand
unfoldable pub is_next : Part → Bool
is_next (next_part k a) = true
is_next (untilPart k a b) = false
is_next (releasePart k a b) = false

unfoldable pub operand_of : Part → Value
operand_of (next_part k a) l v = a l v
operand_of (untilPart k a b) l v = true
operand_of (releasePart k a b) l v = true

leaving_unfolds : (c : Part) (v w l : ℕ) → leaving c v w l ≡ beq (bit v (part_number c)) (unfolds c (bit w (part_number c)) l v)
unfolding leaving fit unfolds part_number
leaving_unfolds (next_part k a) v w l = sym (beq_self (bit v k))
leaving_unfolds (untilPart k a b) v w l = refl
leaving_unfolds (releasePart k a b) v w l = refl

entering_operand : (c : Part) (v w l : ℕ) → entering c v w l ≡ cond (is_next c) (beq (bit v (part_number c)) (operand_of c l w)) true
unfolding entering fit is_next operand_of part_number
entering_operand (next_part k a) v w l = refl
entering_operand (untilPart k a b) v w l = refl
entering_operand (releasePart k a b) v w l = refl

-- entry v * 6 + k of a table is the set of the states where part k, at the values v, has the value g
pub record Rows (T : Plant) (f : Formula) (table : List ℕ) (g : Part → Value) : Type 0 where
  pub words : (v k : ℕ) → entry table v k < 2 ^ 64
  pub holds : (v k s : ℕ) → v < 2 ^ parts f → k < parts f → s < T.states → bit (entry table v k) s ≡ g (part_of f k) (label_of T s) v

module _ (T : Plant) (f : Formula) (A : AcceptedTable T) where
  -- the parts F, G, U and R fit
  pub fitting_from_lem : (lows highs : List ℕ) → Rows T f lows (λ c. unfolds c false) → Rows T f highs (λ c. unfolds c true)
      → (v w s : ℕ) → v < 2 ^ parts f → s < T.states → bit (fitting_of (parts f) lows highs v w) s ≡ bit (from T f v w) s
  fitting_from_lem lows highs p q v w s lv ls =
      bit_fitting (parts f) lows highs v w s (lt_of_lt_of_le ls A.few_states) (λ k. small k (bit w k))
      ∙ all_same (parts f) _ _ (λ k lk. sym (leaving_unfolds (part_of f k) v w (label_of T s) ∙ rw (part_number_lem f k lk, row k lk (bit w k))))
      ∙ sym (from_parts T f v w s ls)
    where
      small : (k : ℕ) (x : Bool) → cond x (entry highs v k) (entry lows v k) < 2 ^ 64
      small k true = q.words v k
      small k false = p.words v k

      row : (k : ℕ) → k < parts f → (x : Bool) → bit (cond x (entry highs v k) (entry lows v k)) s ≡ unfolds (part_of f k) x (label_of T s) v
      row k lk true = q.holds v k s lv lk ls
      row k lk false = p.holds v k s lv lk ls

  -- the parts X fit
  pub meeting_to : (nexts : ℕ) (operands : List ℕ) → ((k : ℕ) → k < parts f → bit nexts k ≡ is_next (part_of f k)) → Rows T f operands operand_of
      → (v w t : ℕ) → w < 2 ^ parts f → t < T.states → bit (meeting_of (parts f) nexts operands v w) t ≡ bit (to T f v w) t
  unfolding meeting_of
  meeting_to nexts operands e p v w t lw lt =
      bit_shared (2 ^ 64 - 1) (parts f) (λ k. cond (bit nexts k) (agreeing (bit v k) (entry operands w k)) (2 ^ 64 - 1)) t
      ∙ rw (bit_all 64 t, lt-ltb t 64 (lt_of_lt_of_le lt A.few_states))
      (all_same (parts f) _ _ (λ k lk. row k lk (bit nexts k) (e k lk)) ∙ sym (to_parts T f v w t lt))
    where
      row : (k : ℕ) → k < parts f → (x : Bool) → x ≡ is_next (part_of f k)
          → bit (cond x (agreeing (bit v k) (entry operands w k)) (2 ^ 64 - 1)) t ≡ entering (part_of f k) v w (label_of T t)
      row k lk true n = bit_agreeing (bit v k) (p.words w k) t (lt_of_lt_of_le lt A.few_states)
          ∙ sym (entering_operand (part_of f k) v w (label_of T t) ∙ rw (← n, part_number_lem f k lk, p.holds w k t lw lk lt))
      row k lk false n = bit_all 64 t ∙ lt-ltb t 64 (lt_of_lt_of_le lt A.few_states) ∙ sym (entering_operand (part_of f k) v w (label_of T t) ∙ rw (← n))
