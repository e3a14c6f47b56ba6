-- The states picked by their labels: those that have a proposition, and those that agree with what was seen.
use mathlib.Core.Logic.Iff
use Rattle.std.specs.Prelude.{ℕ, ◌<◌, ◌≡◌, Bool, false, ◌&&◌, not, List, eqb, length, get_or}
use Rattle.std.proofs.Common.{sym, ap, ◌∙◌}
use Rattle.std.proofs.Math.Bool.{So, and-false, and_comm}
use Rattle.std.specs.Bool.{beq}
use Rattle.std.specs.Int.Bits.{bit_and, bit_xor}
use Rattle.std.proofs.lemmas.Bool.{not-false}
use Rattle.meaning.specs.Says.{Says}
use Rattle.meaning.specs.Bit.{bit}
use Rattle.words.specs.Below.{word_of}
use Rattle.words.specs.Laws.{bit_and_lem, bit_xor_lem, bit_zero, same_bits}
use Rattle.words.specs.Unions.{word_at_lem}
use Rattle.words.specs.Truth.{and_when, beq_says, beq_self, beq_comm}
use Rattle.words.specs.Tests.{eq_says}

-- the states whose label has the proposition p
unfoldable pub having_of : List ℕ → ℕ → ℕ
having_of label p = word_of (length label) (λ s. bit (get_or label s 0) p)

-- the label differs from val nowhere in see
abbrev pub agrees : ℕ → ℕ → ℕ → Bool
agrees see val l = eqb (bit_and (bit_xor l val) see) 0

-- the states whose label agrees
unfoldable pub agreeing_of : List ℕ → ℕ → ℕ → ℕ
agreeing_of label see val = word_of (length label) (λ s. agrees see val (get_or label s 0))

pub bit_having : (label : List ℕ) (p s : ℕ) → s < length label → bit (having_of label p) s ≡ bit (get_or label s 0) p
unfolding having_of
bit_having label p s h = word_at_lem (length label) _ s h

pub bit_agreeing : (label : List ℕ) (see val s : ℕ) → s < length label → bit (agreeing_of label see val) s ≡ agrees see val (get_or label s 0)
unfolding agreeing_of
bit_agreeing label see val s h = word_at_lem (length label) _ s h

-- it agrees where what was seen is as the label has it
module _ (see val l : ℕ) where
  bit_differing : (p : ℕ) → bit (bit_and (bit_xor l val) see) p ≡ (bit see p && not (beq (bit val p) (bit l p)))
  bit_differing p = rw (bit_and_lem, bit_xor_lem, beq_comm (bit val p)) (and_comm (not (beq (bit l p) (bit val p))) (bit see p))

  pub agrees_says : Says (agrees see val l) ((p : ℕ) → So (bit see p) → bit val p ≡ bit l p)
  agrees_says = Iff.trans (eq_says (bit_and (bit_xor l val) see) 0) (
    λ z p s. (beq_says (bit val p) (bit l p)).0 (not-false (beq (bit val p) (bit l p))
        (rw s at (sym (bit_differing p) ∙ ap (λ (x : ℕ). bit x p) z ∙ bit_zero p))),
    λ f. same_bits (bit_and (bit_xor l val) see) 0 (λ p.
        bit_differing p
        ∙ and_when (bit see p) (not (beq (bit val p) (bit l p))) false (λ s. rw (f p s, beq_self (bit l p)))
        ∙ and-false (bit see p) ∙ sym (bit_zero p)),
  )
