-- What one more position makes of what is handed on and of the stacks, and what stands on them in the end.
use Prim.Native.Nat.{ℕ, zero, suc, ◌+◌, ◌-◌, ◌≤◌, ◌<◌}
use Rattle.std.specs.Prelude.{◌≡◌, Bool, length, get_or, set}
use Rattle.std.proofs.Math.Path.{refl}
use Rattle.std.proofs.Common.{sym, ap, ◌∙◌, arith, add-one, get_or-set_same}
use mathlib.Core.List.{List}
use Rattle.std.proofs.Math.Decide.{ℕ_discrete}
use Rattle.std.proofs.Math.Arith.{lt_of_le-ne}
use Rattle.std.proofs.Math.ListN.{length-set}
use Rattle.std.proofs.lemmas.List.{length-replicate}
use Rattle.std.proofs.Math.Seq.{get_or-set_other}
use Rattle.syntax.specs.declared.Op.{Op}
use Rattle.meaning.specs.Bit.{bit}
use Rattle.syntax.specs.declared.Node.{Node}
use Rattle.syntax.specs.declared.Rule.{Rule}
use Rattle.around.specs.Around.{place}
use Rattle.node_value.specs.Unfold.{guess_of, pushed_of, value_at, carry_at}
use Rattle.node_value.specs.Back.{back}
use Rattle.shape.specs.Ops.{op_at}
use Rattle.around.specs.Fill.{handed_from, filled_from, round_of, stacks_after, around_of}

module _ (op : Op) (labels words : List ℕ) (end : Bool) where
  -- what is put on the stack at position j, with e positions behind it
  abbrev put : ℕ → ℕ → ℕ
  put e j = pushed_of (get_or words j 0) op (value_at op (get_or labels j 0) (get_or words j 0) (handed_from op labels words end e (suc j)))

  pub length_filled : (d i : ℕ) → length (filled_from op labels words end d i) ≡ length words
  unfolding filled_from
  length_filled zero i = refl
  length_filled (suc d) i = length-set (filled_from op labels words end d (suc i)) i (put d i) ∙ length_filled d (suc i)

  -- the positions before are as they were
  filled_before : (d i j : ℕ) → j < i → get_or (filled_from op labels words end d i) j 0 ≡ get_or words j 0
  unfolding filled_from
  filled_before zero i j l = refl
  filled_before (suc d) i j l = get_or-set_other (filled_from op labels words end d (suc i)) i j (put d i) 0 (λ e. omega arith) ∙ filled_before d (suc i) j (omega arith)

  -- each of the d positions has its own put on
  pub filled_at : (d i j : ℕ) → i ≤ j → j < i + d → i + d ≤ length words → get_or (filled_from op labels words end d i) j 0 ≡ put (i + d - suc j) j
  unfolding filled_from
  filled_at zero i j le lt few = absurd (omega arith)
  filled_at (suc d) i j le lt few = elim (ℕ_discrete j i) [ yes e ↦ same e | no k ↦ other k (filled_at d (suc i) j) ]
    where
      w : List ℕ
      w = filled_from op labels words end d (suc i)

      same : j ≡ i → get_or (set w i (put d i)) j 0 ≡ put (i + suc d - suc j) j
      same e =
          let m : i + suc d - suc i ≡ d = omega arith in
          rw (e, m) (get_or-set_same w i (put d i) 0 (omega (arith, length_filled d (suc i))))

      other : (j ≡ i → ⊥) → (suc i ≤ j → j < suc i + d → suc i + d ≤ length words → get_or w j 0 ≡ put (suc i + d - suc j) j)
          → get_or (set w i (put d i)) j 0 ≡ put (i + suc d - suc j) j
      other k rest =
          let m : suc i + d - suc j ≡ i + suc d - suc j = omega arith in
          get_or-set_other w i j (put d i) 0 k ∙ rest (lt_of_le-ne le (λ e. k (sym e))) (omega arith) (omega arith) ∙ ap (λ (e : ℕ). put e j) m

  -- behind the last position
  module _ (n : ℕ) where
    none_left : n - n ≡ 0
    none_left = omega arith

    pub handed_last : end ≡ handed_from op labels words end (n - n) n
    unfolding back handed_from
    handed_last = rw none_left

    pub filled_last : words ≡ filled_from op labels words end (n - n) n
    unfolding filled_from
    filled_last = rw none_left

  -- the positions from j on, of n, one more: i is the position before, and l its label
  module _ (n j i l : ℕ) (ahead : Bool) (g : j ≤ n) (p : i + 1 ≡ j) (q : l ≡ get_or labels i 0) (e : ahead ≡ handed_from op labels words end (n - j) j) where
    turns : n - i ≡ suc (n - j)
    turns = omega arith

    after : suc i ≡ j
    after = omega arith

    pub handed_back : (r : Bool) → r ≡ carry_at op l (get_or words i 0) ahead → r ≡ handed_from op labels words end (n - i) i
    unfolding back handed_from
    handed_back r h = rw (h, e, q, turns, after)

    module _ (now : List ℕ) (f : now ≡ filled_from op labels words end (n - j) j) where
      stack_old : get_or now i 0 ≡ get_or words i 0
      stack_old = ap (λ (w : List ℕ). get_or w i 0) f ∙ filled_before (n - j) j i (omega arith)

      pub carry_back : (r : Bool) → r ≡ carry_at op l (get_or now i 0) ahead → r ≡ handed_from op labels words end (n - i) i
      carry_back r h = handed_back r (h ∙ ap (λ (s : ℕ). carry_at op l s ahead) stack_old)

      pub filled_back : (v : Bool) (x : ℕ) → v ≡ value_at op l (get_or now i 0) ahead → x ≡ pushed_of (get_or now i 0) op v
          → set now i x ≡ filled_from op labels words end (n - i) i
      unfolding filled_from
      filled_back v x h k = rw (k, h, stack_old, e, q, f, turns, after)

-- the first position
pub handed_first : (op : Op) (labels words : List ℕ) (end : Bool) (n i from : ℕ) (r : Bool) → from ≤ i → i ≤ from
    → r ≡ handed_from op labels words end (n - i) i → r ≡ handed_from op labels words end (n - from) from
handed_first op labels words end n i from r l k h = let e : i ≡ from = omega arith in rw e at h

pub filled_first : (op : Op) (labels words : List ℕ) (end : Bool) (n i : ℕ) (r : List ℕ) → i ≤ 0
    → r ≡ filled_from op labels words end (n - i) i → r ≡ filled_from op labels words end n 0
filled_first op labels words end n i r l h =
    let z : i ≡ 0 = omega arith in
    let e : n - 0 ≡ n = omega arith in
    h ∙ rw (z, e)

-- one node more
pub stacks_turn : (nodes : List Node) (labels : List ℕ) (s p : ℕ) (w : List ℕ) (guess first : Bool) (r : List ℕ) → w ≡ stacks_after nodes labels s p
    → guess ≡ guess_of (op_at nodes p) → first ≡ handed_from (op_at nodes p) labels w guess (length labels - s) s
    → r ≡ filled_from (op_at nodes p) labels w first (length labels) 0 → r ≡ stacks_after nodes labels s (p + 1)
unfolding stacks_after
stacks_turn nodes labels s p w guess first r e g f h = rw (h, f, g, e, add-one)

pub length_stacks : (nodes : List Node) (labels : List ℕ) (s p : ℕ) → length (stacks_after nodes labels s p) ≡ 4096
unfolding stacks_after
length_stacks nodes labels s zero = length-replicate {A = ℕ} 4096 0
length_stacks nodes labels s (suc p) =
    let w = stacks_after nodes labels s p in
    length_filled (op_at nodes p) labels w (round_of (op_at nodes p) labels s w) (length labels) 0 ∙ length_stacks nodes labels s p

-- at the position asked
pub around_asked : (rule : Rule) (labels : List ℕ) (s p : ℕ) (words : List ℕ) (at : ℕ) (r : Bool) → words ≡ stacks_after rule.nodes labels s rule.len
    → at ≡ place s (length labels) p → r ≡ bit (get_or words at 0) 0 → r ≡ around_of rule labels s p
unfolding around_of
around_asked rule labels s p words at r e f h = rw (h, e, f)
