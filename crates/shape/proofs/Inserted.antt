-- One more node in the order, where those from its place on are moved by one.
use Rattle.std.proofs.Common.{◌≡◌, refl, sym, ap, ◌∙◌, ℕ, ◌+◌, ◌-◌, ◌<◌, ◌≤◌, List, length, get_or, set, arith, length-set, get_or-set_same, get_or-set_other, cond, ltb, eqb, lt-ltb, le-ltb, eq-eqb, ne_eqb}
use Rattle.std.proofs.Math.Decide.{ℕ_discrete, dec_lt}
use Rattle.std.specs.List.{CopiedTo, SameBelow}
use Rattle.words.specs.Lists.{list_of}
use Rattle.shape.specs.Shape.{inserted_of}

-- behind all places there is no room
pub inserted_beyond : (l : List ℕ) (at node : ℕ) → length l ≡ 6 → 6 ≤ at → l ≡ inserted_of l at node
unfolding inserted_of
inserted_beyond l at node e h = sym (list_of 6 _ l e (λ k b. let c : k < at = omega arith in rw (lt-ltb k at c)))

pub inserted_within :
    (l m : List ℕ) (at node : ℕ) → length m ≡ 6 → CopiedTo l m at (at + 1) (5 - at) → SameBelow l m (at + 1) → at < 6 →
    set m at node ≡ inserted_of l at node
unfolding inserted_of
inserted_within l m at node e copied same h = sym (list_of 6 _ (set m at node) (length-set m at node ∙ e) each)
  where
    each : (k : ℕ) → k < 6 → cond (ltb k at) (get_or l k 0) (cond (eqb k at) node (get_or l (k - 1) 0)) ≡ get_or (set m at node) k 0
    each k b = elim (ℕ_discrete k at) [
      | yes i ↦ rw (i, le-ltb at at (omega arith), eq-eqb at at refl) (sym (get_or-set_same m at node 0 (omega arith)))
      | no i ↦ elim (dec_lt k at) [
        | yes lt ↦ rw (lt-ltb k at lt) (sym (get_or-set_other m at k node 0 i ∙ same k 0 (omega arith)))
        | no ge ↦
            let le : at + 1 ≤ k = omega arith in
            let moved : at + (k - (at + 1)) ≡ k - 1 = omega arith in
            rw (le-ltb k at (omega arith), ne_eqb k at i)
            (sym (get_or-set_other m at k node 0 i ∙ copied k 0 le (omega arith) ∙ ap (λ (j : ℕ). get_or l j 0) moved))
      ]
    ]
