-- What one more turn makes of each list that a loop fills.
use Rattle.std.specs.Prelude.{ℕ, zero, suc, ◌+◌, ◌≡◌, refl, Bool, true, false, cond, List, length, get_or, set}
use Rattle.std.proofs.Common.{ap, ◌∙◌, add-one, length-set}
use Rattle.syntax.specs.declared.Node.{Node}
use Rattle.syntax.specs.declared.Op.{Op}
use Rattle.words.specs.Word.{digit}
use Rattle.words.specs.Folds.{count_more}
use Rattle.shape.specs.Ops.{op_at, is_part}
use Rattle.shape.specs.Shape.{begin_of, begins_of, parts_before, counts_of, ordered_of, order_of, kinds_after}

begins_more :
    (nodes : List Node) (n : ℕ) → let b = begins_of nodes n in
    begins_of nodes (n + 1) ≡ set b (n + 1) (begin_of (op_at nodes n) n (get_or b n 0) (get_or b (get_or b n 0) 0))
unfolding begins_of
begins_more nodes n = rw add-one

-- as the loop has it
pub begins_turn :
    (nodes : List Node) (n : ℕ) (at : List ℕ) (op : Op) (first x : ℕ) → at ≡ begins_of nodes n → op ≡ op_at nodes n →
    first ≡ get_or at (get_or at n 0) 0 → x ≡ begin_of op n (get_or at n 0) first → set at (n + 1) x ≡ begins_of nodes (n + 1)
begins_turn nodes n at op first x b o f h = rw (begins_more, h, f, o, b)

pub length_begins : (nodes : List Node) (n : ℕ) → length (begins_of nodes n) ≡ 33
unfolding begins_of
length_begins nodes zero = refl
length_begins nodes (suc n) = length-set (begins_of nodes n) (suc n) _ ∙ length_begins nodes n

-- how many parts there are behind node n
pub parts_turn :
    (nodes : List Node) (n count : ℕ) (op : Op) (test : Bool) (more : ℕ) → count ≡ parts_before nodes n → op ≡ op_at nodes n →
    test ≡ is_part op → more ≡ cond test 1 0 → count + more ≡ parts_before nodes (n + 1)
parts_turn nodes n count op test more e o t m =
    rw (m, t, o, e, count_more) (ap (λ (d : ℕ). parts_before nodes n + d) (one (is_part (op_at nodes n))))
  where
    one : (b : Bool) → cond b 1 0 ≡ digit b
    one true = refl
    one false = refl

pub counts_turn :
    (nodes : List Node) (n : ℕ) (at : List ℕ) (x : ℕ) → at ≡ counts_of nodes n → x ≡ parts_before nodes (n + 1) →
    set at (n + 1) x ≡ counts_of nodes (n + 1)
unfolding counts_of
counts_turn nodes n at x e h = rw (h, e, add-one)

pub order_turn :
    (nodes : List Node) (begins counts : List ℕ) (n : ℕ) (l : List ℕ) (op : Op) (at : ℕ) (r : List ℕ) → l ≡ order_of nodes begins counts n →
    op ≡ op_at nodes n → at ≡ get_or counts (get_or begins n 0) 0 → r ≡ ordered_of op l at n → r ≡ order_of nodes begins counts (n + 1)
unfolding order_of
order_turn nodes begins counts n l op at r e o a h = rw (h, a, o, e, add-one)

pub kinds_more :
    (nodes : List Node) (l : List ℕ) (n : ℕ) →
    kinds_after nodes l (n + 1) ≡ set (kinds_after nodes l n) n (record { op = op_at nodes (get_or l n 0) })
unfolding kinds_after
kinds_more nodes l n = rw add-one
