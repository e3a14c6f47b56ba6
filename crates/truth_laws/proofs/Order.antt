-- The nodes of the parts are laid down in printed order.
use Prim.Native.Nat.{ℕ, suc, ◌+◌, ◌-◌, ◌≤◌, ◌<◌}
use Rattle.std.specs.Prelude.{◌≡◌, refl, Bool, true, false, cond, List, ◌∷◌, ◌++◌, eqb, ltb}
use Rattle.std.proofs.Math.Path.{sym, subst}
use Rattle.std.proofs.Common.{ap, ◌∙◌, append_assoc, append-nil, lt-ltb, le-ltb, eq-eqb, ne_eqb}
use native.Mathlib.Omega.{arith}
use Rattle.std.proofs.Math.Decide.{ℕ_discrete, dec_lt}
use Rattle.std.proofs.Math.ListN.{length, get_or, length-append, get_or-append}
use Rattle.std.proofs.lemmas.List.{get_or_at}
use Rattle.std.proofs.Math.Seq.{get_or-append-add}
use Rattle.syntax.specs.declared.Op.{Op}
use Rattle.syntax.specs.declared.Node.{Node}
use Rattle.words.specs.Word.{digit}
use Rattle.words.specs.Lists.{list_at}
use Rattle.shape.specs.Ops.{op_at, is_part}
use Rattle.shape.specs.Shape.{begins_of, parts_before, counts_of, inserted_of, ordered_of, order_of}
use Rattle.truth_laws.specs.Begins.{begins_tree}
use Rattle.truth_laws.specs.Counts.{counts_at, counts_tree}
use Rattle.truth_laws.specs.Tree.{Tree, leaf, one, two, nodes_in, count_in, own, placed, Stands, length_placed}

-- the table l begins with the list xs
pub record Laid (l xs : List ℕ) : Type 0 where
  pub few : length xs ≤ 6
  pub entries : (k : ℕ) → k < length xs → get_or l k 0 ≡ get_or xs k 0

-- one node more, between those before it and those behind it
module _ (l pre suf : List ℕ) (node : ℕ) (h : Laid l (pre ++ suf)) (room : length (pre ++ suf) < 6) where
  long : length (pre ++ node ∷ suf) ≡ suc (length (pre ++ suf))
  long = length-append pre (node ∷ suf) ∙ omega (arith, length-append pre suf)

  pub laid_more : Laid (inserted_of l (length pre) node) (pre ++ node ∷ suf)
  unfolding inserted_of
  laid_more = record { few = omega (arith, long); entries = λ k lk. list_at 6 _ k (omega (arith, long)) ∙ place k (omega (arith, long)) (dec_lt k (length pre)) }
    where
      behind : (m : ℕ) → length pre + m < length (pre ++ suf) → get_or l (length pre + suc m - 1) 0 ≡ get_or (pre ++ node ∷ suf) (length pre + suc m) 0
      behind m lm =
          let e : length pre + suc m - 1 ≡ length pre + m = omega arith in
          rw e (h.entries (length pre + m) lm ∙ get_or-append-add pre suf m 0 ∙ sym (get_or-append-add pre (node ∷ suf) (suc m) 0))

      later : (k : ℕ) → length pre ≤ k → k < suc (length (pre ++ suf)) → Dec (k ≡ length pre)
          → cond (eqb k (length pre)) node (get_or l (k - 1) 0) ≡ get_or (pre ++ node ∷ suf) k 0
      later k lo hi (yes e) = rw (e, eq-eqb (length pre) (length pre) refl) (sym (get_or_at pre node suf 0 (length pre) refl))
      later k lo hi (no d) =
          let m = k - length pre - 1 in
          let e : k ≡ length pre + suc m = omega arith in
          rw (ne_eqb k (length pre) d, e) (behind m (omega arith))

      place : (k : ℕ) → k < suc (length (pre ++ suf)) → Dec (k < length pre)
          → cond (ltb k (length pre)) (get_or l k 0) (cond (eqb k (length pre)) node (get_or l (k - 1) 0)) ≡ get_or (pre ++ node ∷ suf) k 0
      place k lk (yes low) = rw (lt-ltb k (length pre) low)
          (h.entries k (omega (arith, length-append pre suf)) ∙ get_or-append pre suf 0 k low ∙ sym (get_or-append pre (node ∷ suf) 0 k low))
      place k lk (no high) = rw (le-ltb k (length pre) (omega arith)) (later k (omega arith) lk (ℕ_discrete k (length pre)))

-- what a node adds
laid_turn : (o : Op) (l pre suf : List ℕ) (at node : ℕ) → Laid l (pre ++ suf) → at ≡ length pre → length (pre ++ suf) + digit (is_part o) ≤ 6
    → Laid (ordered_of o l at node) (pre ++ own o node suf)
laid_turn o l pre suf at node h e room = go (is_part o) room
  where
    go : (b : Bool) → length (pre ++ suf) + digit b ≤ 6 → Laid (cond b (inserted_of l at node) l) (pre ++ cond b (node ∷ suf) suf)
    go true r = rw e (laid_more l pre suf node h (omega arith))
    go false r = h

module _ (nodes : List Node) (len : ℕ) (most : len ≤ 32) where
  abbrev order : ℕ → List ℕ
  order n = order_of nodes (begins_of nodes len) (counts_of nodes len) n

  -- a node's place in the order, where its last operand begins at i
  abbrev spot : ℕ → ℕ
  spot n = get_or (counts_of nodes len) (get_or (begins_of nodes len) n 0) 0

  spot_at_lem : (t : Tree) (i : ℕ) → Stands nodes t i → i + nodes_in t ≤ len → spot (i + nodes_in t) ≡ parts_before nodes i
  spot_at_lem t i s h = ap (λ p. get_or (counts_of nodes len) p 0) (begins_tree nodes len most t i s h) ∙ counts_at nodes len i (omega arith) most

  order_turn : (o : Op) (n : ℕ) → op_at nodes n ≡ o → (pre suf : List ℕ) → Laid (order n) (pre ++ suf) → spot n ≡ length pre
      → length (pre ++ suf) + digit (is_part o) ≤ 6 → Laid (order (suc n)) (pre ++ own o n suf)
  unfolding order_of
  order_turn o n e pre suf h s room =
      subst (λ (x : Op). Laid (ordered_of x (order n) (spot n) n) (pre ++ own o n suf)) (sym e)
      (laid_turn o (order n) pre suf (spot n) n h s room)

  order_skip : (o : Op) (n : ℕ) → op_at nodes n ≡ o → is_part o ≡ false → (xs : List ℕ) → Laid (order n) xs → Laid (order (suc n)) xs
  unfolding order_of
  order_skip o n e p xs h = subst (λ (x : Op). Laid (ordered_of x (order n) (spot n) n) xs) (sym e) (rw p h)

  pub order_tree : (t : Tree) (i : ℕ) (xs : List ℕ) → Stands nodes t i → i + nodes_in t ≤ len → length xs ≡ parts_before nodes i
      → length xs + count_in t ≤ 6 → Laid (order i) xs → Laid (order (i + nodes_in t)) (xs ++ placed t i)
  unfolding Stands nodes_in count_in placed
  order_tree (leaf o) i xs s h n room d =
      let e : i + 1 ≡ suc i = omega arith in
      rw (e, append-nil) (order_skip o i s.0 s.2 xs d)
  order_tree (one o a) i xs s h n room d =
      let e : i + suc (nodes_in a) ≡ suc (i + nodes_in a) = omega arith in
      rw e (order_turn o (i + nodes_in a) s.1 xs (placed a i) (order_tree a i xs s.0 (omega arith) n (omega arith) d)
      (spot_at_lem a i s.0 (omega arith) ∙ sym n) (omega (arith, length-append xs (placed a i), length_placed a i)))
  order_tree (two o a b) i xs s h n room d =
      let e : i + suc (nodes_in a + nodes_in b) ≡ suc (i + nodes_in a + nodes_in b) = omega arith in
      let j = i + nodes_in a in
      let ys = xs ++ placed a i in
      let m : length ys ≡ parts_before nodes j = length-append xs (placed a i) ∙ omega (arith, length_placed a i, counts_tree nodes a i s.0) in
      let r : length ys ≡ length xs + count_in a = length-append xs (placed a i) ∙ omega (arith, length_placed a i) in
      rw (e, ← (append_assoc xs (placed a i) (own o (j + nodes_in b) (placed b j))))
      (order_turn o (j + nodes_in b) s.2 ys (placed b j)
      (order_tree b j ys s.1 (omega arith) m (omega arith) (order_tree a i xs s.0 (omega arith) n (omega arith) d))
      (spot_at_lem b j s.1 (omega arith) ∙ sym m) (omega (arith, length-append ys (placed b j), length_placed b j)))
