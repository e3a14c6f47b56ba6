-- What the reader has written when it is done: the rule's value, or the length that tells of more than 32 nodes.
use Prim.Native.Nat.{ℕ, suc, ◌+◌, ◌-◌, ◌≤◌, ◌<◌}
use mathlib.Core.Path.{◌≡◌, refl, sym, ap, ◌∙◌}
use mathlib.Core.List.{List, [], ◌∷◌, ◌++◌, append-nil}
use mathlib.Core.Bool.{Bool, true, false}
use native.Mathlib.Omega.{arith}
use borrow.Author.Tests.{lt-ltb, le-ltb, ltb-true, ltb-false}
use lib.Dec.{ltb}
use lib.ListN.{length, set, replicate, length-append}
use lib.Seq.{set-append_seam, append_snoc}
use Rattle.meaning.specs.Formula.{Formula, size}
use Rattle.syntax.specs.declared.Op.{Op}
use Rattle.syntax.specs.declared.Node.{Node}
use Rattle.syntax.specs.declared.Rule.{Rule}
use Rattle.syntax.specs.Postfix.{postfix}
use Rattle.syntax.specs.Value.{blank, empty_rule, nodes_of, rule_of}
use Rattle.syntax.proofs.Values.{length_postfix}
use Rattle.reader.specs.Draft.{pushed, written}

with_room : (r : Rule) (o : Op) → r.len < 32 → pushed r o ≡ record { len = r.len + 1; nodes = set r.nodes r.len (record { op = o }) }
with_room r o h = simp (lt-ltb r.len 32 h)

without : (r : Rule) (o : Op) → 32 ≤ r.len → pushed r o ≡ record { len = 33; nodes = r.nodes }
without r o h = simp (le-ltb r.len 32 h)

-- nodes pushed one after the other stand behind those before them
written_is : (os : List Op) (p : List Node) (m : ℕ) → length p + (length os + m) ≡ 32
    → written (record { len = length p; nodes = p ++ replicate (length os + m) blank }) os ≡ record { len = length p + length os; nodes = (p ++ nodes_of os) ++ replicate m blank }
unfolding written nodes_of
written_is [] p m h =
    let e : length p ≡ length p + 0 = omega arith in
    let z : 0 + m ≡ m = omega arith in
    ap (λ k. record { len = length p; nodes = p ++ replicate k blank }) z ∙ ap (λ k. record { len = k; nodes = p ++ replicate m blank }) e ∙ ap (λ l. record { len = length p + 0; nodes = l ++ replicate m blank }) (sym (append-nil p))
written_is (o ∷ os) p m h =
    let v : Node = record { op = o } in
    let rest = replicate (length os + m) blank in
    let r : Rule = record { len = length p; nodes = p ++ blank ∷ rest } in
    let q = p ++ v ∷ [] in
    let long : length q ≡ length p + 1 = length-append p (v ∷ []) in
    let first : pushed r o ≡ record { len = length q; nodes = q ++ rest } =
    with_room r o (omega arith) ∙ ap (λ l. record { len = length p + 1; nodes = l }) (set-append_seam p blank rest v ∙ sym (append_snoc p v rest)) ∙ ap (λ k. record { len = k; nodes = q ++ rest }) (sym long) in
    let e : length q + length os ≡ length p + suc (length os) = omega arith in
    let z : suc (length os) + m ≡ suc (length os + m) = omega arith in
    ap (λ k. written (record { len = length p; nodes = p ++ replicate k blank }) (o ∷ os)) z ∙ ap (λ x. written x os) first ∙ written_is os q m (omega arith) ∙ ap (λ k. record { len = k; nodes = (q ++ nodes_of os) ++ replicate m blank }) e
    ∙ ap (λ l. record { len = length p + suc (length os); nodes = l ++ replicate m blank }) (append_snoc p v (nodes_of os))

-- the nodes of a rule that has 32 at most: its value
pub written_rule : (f : Formula) → size f ≤ 32 → written empty_rule (postfix f) ≡ rule_of f
written_rule f h =
    let l = length_postfix f in
    let e : 32 ≡ length (postfix f) + (32 - size f) = omega arith in
    ap (λ n. written (record { len = 0; nodes = replicate n blank }) (postfix f)) e ∙ written_is (postfix f) [] (32 - size f) (omega arith)
    ∙ (let s : 0 + length (postfix f) ≡ size f = omega arith in ap (λ k. record { len = k; nodes = nodes_of (postfix f) ++ replicate (32 - size f) blank }) s)

over : (os : List Op) (r : Rule) → r.len ≤ 33 → 32 < r.len + length os → (written r os).len ≡ 33
unfolding written
over [] r h g = omega arith
over (o ∷ os) r h g = go (ltb r.len 32) refl (λ r' h' g'. over os r' h' g')
  where
    go : (b : Bool) → ltb r.len 32 ≡ b → ((r' : Rule) → r'.len ≤ 33 → 32 < r'.len + length os → (written r' os).len ≡ 33) → (written (pushed r o) os).len ≡ 33
    go true e k = let lt = ltb-true r.len 32 e in rw (with_room r o lt) (k _ (omega arith) (omega arith))
    go false e k = let ge = ltb-false r.len 32 e in rw (without r o ge) (k _ (omega arith) (omega arith))

-- of a rule that has more: the length that tells so
pub written_over : (f : Formula) → 32 < size f → (written empty_rule (postfix f)).len ≡ 33
written_over f h = over (postfix f) empty_rule (omega arith) (omega (arith, length_postfix f))
