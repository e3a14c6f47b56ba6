-- The word behind a rule's last node shows where the rule holds, and so for each of its operands.
use Prim.Native.Nat.{ℕ, suc, ◌+◌, ◌-◌, ◌*◌, ◌^◌, ◌≤◌, ◌<◌}
use Rattle.std.specs.Prelude.{◌≡◌, refl, Bool, ◌&&◌, List, length, get_or, ltb}
use Rattle.std.proofs.Math.Path.{sym, ap, subst}
use Rattle.std.proofs.Common.{◌∙◌, pow_mono, lt-ltb}
use Rattle.std.proofs.Math.Bool.{true, false, cond}
use native.Mathlib.Omega.{arith}
use Rattle.std.proofs.Math.Nat.{lt_of_lt_of_le}
use Rattle.meaning.specs.Bit.{bit}
use Rattle.meaning.specs.Formula.{Formula, never, always, prop, neg, next, finally, globally, until, release, and, or, implies}
use Rattle.meaning.specs.Run.{Plant}
use Rattle.meaning.specs.Limits.{AcceptedTable}
use Rattle.syntax.specs.declared.Op.{Op}
use Rattle.syntax.specs.declared.Op.TheVariants.{False, True, Prop, Not, Next, Finally, Globally, Until, Release, And, Or, Implies}
use Rattle.syntax.specs.declared.Rule.{Rule}
use Rattle.syntax.specs.Grammar.{names}
use Rattle.syntax.specs.Print.{Below}
use Rattle.words.specs.Unions.{word_of_lt}
use Rattle.labels.specs.Labels.{having_of}
use Rattle.model.specs.Values.{Shows, wholly, shows_never, shows_always, shows_prop, shows_neg, shows_next, shows_finally, shows_globally, shows_until, shows_release, shows_and, shows_or, shows_implies}
use Rattle.shape.specs.Ops.{op_at, is_part}
use Rattle.shape.specs.Shape.{begins_of, numbers_of, parts_in, order_in}
use Rattle.truth.specs.Nodes.{named_of, leaf_of, own_of, made_of, word_at}
use Rattle.truth.specs.Tables.{words_in}
use Rattle.truth_laws.specs.Begins.{begins_before}
use Rattle.truth_laws.specs.Words.{after_small, word_small, word_made}
use Rattle.truth_laws.specs.Tree.{Tree, leaf, tree_of, nodes_in}
use Rattle.truth_laws.proofs.Numbers.{PartAt}
use Rattle.truth_laws.proofs.Occurs.{Occurs, leaf_op, Above, above_plain, above_part, above_begins, one_above, two_left, two_above}

-- part k, one of the six, at the valuation v
pub own_wholly : (v k : ℕ) → k < 6 → own_of v k ≡ wholly (bit v k)
own_wholly v k l = ap (λ (b : Bool). cond (b && bit v k) (2 ^ 64 - 1) 0) (lt-ltb k 6 l)

module _ (T : Plant) (A : AcceptedTable T) (rule : Rule) where
  abbrev label : List ℕ
  label = T.label

  -- the word of a place
  abbrev word : ℕ → ℕ → ℕ
  word p v = word_at (words_in label rule) p v

  abbrev begins : List ℕ
  begins = begins_of rule.nodes rule.len

  abbrev numbers : List ℕ
  numbers = numbers_of (order_in rule) (parts_in rule)

  few_labels : length label ≤ 64
  few_labels = omega (arith, A.labels, A.few_states)

  named_small : (p : ℕ) → named_of label p < 2 ^ 64
  unfolding named_of having_of
  named_small p = by_test (ltb p names)
    where
      by_test : (b : Bool) → cond b (having_of label p) 0 < 2 ^ 64
      by_test true = lt_of_lt_of_le (word_of_lt (length label) (λ s. bit (get_or label s 0) p)) (pow_mono few_labels)
      by_test false = omega arith

  leaf_small : (o : Op) → leaf_of o label < 2 ^ 64
  leaf_small (Prop p) = named_small p
  leaf_small False = omega arith
  leaf_small True = omega arith
  leaf_small Not = omega arith
  leaf_small Next = omega arith
  leaf_small Finally = omega arith
  leaf_small Globally = omega arith
  leaf_small Until = omega arith
  leaf_small Release = omega arith
  leaf_small And = omega arith
  leaf_small Or = omega arith
  leaf_small Implies = omega arith

  pub small : rule.len ≤ 32 → (p v : ℕ) → word p v < 2 ^ 64
  unfolding words_in
  small short p v =
      word_small (words_in label rule) (after_small rule.nodes label begins numbers leaf_small (rule.len * 64) (omega arith)) p v

  -- a node's word from its operands'
  made : rule.len ≤ 32 → (o : Op) (p v : ℕ) → op_at rule.nodes p ≡ o → p < rule.len → v < 64
      → word (suc p) v ≡ made_of o (leaf_of o label) (word (get_or begins p 0) v) (word p v) (own_of v (get_or numbers p 0))
  unfolding words_in
  made short o p v e l lv =
      word_made rule.nodes label begins numbers rule.len short p v l lv (begins_before rule.nodes rule.len short p)
      ∙ ap (λ (x : Op). made_of x (leaf_of x label) (word (get_or begins p 0) v) (word p v) (own_of v (get_or numbers p 0))) e

  own_word : (v x k : ℕ) → PartAt rule x k → own_of v (get_or numbers x 0) ≡ wholly (bit v k)
  own_word v x k c = ap (own_of v) c.number ∙ own_wholly v k c.few

  -- by how many operands it takes
  leaf_word : {o : Op} {i n : ℕ} → Occurs rule (leaf o) i n → (v : ℕ) → v < 64
      → word (i + nodes_in (leaf o)) v ≡ made_of o (leaf_of o label) (word (get_or begins i 0) v) (word i v) (own_of v (get_or numbers i 0))
  unfolding nodes_in
  leaf_word {o} {i} c v lv =
      let e : i + 1 ≡ suc i = omega arith in
      ap (λ p. word p v) e ∙ made c.short o i v (leaf_op c) (omega (arith, c.fits)) lv

  above_word : {o : Op} {u : Tree} {j n z : ℕ} → Above rule o u j n z → (v : ℕ) → v < 64
      → word z v ≡ made_of o (leaf_of o label) (word j v) (word (j + nodes_in u) v) (own_of v (get_or numbers (j + nodes_in u) 0))
  above_word {o} {u} {j} c v lv =
      ap (λ p. word p v) c.ends ∙ made c.short o (j + nodes_in u) v c.op c.inside lv
      ∙ ap (λ p. made_of o (leaf_of o label) (word p v) (word (j + nodes_in u) v) (own_of v (get_or numbers (j + nodes_in u) 0))) (above_begins c)

  -- a part's word is its own value
  abbrev Own : Op → Type 0
  Own o = (is_part o ≡ true) × ((h x y w : ℕ) → made_of o h x y w ≡ w)

  part_word : {o : Op} {u : Tree} {j n z : ℕ} → Above rule o u j n z → Own o → (v : ℕ) → v < 64 → wholly (bit v n) ≡ word z v
  part_word {u} {j} {n} c (e, own) v lv = sym (above_word c v lv ∙ own _ _ _ _ ∙ own_word v (j + nodes_in u) n (above_part c e).0)

  prop_word : (p : ℕ) → p < names → having_of label p ≡ named_of label p
  unfolding named_of
  prop_word p l = rw (lt-ltb p names l)

  pub shown : (g : Formula) {i n : ℕ} → Occurs rule (tree_of g) i n → Below T.props g → (v : ℕ) → v < 64
      → Shows T g n v (word (i + nodes_in (tree_of g)) v)
  unfolding tree_of Below
  shown never {n} c b v lv = subst (Shows T never n v) (sym (leaf_word c v lv)) (shows_never T A n v)
  shown always {n} c b v lv = subst (Shows T always n v) (sym (leaf_word c v lv)) (shows_always T A n v)
  shown (prop p) {n} c b v lv =
      subst (Shows T (prop p) n v) (prop_word p (omega (arith, A.few_props)) ∙ sym (leaf_word c v lv)) (shows_prop T A n v p)
  shown (neg a) {i} {n} c b v lv = subst (Shows T (neg a) n v) (sym (above_word (one_above c) v lv))
      (shows_neg T A n v a _ (small c.short (i + nodes_in (tree_of a)) v) (shown a (above_plain (one_above c) refl) b v lv))
  shown (next a) {n} c b v lv = subst (Shows T (next a) n v) (part_word (one_above c) (refl, λ h x y w. refl) v lv) (shows_next T A n v a)
  shown (finally a) {n} c b v lv =
      subst (Shows T (finally a) n v) (part_word (one_above c) (refl, λ h x y w. refl) v lv) (shows_finally T A n v a)
  shown (globally a) {n} c b v lv =
      subst (Shows T (globally a) n v) (part_word (one_above c) (refl, λ h x y w. refl) v lv) (shows_globally T A n v a)
  shown (until a b) {n} c k v lv =
      subst (Shows T (until a b) n v) (part_word (two_above a c) (refl, λ h x y w. refl) v lv) (shows_until T A n v a b)
  shown (release a b) {n} c k v lv =
      subst (Shows T (release a b) n v) (part_word (two_above a c) (refl, λ h x y w. refl) v lv) (shows_release T A n v a b)
  shown (and a b) {n} c k v lv =
      let p = shown a (two_left a c) k.0 v lv in
      let q = shown b (above_plain (two_above a c) refl) k.1 v lv in
      subst (Shows T (and a b) n v) (sym (above_word (two_above a c) v lv)) (shows_and T A n v a b _ _ p q)
  shown (or a b) {n} c k v lv =
      let p = shown a (two_left a c) k.0 v lv in
      let q = shown b (above_plain (two_above a c) refl) k.1 v lv in
      subst (Shows T (or a b) n v) (sym (above_word (two_above a c) v lv)) (shows_or T A n v a b _ _ p q)
  shown (implies a b) {i} {n} c k v lv =
      let p = shown a (two_left a c) k.0 v lv in
      let q = shown b (above_plain (two_above a c) refl) k.1 v lv in
      subst (Shows T (implies a b) n v) (sym (above_word (two_above a c) v lv))
      (shows_implies T A n v a b _ _ p q (small c.short (i + nodes_in (tree_of a)) v))
