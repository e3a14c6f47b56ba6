-- The entries of a part in the four tables, and which parts are X.
use Rattle.std.specs.Prelude.{ℕ, suc, ◌+◌, ◌*◌, ◌/◌, ◌%◌, ◌^◌, ◌≤◌, ◌<◌, ◌≡◌, true, false, List, ◌∷◌, ◌++◌, length, get_or}
use Rattle.std.proofs.Math.Path.{refl}
use Rattle.std.proofs.Common.{sym, ap, ap₂, subst, ◌∙◌, arith}
use Rattle.std.proofs.Math.Decide.{dec_lt}
use Rattle.std.proofs.Math.ListN.{get_or-eq_default}
use Rattle.meaning.specs.Bit.{bit}
use Rattle.meaning.specs.Formula.{Formula, never, always, prop, neg, next, finally, globally, until, release, and, or, implies, parts}
use Rattle.meaning.specs.Run.{Plant}
use Rattle.meaning.specs.Limits.{AcceptedTable}
use Rattle.syntax.specs.declared.Op.{Op}
use Rattle.syntax.specs.declared.Op.TheVariants.{Next, Finally, Globally, Until, Release, And, Or, Implies}
use Rattle.syntax.specs.declared.Node.{Node}
use Rattle.syntax.specs.declared.Rule.{Rule}
use Rattle.syntax.specs.Print.{Below}
use Rattle.words.specs.Lists.{list_at, length_list}
use Rattle.moves.specs.Fit.{entry}
use Rattle.meaning.specs.Step.{Value, Part, next_part, untilPart, releasePart, value, table}
use Rattle.theory.specs.Each.{Numbered, numbered_append}
use Rattle.theory.specs.Parts.{length_table}
use Rattle.model.specs.Values.{Tells, wholly}
use Rattle.model.specs.Tables.{is_next}
use Rattle.shape.specs.Ops.{op_at, is_part, is_step}
use Rattle.shape.specs.Shape.{begins_of, kinds_of, order_in}
use Rattle.truth.specs.Nodes.{own_of, word_at}
use Rattle.truth.specs.Asked.{Asked}
use Rattle.truth.specs.Rows.{told_of, part_at, row_at, rows_from}
use Rattle.truth.specs.Tables.{words_in, rows_in}
use Rattle.truth_laws.specs.Words.{own_small}
use Rattle.truth_laws.specs.Tree.{one, two, tree_of, nodes_in}
use Rattle.truth_laws.proofs.Numbers.{PartAt, kinds_at}
use Rattle.truth_laws.proofs.Occurs.{Occurs, above_plain, above_part, above_begins, one_above, two_left, two_above}
use Rattle.truth_laws.proofs.Shown.{own_wholly, small, shown}
use Rattle.truth_laws.specs.Told.{meant, TellsOne, TellsTwo, told_small, told_next, told_until, told_release, told_finally, told_globally}

module _ (T : Plant) (A : AcceptedTable T) (rule : Rule) where
  abbrev word : ℕ → ℕ → ℕ
  word p v = word_at (words_in T.label rule) p v

  abbrev begins : ℕ → ℕ
  begins p = get_or (begins_of rule.nodes rule.len) p 0

  abbrev order : ℕ → ℕ
  order k = get_or (order_in rule) k 0

  abbrev kinds : List Node
  kinds = kinds_of rule.nodes (order_in rule)

  -- what stands for part k at v
  abbrev told : Asked → ℕ → ℕ → ℕ
  told asked v k = told_of asked (op_at kinds k) (word (begins (order k)) v) (word (order k) v) (own_of v k)

  entry_at : (asked : Asked) (x : ℕ) → x < 384 → get_or (rows_in asked T.label rule) x 0 ≡ told asked (x / 6) (x % 6)
  unfolding rows_in rows_from row_at part_at
  entry_at asked x l = list_at 384 (λ i. told asked (i / 6) (i % 6)) x l

  entry_told : (asked : Asked) (v k : ℕ) → v < 64 → k < 6 → entry (rows_in asked T.label rule) v k ≡ told asked v k
  entry_told asked v k lv lk = entry_at asked (v * 6 + k) (omega arith) ∙ ap₂ (told asked) (omega arith) (omega arith)

  length_rows : (asked : Asked) → length (rows_in asked T.label rule) ≡ 384
  unfolding rows_in rows_from row_at part_at
  length_rows asked = length_list 384 (λ i. told asked (i / 6) (i % 6))

  -- each is a word
  pub entry_small : rule.len ≤ 32 → (asked : Asked) (x : ℕ) → get_or (rows_in asked T.label rule) x 0 < 2 ^ 64
  entry_small short asked x = elim (dec_lt x 384) [
    | yes l ↦ let v = x / 6 in let k = x % 6 in rw (entry_at asked x l)
        (told_small _ _ _ (small T A rule short (begins (order k)) v) (small T A rule short (order k) v) (own_small v k) asked (op_at kinds k))
    | no h ↦ rw (get_or-eq_default (rows_in asked T.label rule) 0 {n = x} (omega (arith, length_rows asked))) (omega arith)
  ]

  -- what the tables have of the part c is right, as its number is k
  pub record Row (c : Part) (k : ℕ) : Type 0 where
    pub tells : (asked : Asked) (v : ℕ) → v < 64 → Tells T (meant asked c) v (entry (rows_in asked T.label rule) v k)
    pub steps : is_step (op_at kinds k) ≡ is_next c

  -- the row of node x, whose operator is o, and the last of whose operands begins at place y
  part_row : (o : Op) (x y k : ℕ) (c : Part) → PartAt rule x k → op_at rule.nodes x ≡ o → begins x ≡ y → is_step o ≡ is_next c
      → ((asked : Asked) (v : ℕ) → v < 64 → Tells T (meant asked c) v (told_of asked o (word y v) (word x v) (wholly (bit v k)))) → Row c k
  part_row o x y k c p e b s h = record {
    tells = λ asked v lv. subst (Tells T (meant asked c) v) (sym (row asked v lv)) (h asked v lv);
    steps = ap is_step kind ∙ s;
  }
    where
      kind : op_at kinds k ≡ o
      kind = kinds_at rule.nodes (order_in rule) k p.few ∙ ap (op_at rule.nodes) p.order ∙ e

      row : (asked : Asked) (v : ℕ) → v < 64 → entry (rows_in asked T.label rule) v k ≡ told_of asked o (word y v) (word x v) (wholly (bit v k))
      row asked v lv =
          entry_told asked v k lv p.few
          ∙ ap₂ (λ (q : Op) (w : ℕ). told_of asked q (word (begins (order k)) v) (word (order k) v) w) kind (own_wholly v k p.few)
          ∙ ap (λ (z : ℕ). told_of asked o (word (begins z) v) (word z v) (wholly (bit v k))) p.order
          ∙ ap (λ (z : ℕ). told_of asked o (word z v) (word x v) (wholly (bit v k))) b

  -- wherever the rule g stands, the rows of its parts are right
  abbrev RowsOf : Formula → Type 0
  RowsOf g = (i n : ℕ) → Occurs rule (tree_of g) i n → Numbered Row (table g n) n

  -- the rows of a part and of its operands, by how many it takes
  one_rows : (o : Op) (part : ℕ → Value → Part) → is_part o ≡ true → ((k : ℕ) (b : Value) → is_step o ≡ is_next (part k b)) → TellsOne T A o part
      → (a : Formula) → Below T.props a → RowsOf a
      → (i n : ℕ) → Occurs rule (one o (tree_of a)) i n → Numbered Row (part n (value a (suc n)) ∷ table a (suc n)) n
  one_rows o part e step tells a b rest i n c =
      let above = one_above c in
      let h = above_part above e in
      let x = i + nodes_in (tree_of a) in (
        part_row o x i n (part n (value a (suc n))) h.0 above.op (above_begins above) (step n (value a (suc n)))
            (λ asked v lv. tells n v (value a (suc n)) (word i v) (word x v) (shown T A rule a h.1 b v lv) (small T A rule c.short x v) asked),
        rest i (suc n) h.1,
      )

  two_rows : (a : Formula) (n : ℕ) (cs : List Part) → Numbered Row (table a n) n → Numbered Row cs (n + parts a) → Numbered Row (table a n ++ cs) n
  two_rows a n cs h k = (numbered_append Row (table a n) cs n).1 (h, rw (length_table a n) k)

  part_rows : (o : Op) (part : ℕ → Value → Value → Part) → is_part o ≡ true → ((k : ℕ) (a b : Value) → is_step o ≡ is_next (part k a b)) → TellsTwo T A o part
      → (a b : Formula) → Below T.props a → Below T.props b → RowsOf a → RowsOf b → (i n : ℕ) → Occurs rule (two o (tree_of a) (tree_of b)) i n
      → Numbered Row (table a n ++ part (n + parts a) (value a n) (value b (suc (n + parts a))) ∷ table b (suc (n + parts a))) n
  part_rows o part e step tells a b below-a below-b left right i n c =
      let above = two_above a c in
      let h = above_part above e in
      let first = two_left a c in
      let y = i + nodes_in (tree_of a) in
      let x = y + nodes_in (tree_of b) in
      let m = n + parts a in
      two_rows a n _ (left i n first) (
        part_row o x y m (part m (value a n) (value b (suc m))) h.0 above.op (above_begins above) (step m (value a n) (value b (suc m)))
            (λ asked v lv. tells m v (value a n) (value b (suc m)) (word y v) (word x v) (shown T A rule a first below-a v lv) (shown T A rule b h.1 below-b v lv)
            (small T A rule c.short x v) asked),
        right y (suc m) h.1,
      )

  plain_rows : (o : Op) → is_part o ≡ false → (a b : Formula) → RowsOf a → RowsOf b → (i n : ℕ) → Occurs rule (two o (tree_of a) (tree_of b)) i n
      → Numbered Row (table a n ++ table b (n + parts a)) n
  plain_rows o e a b left right i n c = two_rows a n _ (left i n (two_left a c)) (right (i + nodes_in (tree_of a)) (n + parts a) (above_plain (two_above a c) e))

  pub rows_right : (g : Formula) → Below T.props g → RowsOf g
  unfolding tree_of Below table is_next
  rows_right never k = λ i n c. tt
  rows_right always k = λ i n c. tt
  rows_right (prop p) k = λ i n c. tt
  rows_right (neg a) k = λ i n c. rows_right a k i n (above_plain (one_above c) refl)
  rows_right (next a) k = one_rows Next next_part refl (λ k b. refl) (told_next T A) a k (rows_right a k)
  rows_right (finally a) k = one_rows Finally (λ k b. untilPart k (λ l v. true) b) refl (λ k b. refl) (told_finally T A) a k (rows_right a k)
  rows_right (globally a) k = one_rows Globally (λ k b. releasePart k (λ l v. false) b) refl (λ k b. refl) (told_globally T A) a k (rows_right a k)
  rows_right (until a b) k = part_rows Until untilPart refl (λ k a b. refl) (told_until T A) a b k.0 k.1 (rows_right a k.0) (rows_right b k.1)
  rows_right (release a b) k =
      part_rows Release releasePart refl (λ k a b. refl) (told_release T A) a b k.0 k.1 (rows_right a k.0) (rows_right b k.1)
  rows_right (and a b) k = plain_rows And refl a b (rows_right a k.0) (rows_right b k.1)
  rows_right (or a b) k = plain_rows Or refl a b (rows_right a k.0) (rows_right b k.1)
  rows_right (implies a b) k = plain_rows Implies refl a b (rows_right a k.0) (rows_right b k.1)
