-- A rule's nodes at every position: each puts on the stacks what its operands, there and ahead, make it.
-- What "holds at position i" means is left open here, and so is which positions are asked: see Rows.
use Rattle.std.specs.Prelude.{ℕ, zero, suc, ◌+◌, ◌-◌, ◌≤◌, ◌<◌, ◌≡◌, Bool, List, [], ◌∷◌, ◌++◌, length, get_or, replicate}
use Rattle.std.proofs.Math.Path.{refl}
use Rattle.std.proofs.Common.{sym, ap, subst, ◌∙◌, arith, zero-add}
use Rattle.meaning.specs.Bit.{bit}
use Rattle.meaning.specs.Says.{Says}
use Rattle.meaning.specs.Formula.{Formula, never, always, prop, neg, next, finally, globally, until, release, and, or, implies, size}
use Rattle.syntax.specs.declared.Op.{Op}
use Rattle.syntax.specs.declared.Op.TheVariants.{False, True, Prop, Not, Next, Finally, Globally, Until, Release, And, Or, Implies}
use Rattle.syntax.specs.declared.Node.{Node}
use Rattle.syntax.specs.Postfix.{postfix, sides}
use Rattle.syntax.specs.Value.{rule_of, blank, nodes_of}
use Rattle.syntax.specs.Grammar.{Level, Side, Atom, is_false, is_true, is_prop, Unary, is_not, is_next_lem, is_finally, is_globally, Binary, is_implies, is_or, is_and, is_until, is_release}
use Rattle.syntax.proofs.Values.{length_postfix}
use Rattle.theory.specs.Each.{Numbered, numbered_append, numbered_of}
use Rattle.shape.specs.Ops.{op_at}
use Rattle.node_value.specs.Unfold.{value_of, carry_of, pushed_of}
use Rattle.node_value.specs.Back.{back}
use Rattle.node_value.specs.Stack.{push_top, push_rest}

-- the operator o is node k
abbrev Is : List Node → Op → ℕ → Type 0
Is nodes o k = op_at nodes k ≡ o

pub nodes_at : (os : List Op) (rest : List Node) (k : ℕ) → k < length os → op_at (nodes_of os ++ rest) k ≡ get_or os k False
unfolding nodes_of
nodes_at [] rest k h = absurd (omega arith)
nodes_at (o ∷ os) rest zero h = refl
nodes_at (o ∷ os) rest (suc k) h = nodes_at os rest k (omega arith)

nodes_are : (f : Formula) → Numbered (Is (rule_of f).nodes) (postfix f) 0
nodes_are f = numbered_of (Is (rule_of f).nodes) False (postfix f) 0 (λ k l. rw zero-add (nodes_at (postfix f) (replicate (32 - size f) blank) k l))

-- a truth value at each position
abbrev pub Truths : Type 0
Truths = ℕ → Bool

-- what a node hands on at a position, from its operands' truth and from what lies ahead
abbrev pub hands_on : (ℕ → ℕ) → Op → Truths → Truths → ℕ → Bool → Bool
hands_on label op x y i ahead = carry_of op (y i) (value_of op (label i) (x i) (y i) ahead)

-- a node's truth at position i of n, where its last position is handed `end`
abbrev pub row_of : (ℕ → ℕ) → ℕ → Op → Truths → Truths → Bool → Truths
row_of label n op x y end i = value_of op (label i) (x i) (y i) (back (hands_on label op x y) end (n - suc i) (suc i))

module _ (Sem : Formula → ℕ → Type 0) (Asked : ℕ → Type 0) (at : ℕ → ℕ) where
  -- x has the truth of the rule f at each position i that is asked, at i's place
  pub record Tells (x : Truths) (f : Formula) : Type 0 where
    pub says : (i : ℕ) → Asked i → Says (x (at i)) (Sem f i)

  -- nodes' truths are made rightly of their operands'
  pub record Rows (row : Op → Truths → Truths → Truths) : Type 0 where
    pub leaf : {o : Op} {f : Formula} → Atom o f → (x y : Truths) → Tells (row o x y) f
    pub one : {o : Op} {u : Formula → Formula} → Unary o u → (a : Formula) (x y : Truths) → Tells y a → Tells (row o x y) (u a)
    pub two : {l : Level} {s : Side} {o : Op} {j : Formula → Formula → Formula} → Binary l s o j → (a b : Formula) (x y : Truths)
        → Tells x a → Tells y b → Tells (row o x y) (j a b)

  -- member k of the stacks tells the first of the rules, and so on
  abbrev Shows : (ℕ → ℕ) → List Formula → ℕ → Type 0
  Shows S [] k = Unit {0}
  Shows S (f ∷ fs) k = Tells (λ i. bit (S i) k) f × Shows S fs (suc k)

  tells_same : (x y : Truths) (f : Formula) → ((i : ℕ) → Asked i → x (at i) ≡ y (at i)) → Tells x f → Tells y f
  tells_same x y f e h = record { says = λ i a. subst (λ (b : Bool). Says b (Sem f i)) (e i a) (h.says i a) }

  -- what is left on the stacks
  shows_rest : (S S' : ℕ → ℕ) (m : ℕ) → ((i : ℕ) → Asked i → (k : ℕ) → suc k < 64 → bit (S' (at i)) (suc k) ≡ bit (S (at i)) (m + k))
      → (fs : List Formula) (k : ℕ) → suc k + length fs ≤ 64 → Shows S fs (m + k) → Shows S' fs (suc k)
  shows_rest S S' m e [] k l h = tt
  shows_rest S S' m e (f ∷ fs) k l h =
      let n : suc (m + k) ≡ m + suc k = omega arith in (
        tells_same (λ i. bit (S i) (m + k)) (λ i. bit (S' i) (suc k)) f (λ i a. sym (e i a k (omega arith))) h.0,
        shows_rest S S' m e fs (suc k) (omega arith) (rw n at h.1),
      )

  module _ (nodes : List Node) (len : ℕ) (row : Op → Truths → Truths → Truths) where
    -- S p is the stacks behind p nodes: each node puts its row on
    pub record Grown (S : ℕ → ℕ → ℕ) : Type 0 where
      pub grows : (p : ℕ) → p < len → (i : ℕ) → Asked i
          → S (suc p) (at i) ≡ pushed_of (S p (at i)) (op_at nodes p) (row (op_at nodes p) (λ j. bit (S p j) 1) (λ j. bit (S p j) 0) (at i))

    module _ (S : ℕ → ℕ → ℕ) (rows : Rows row) (grown : Grown S) where
      -- a node's operands off, and its row on
      shows_push : (p : ℕ) (o : Op) (m : ℕ) (f : Formula) (fs : List Formula) → p < len → op_at nodes p ≡ o → sides o ≡ m → suc (length fs) ≤ 64
          → Tells (row o (λ j. bit (S p j) 1) (λ j. bit (S p j) 0)) f → Shows (S p) fs m → Shows (S (suc p)) (f ∷ fs) 0
      shows_push p o m f fs lp e z few t h = (
        tells_same (row o x y) (λ i. bit (S (suc p) i) 0) f (λ i a. sym (ap (λ (s : ℕ). bit s 0) (made i a) ∙ push_top (S p (at i)) o (row o x y (at i)))) t,
        shows_rest (S p) (S (suc p)) m (λ i a k l. ap (λ (s : ℕ). bit s (suc k)) (made i a) ∙ rest i k l) fs 0 (omega arith) (rw n h),
      )
        where
          x : Truths
          x j = bit (S p j) 1

          y : Truths
          y j = bit (S p j) 0

          n : m + 0 ≡ m
          n = omega arith

          made : (i : ℕ) → Asked i → S (suc p) (at i) ≡ pushed_of (S p (at i)) o (row o x y (at i))
          made i a = grown.grows p lp i a ∙ rw e

          rest : (i k : ℕ) → suc k < 64 → bit (pushed_of (S p (at i)) o (row o x y (at i))) (suc k) ≡ bit (S p (at i)) (m + k)
          rest i k l = push_rest (S p (at i)) o (row o x y (at i)) k l ∙ rw z

      -- what the nodes of a rule do, where they stand from node p on: they put its truth on the stacks
      abbrev Puts : Formula → Type 0
      Puts f = (p : ℕ) (fs : List Formula) → Numbered (Is nodes) (postfix f) p → p + size f ≤ len → size f + length fs ≤ 64
          → Shows (S p) fs 0 → Shows (S (p + size f)) (f ∷ fs) 0

      first : (o : Op) (os : List Op) (p : ℕ) → Numbered (Is nodes) (o ∷ os) p → op_at nodes p ≡ o
      first o os p h = h.0

      split : (a : Formula) (os : List Op) (p : ℕ) → Numbered (Is nodes) (postfix a ++ os) p
          → Numbered (Is nodes) (postfix a) p × Numbered (Is nodes) os (p + size a)
      split a os p h = rw (length_postfix a) at ((numbered_append (Is nodes) (postfix a) os p).0 h)

      -- by how many operands it takes
      puts_leaf : (o : Op) (f : Formula) → Atom o f → sides o ≡ 0 → (p : ℕ) (fs : List Formula) → Numbered (Is nodes) (o ∷ []) p → p + 1 ≤ len
          → 1 + length fs ≤ 64 → Shows (S p) fs 0 → Shows (S (p + 1)) (f ∷ fs) 0
      puts_leaf o f r z p fs h l few s =
          let e : p + 1 ≡ suc p = omega arith in
          subst (λ (k : ℕ). Shows (S k) (f ∷ fs) 0) (sym e) (shows_push p o 0 f fs (omega arith) (first o [] p h) z (omega arith) (rows.leaf r _ _) s)

      puts_one : (o : Op) (u : Formula → Formula) → Unary o u → sides o ≡ 1 → (a : Formula) → Puts a
          → (p : ℕ) (fs : List Formula) → Numbered (Is nodes) (postfix a ++ o ∷ []) p → p + suc (size a) ≤ len
          → suc (size a) + length fs ≤ 64 → Shows (S p) fs 0 → Shows (S (p + suc (size a))) (u a ∷ fs) 0
      puts_one o u r z a puts p fs h l few s =
          let e : p + suc (size a) ≡ suc (p + size a) = omega arith in
          let n = split a (o ∷ []) p h in
          let t = puts p fs n.0 (omega arith) (omega arith) s in
          subst (λ (k : ℕ). Shows (S k) (u a ∷ fs) 0) (sym e) (shows_push (p + size a) o 1 (u a) fs (omega arith) (first o [] (p + size a) n.1) z (omega arith) (rows.one r a _ _ t.0) t.1)

      puts_two : {v : Level} {d : Side} (o : Op) (j : Formula → Formula → Formula) → Binary v d o j → sides o ≡ 2 → (a b : Formula) → Puts a → Puts b
          → (p : ℕ) (fs : List Formula) → Numbered (Is nodes) (postfix a ++ (postfix b ++ o ∷ [])) p → p + suc (size a + size b) ≤ len
          → suc (size a + size b) + length fs ≤ 64 → Shows (S p) fs 0 → Shows (S (p + suc (size a + size b))) (j a b ∷ fs) 0
      puts_two o j r z a b first-puts puts p fs h l few s =
          let q = p + size a + size b in
          let e : p + suc (size a + size b) ≡ suc (p + size a + size b) = omega arith in
          let n = split a (postfix b ++ o ∷ []) p h in
          let m = split b (o ∷ []) (p + size a) n.1 in
          let t = puts (p + size a) (a ∷ fs) m.0 (omega arith) (omega arith) (first-puts p fs n.0 (omega arith) (omega arith) s) in
          subst (λ (k : ℕ). Shows (S k) (j a b ∷ fs) 0) (sym e) (shows_push q o 2 (j a b) fs (omega arith) (first o [] q m.1) z (omega arith) (rows.two r a b _ _ t.1.0 t.0) t.1.1)

      puts : (f : Formula) → Puts f
      unfolding postfix size
      puts never = puts_leaf False never is_false refl
      puts always = puts_leaf True always is_true refl
      puts (prop k) = puts_leaf (Prop k) (prop k) (is_prop k) refl
      puts (neg a) = puts_one Not neg is_not refl a (puts a)
      puts (next a) = puts_one Next next is_next_lem refl a (puts a)
      puts (finally a) = puts_one Finally finally is_finally refl a (puts a)
      puts (globally a) = puts_one Globally globally is_globally refl a (puts a)
      puts (until a b) = puts_two Until until is_until refl a b (puts a) (puts b)
      puts (release a b) = puts_two Release release is_release refl a b (puts a) (puts b)
      puts (and a b) = puts_two And and is_and refl a b (puts a) (puts b)
      puts (or a b) = puts_two Or or is_or refl a b (puts a) (puts b)
      puts (implies a b) = puts_two Implies implies is_implies refl a b (puts a) (puts b)

-- behind the nodes of a rule's value the top of the stacks tells the rule
module _ (Sem : Formula → ℕ → Type 0) (Asked : ℕ → Type 0) (at : ℕ → ℕ) (row : Op → Truths → Truths → Truths) (rows : Rows Sem Asked at row) where
  pub rule_told : (f : Formula) (S : ℕ → ℕ → ℕ) → size f ≤ 32 → Grown Sem Asked at (rule_of f).nodes (size f) row S
      → Tells Sem Asked at (λ i. bit (S (size f) i) 0) f
  rule_told f S few grown = rw z at (puts Sem Asked at (rule_of f).nodes (size f) row S rows grown f 0 [] (nodes_are f) (omega arith) (omega arith) tt).0
    where
      z : 0 + size f ≡ size f
      z = omega arith
