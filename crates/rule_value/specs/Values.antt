-- Check 9: a value is accepted exactly where it is that of a rule within the limits.
use Rattle.std.specs.Prelude.{ℕ, zero, suc, ◌-◌, ◌≤◌, ◌≡◌, ◌↔◌, List, [], ◌∷◌, ◌++◌, Bool, true, ◌&&◌, length, take, drop, replicate}
use Rattle.std.proofs.Math.Path.{refl, ap}
use Rattle.std.proofs.Common.{sym, ◌∙◌, arith, length-drop, take-append-drop, length-take-le}
use Rattle.std.proofs.lemmas.Bool.{false≢true}
use borrow.Author.Tests.{lt-ltb, ltb-true, le-leb, leb-true}
use Rattle.meaning.specs.Formula.{Formula, never, always, prop, neg, next, finally, globally, until, release, and, or, implies, size, parts}
use Rattle.meaning.specs.Step.{every}
use Rattle.meaning.specs.Limits.{most_nodes, most_parts}
use Rattle.words.specs.Lists.{every_append}
use Rattle.syntax.specs.declared.Op.{Op}
use Rattle.syntax.specs.declared.Op.TheVariants.{False, True, Prop, Not, Next, Finally, Globally, Until, Release, And, Or, Implies}
use Rattle.syntax.specs.declared.Node.{Node}
use Rattle.syntax.specs.declared.Rule.{Rule}
use Rattle.syntax.specs.Postfix.{postfix, decode, whole}
use Rattle.syntax.specs.Print.{Below}
use Rattle.syntax.specs.Value.{blank, nodes_of, ops_of, rule_of, held, beyond, count}
use Rattle.syntax.proofs.Lexing.{both_true}
use Rattle.syntax.proofs.Whole.{of_rule, rule_whole}
use Rattle.syntax.proofs.Values.{nodes_ops, length_nodes, length_postfix, held_is, beyond_is, parts_held, decode_held}
use Rattle.rule_value.specs.Valid.{is_false, known, valid_of, RuleValue}

false_op : (o : Op) → is_false o ≡ true → o ≡ False
false_op False h = refl
false_op True h = absurd (false≢true h)
false_op (Prop k) h = absurd (false≢true h)
false_op Not h = absurd (false≢true h)
false_op Next h = absurd (false≢true h)
false_op Finally h = absurd (false≢true h)
false_op Globally h = absurd (false≢true h)
false_op Until h = absurd (false≢true h)
false_op Release h = absurd (false≢true h)
false_op And h = absurd (false≢true h)
false_op Or h = absurd (false≢true h)
false_op Implies h = absurd (false≢true h)

all_blank : (ns : List Node) → every is_false (ops_of ns) ≡ true → ns ≡ replicate (length ns) blank
unfolding every ops_of
all_blank [] h = refl
all_blank (n ∷ ns) h =
    let p = both_true (is_false n.op) (every is_false (ops_of ns)) h in
    ap (λ (o : Op). record { op = o } ∷ ns) (false_op n.op p.0) ∙ ap (λ l. blank ∷ l) (all_blank ns p.1)

blanks : (n : ℕ) → every is_false (ops_of (replicate n blank)) ≡ true
unfolding every ops_of
blanks zero = refl
blanks (suc n) = blanks n

both_so : {x y : Bool} → x ≡ true → y ≡ true → (x && y) ≡ true
both_so {x} {y} e f = ap (λ b. b && y) e ∙ f

-- each proposition of a rule is below q exactly where each of its nodes is
module _ (q : ℕ) where
  abbrev Exactly : List Op → Type 0 → Type 0
  Exactly os B = (every (known q) os ≡ true) ↔ B

  below_leaf : (o : Op) → known q o ≡ true → every (known q) (o ∷ []) ≡ true
  unfolding every
  below_leaf o e = ap (λ b. b && true) e

  below_one : (o : Op) → known q o ≡ true → (a : Formula) {B : Type 0} → Exactly (postfix a) B → Exactly (postfix a ++ o ∷ []) B
  below_one o e a x =
      let s = every_append (known q) (postfix a) (o ∷ []) in
      (λ h. x.0 (both_true _ _ (sym s ∙ h)).0, λ b. s ∙ both_so (x.1 b) (below_leaf o e))

  below_two : (o : Op) → known q o ≡ true → (a b : Formula) {A B : Type 0} → Exactly (postfix a) A → Exactly (postfix b) B → Exactly (postfix a ++ (postfix b ++ o ∷ [])) (A × B)
  below_two o e a b x y =
      let s = every_append (known q) (postfix a) (postfix b ++ o ∷ []) in
      let z = below_one o e b y in
      (λ h. let p = both_true _ _ (sym s ∙ h) in (x.0 p.0, z.0 p.1), λ c. s ∙ both_so (x.1 c.0) (z.1 c.1))

  pub below_nodes : (f : Formula) → Exactly (postfix f) (Below q f)
  unfolding postfix Below every
  below_nodes never = (λ h. tt, λ b. refl)
  below_nodes always = (λ h. tt, λ b. refl)
  below_nodes (prop k) = (λ h. ltb-true k q (both_true _ _ h).0, λ b. below_leaf (Prop k) (lt-ltb k q b))
  below_nodes (neg a) = below_one Not refl a (below_nodes a)
  below_nodes (next a) = below_one Next refl a (below_nodes a)
  below_nodes (finally a) = below_one Finally refl a (below_nodes a)
  below_nodes (globally a) = below_one Globally refl a (below_nodes a)
  below_nodes (until a b) = below_two Until refl a b (below_nodes a) (below_nodes b)
  below_nodes (release a b) = below_two Release refl a b (below_nodes a) (below_nodes b)
  below_nodes (and a b) = below_two And refl a b (below_nodes a) (below_nodes b)
  below_nodes (or a b) = below_two Or refl a b (below_nodes a) (below_nodes b)
  below_nodes (implies a b) = below_two Implies refl a b (below_nodes a) (below_nodes b)

pub rule_valid : {r : Rule} {q : ℕ} → RuleValue r q → valid_of r q ≡ true
rule_valid {r} {q} v = ap (λ x. valid_of x q) v.is ∙ go v.formula v.small v.few v.below
  where
    go : (f : Formula) → size f ≤ most_nodes → parts f ≤ most_parts → Below q f → valid_of (rule_of f) q ≡ true
    go f h g b =
        let e = held_is f in
        let p = parts_held f in
        both_so (both_so (both_so (both_so (le-leb (size f) most_nodes h) (ap (λ os. whole os 0) e ∙ rule_whole f)) (ap (every (known q)) e ∙ (below_nodes q f).1 b)) (le-leb (count (held (rule_of f))) most_parts (omega arith)))
        (ap (every is_false) (beyond_is f) ∙ blanks (most_nodes - size f))

-- what a valid value's test says
record Tested (r : Rule) (q : ℕ) : Type 0 where
  short : r.len ≤ most_nodes
  one : whole (held r) 0 ≡ true
  names : every (known q) (held r) ≡ true
  counts : count (held r) ≤ most_parts
  rest : every is_false (beyond r) ≡ true

tested : (r : Rule) (q : ℕ) → valid_of r q ≡ true → Tested r q
tested r q h =
    let p = both_true _ _ h in
    let s = both_true _ _ p.0 in
    let t = both_true _ _ s.0 in
    let u = both_true _ _ t.0 in
    record { short = leb-true r.len most_nodes u.0; one = u.1; names = t.1; counts = leb-true (count (held r)) most_parts s.1; rest = p.1 }

-- a value with f's nodes, and then False, is f's
rebuilt : (r : Rule) (f : Formula) → r.len ≡ size f → take r.len r.nodes ≡ nodes_of (postfix f) → drop r.len r.nodes ≡ replicate (most_nodes - size f) blank → r ≡ rule_of f
rebuilt r f long fore aft =
    ap (λ l. record { len = r.len; nodes = l }) (sym (take-append-drop r.len r.nodes) ∙ ap (λ l. l ++ drop r.len r.nodes) fore ∙ ap (λ l. nodes_of (postfix f) ++ l) aft)
    ∙ ap (λ k. record { len = k; nodes = nodes_of (postfix f) ++ replicate (most_nodes - size f) blank }) long

same_parts : (r : Rule) (f : Formula) → r ≡ rule_of f → count (held r) ≡ parts f
same_parts r f e = ap (λ x. count (held x)) e ∙ parts_held f

pub valid_rule : (r : Rule) (q : ℕ) → length r.nodes ≡ 32 → valid_of r q ≡ true → RuleValue r q
valid_rule r q full h =
    let t = tested r q h in
    let of = of_rule (held r) t.one in
    let f = of.0 in
    let ns = r.nodes in
    let fore : take r.len ns ≡ nodes_of (postfix f) = sym (nodes_ops (take r.len ns)) ∙ ap nodes_of of.1 in
    let long : r.len ≡ size f = sym (length-take-le r.len ns (omega (arith, t.short))) ∙ ap length fore ∙ length_nodes (postfix f) ∙ length_postfix f in
    let small : size f ≤ most_nodes = omega (arith, t.short) in
    let many : length (drop r.len ns) ≡ most_nodes - size f = length-drop r.len ns ∙ omega arith in
    let aft : drop r.len ns ≡ replicate (most_nodes - size f) blank = all_blank (drop r.len ns) t.rest ∙ ap (λ n. replicate n blank) many in
    let is = rebuilt r f long fore aft in
    record {
      formula = f;
      is = is;
      small = small;
      few = omega (arith, t.counts, same_parts r f is);
      below = (below_nodes q f).0 (ap (every (known q)) (sym of.1) ∙ t.names);
    }

-- a value handed in is accepted exactly where it is a rule's
pub valid_exactly : (r : Rule) (q : ℕ) → length r.nodes ≡ 32 → (valid_of r q ≡ true) ↔ RuleValue r q
valid_exactly r q full = (λ h. valid_rule r q full h, λ v. rule_valid v)

-- the rule of an accepted value, by reading its nodes
pub decoded : {r : Rule} {q : ℕ} (v : RuleValue r q) → decode (held r) [] ≡ v.formula ∷ []
decoded v = ap (λ x. decode (held x) []) v.is ∙ decode_held v.formula
