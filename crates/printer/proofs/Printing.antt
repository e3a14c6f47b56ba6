-- What is told of a rule's nodes is its printed text.
use Prim.Native.Nat.{ℕ, zero, suc, ◌+◌, ◌%◌, ◌≤◌, ◌<◌}
use mathlib.Core.Path.{◌≡◌, refl, sym, ap, ◌∙◌}
use mathlib.Core.List.{List, [], ◌∷◌, ◌++◌}
use native.Mathlib.Omega.{arith}
use Rattle.meaning.specs.Formula.{Formula, never, always, prop, neg, next, finally, globally, until, release, and, or, implies, size}
use Rattle.syntax.specs.declared.Op.{Op}
use Rattle.syntax.specs.declared.Op.TheVariants.{False, True, Prop, Not, Next, Finally, Globally, Until, Release, And, Or, Implies}
use mathlib.Core.Bool.{Bool, true, false, cond}
use borrow.Author.Tests.{lt-leb, le-leb}
use Rattle.syntax.specs.Grammar.{names, spell}
use Rattle.syntax.specs.Postfix.{postfix, sides}
use Rattle.syntax.specs.Print.{inside, print, Below}
use Rattle.syntax.proofs.Complete.{Ev, later, ev_both, map}
use Rattle.syntax.proofs.Printed.{length_inside}
use Rattle.syntax.proofs.Lexing.{by_digits, spelt_one, spelt_two}
use lib.ListN.{length, drop, take, get_or}
use lib.Seq.{take-suc}
use Rattle.syntax.specs.Value.{blank, ops_of, rule_of, held}
use Rattle.syntax.proofs.Values.{held_is, full_value}
use Rattle.syntax.specs.declared.Node.{Node}
use Rattle.syntax.specs.declared.Rule.{Rule}
use Rattle.writing.specs.Put.{Put, put_over}
use Rattle.printer.specs.declared.Spot.{Spot}
use Rattle.printer.specs.Tell.{wide, ten, last, first, word, width, tell, share, shares, back, onto, Shows, Told, Prints}
use Rattle.printer.proofs.Trees.{tell_leaf, tell_one, tell_two}

onto_append : (os ps r : List Op) → onto (os ++ ps) r ≡ onto ps (onto os r)
unfolding onto
onto_append [] ps r = refl
onto_append (o ∷ os) ps r = onto_append os ps (o ∷ r)

ops_append : (ns ms : List Node) → ops_of (ns ++ ms) ≡ ops_of ns ++ ops_of ms
unfolding ops_of
ops_append [] ms = refl
ops_append (n ∷ ns) ms = ap (λ os. n.op ∷ os) (ops_append ns ms)

-- the text f is told of the nodes os, and r is left
abbrev Tells : Formula → List Op → List Op → Type 0
Tells f os r = Ev (λ n. tell n os ≡ record { text = print f; rest = r })

one : (o : Op) → sides o ≡ 1 → (a : Formula) (r : List Op) → Tells a (onto (postfix a) r) r
    → Ev (λ n. tell n (onto (postfix a ++ o ∷ []) r) ≡ record { text = word o ++ print a; rest = r })
unfolding onto
one o e a r ih =
    later (map ih (λ n x. ap (tell (suc n)) (onto_append (postfix a) (o ∷ []) r) ∙ tell_one o (onto (postfix a) r) n e
    ∙ ap (λ l. record { text = word o ++ l.text; rest = l.rest }) x))

two : (o : Op) → (sides o ≡ 0 → ⊥) → (sides o ≡ 1 → ⊥) → (a b : Formula) (r : List Op) → Tells a (onto (postfix a) r) r → Tells b (onto (postfix b) (onto (postfix a) r)) (onto (postfix a) r)
    → Ev (λ n. tell n (onto (postfix a ++ (postfix b ++ o ∷ [])) r) ≡ record { text = inside (print a) (word o) (print b); rest = r })
unfolding onto
two o e f a b r p q =
    later (ev_both p q (λ n x y. ap (tell (suc n)) (onto_append (postfix a) (postfix b ++ o ∷ []) r ∙ onto_append (postfix b) (o ∷ []) (onto (postfix a) r))
    ∙ tell_two o (onto (postfix b) (onto (postfix a) r)) n e f
    ∙ ap (λ l. record { text = inside (tell n l.rest).text (word o) l.text; rest = (tell n l.rest).rest }) y
    ∙ ap (λ l. record { text = inside l.text (word o) (print b); rest = l.rest }) x))

-- a proposition's word is its name
name_word : (k : ℕ) → k < names → word (Prop k) ≡ 112 ∷ spell k
name_word k h = by_digits {P = λ k. word (Prop k) ≡ 112 ∷ spell k} one_digit two_digits k h
  where
    one_digit : (k : ℕ) → k < 10 → word (Prop k) ≡ 112 ∷ spell k
    one_digit k l =
        let e : k % names % 10 ≡ k = omega arith in
        rw (spelt_one k l, lt-leb 10 (k % names) (omega arith), e)

    two_digits : (k : ℕ) → 10 + k < names → word (Prop (10 + k)) ≡ 112 ∷ spell (10 + k)
    two_digits k l =
        let e : (10 + k) % names % 10 ≡ k = omega arith in
        rw (spelt_two k l, le-leb 10 ((10 + k) % names) (omega arith), e)

pub told_print : (f : Formula) → Below names f → (r : List Op) → Tells f (onto (postfix f) r) r
unfolding print postfix onto Below
told_print never h r = later (0, λ n _. tell_leaf False r n refl)
told_print always h r = later (0, λ n _. tell_leaf True r n refl)
told_print (prop k) h r = later (0, λ n _. tell_leaf (Prop k) r n refl ∙ ap (λ t. record { text = t; rest = r }) (name_word k h))
told_print (neg a) h r = one Not refl a r (told_print a h r)
told_print (next a) h r = one Next refl a r (told_print a h r)
told_print (finally a) h r = one Finally refl a r (told_print a h r)
told_print (globally a) h r = one Globally refl a r (told_print a h r)
told_print (until a b) h r = two Until (λ e. omega arith) (λ e. omega arith) a b r (told_print a h.0 r) (told_print b h.1 _)
told_print (release a b) h r = two Release (λ e. omega arith) (λ e. omega arith) a b r (told_print a h.0 r) (told_print b h.1 _)
told_print (and a b) h r = two And (λ e. omega arith) (λ e. omega arith) a b r (told_print a h.0 r) (told_print b h.1 _)
told_print (or a b) h r = two Or (λ e. omega arith) (λ e. omega arith) a b r (told_print a h.0 r) (told_print b h.1 _)
told_print (implies a b) h r = two Implies (λ e. omega arith) (λ e. omega arith) a b r (told_print a h.0 r) (told_print b h.1 _)

-- what a node brings
pub share_few : (o : Op) → share o ≤ 4
share_few False = omega arith
share_few True = omega arith
share_few (Prop k) = by_test (ten (Prop k))
  where
    by_test : (b : Bool) → 1 + cond b 2 1 + 0 ≤ 4
    by_test true = omega arith
    by_test false = omega arith
share_few Not = omega arith
share_few Next = omega arith
share_few Finally = omega arith
share_few Globally = omega arith
share_few Until = omega arith
share_few Release = omega arith
share_few And = omega arith
share_few Or = omega arith
share_few Implies = omega arith

-- a rule's nodes bring as many bytes as its text has
shares_append : (os ps : List Op) → shares (os ++ ps) ≡ shares os + shares ps
unfolding shares
shares_append [] ps = omega arith
shares_append (o ∷ os) ps = omega (arith, shares_append os ps)

shares_onto : (os r : List Op) → shares (onto os r) ≡ shares os + shares r
unfolding shares onto
shares_onto [] r = omega arith
shares_onto (o ∷ os) r = omega (arith, shares_onto os (o ∷ r))

-- a word has its width
word_long : (o : Op) → length (word o) ≡ width o
word_long o = by_tests (wide o) (ten o)
  where
    by_tests : (x y : Bool) → length (cond x (first o ∷ cond y (49 ∷ last o ∷ []) (last o ∷ [])) (cond y (49 ∷ last o ∷ []) (last o ∷ []))) ≡ cond x 1 0 + cond y 2 1
    by_tests true true = refl
    by_tests true false = refl
    by_tests false true = refl
    by_tests false false = refl

brought : (f : Formula) → Below names f → shares (postfix f) ≡ length (print f)
unfolding shares postfix print Below
brought never h = refl
brought always h = refl
brought (prop k) h = omega (arith, word_long (Prop k), ap length (name_word k h))
brought (neg a) h = omega (arith, shares_append (postfix a) (Not ∷ []), brought a h)
brought (next a) h = omega (arith, shares_append (postfix a) (Next ∷ []), brought a h)
brought (finally a) h = omega (arith, shares_append (postfix a) (Finally ∷ []), brought a h)
brought (globally a) h = omega (arith, shares_append (postfix a) (Globally ∷ []), brought a h)
brought (until a b) h = omega (arith, shares_append (postfix a) (postfix b ++ Until ∷ []), shares_append (postfix b) (Until ∷ []), brought a h.0, brought b h.1, length_inside (print a) (85 ∷ []) (print b))
brought (release a b) h = omega (arith, shares_append (postfix a) (postfix b ++ Release ∷ []), shares_append (postfix b) (Release ∷ []), brought a h.0, brought b h.1, length_inside (print a) (82 ∷ []) (print b))
brought (and a b) h = omega (arith, shares_append (postfix a) (postfix b ++ And ∷ []), shares_append (postfix b) (And ∷ []), brought a h.0, brought b h.1, length_inside (print a) (38 ∷ []) (print b))
brought (or a b) h = omega (arith, shares_append (postfix a) (postfix b ++ Or ∷ []), shares_append (postfix b) (Or ∷ []), brought a h.0, brought b h.1, length_inside (print a) (124 ∷ []) (print b))
brought (implies a b) h = omega (arith, shares_append (postfix a) (postfix b ++ Implies ∷ []), shares_append (postfix b) (Implies ∷ []), brought a h.0, brought b h.1, length_inside (print a) (45 ∷ 62 ∷ []) (print b))

-- the nodes before k backwards are the first k nodes, the last one first
back_ops : (ns : List Node) (k : ℕ) → k ≤ length ns → back ns k ≡ onto (ops_of (take k ns)) []
unfolding back onto ops_of
back_ops ns zero h = refl
back_ops ns (suc k) h =
    let o = (get_or ns k blank).op in
    ap (λ os. o ∷ os) (back_ops ns k (omega arith)) ∙ sym (onto_append (ops_of (take k ns)) (o ∷ []) [])
    ∙ ap (λ os. onto os []) (sym (ops_append (take k ns) (get_or ns k blank ∷ [])) ∙ ap ops_of (sym (take-suc ns k blank h)))

module _ {rule : Rule} {f : Formula} (x : Shows rule f) where
  pub short : rule.len ≤ 32
  short = omega (arith, x.small, ap (λ r. r.len) x.is)

  pub back_is : back rule.nodes rule.len ≡ onto (postfix f) []
  back_is = ap (λ r. back r.nodes r.len) x.is ∙ back_ops (rule_of f).nodes (size f) (omega (arith, x.small, full_value f x.small)) ∙ ap (λ os. onto os []) (held_is f)

  pub room_is : shares (held rule) ≡ length (print f)
  room_is = ap (λ r. shares (held r)) x.is ∙ ap shares (held_is f) ∙ brought f x.below

  pub same_room : shares (back rule.nodes rule.len) ≡ shares (held rule)
  unfolding shares
  same_room = ap shares back_is ∙ shares_onto (postfix f) [] ∙ (let e = brought f x.below in let g = room_is in omega arith)

nothing_left : (ns : List Node) (k : ℕ) → back ns k ≡ [] → shares (back ns k) ≡ 0
unfolding shares
nothing_left ns k e = ap shares e

-- what is told of the whole rule is its text
pub printing : {rule : Rule} {a b : List ℕ} {hi : ℕ} {r : Spot} → hi ≡ shares (held rule) → Told rule.nodes rule.len hi a r b → Prints rule a hi b
printing {rule} {a} {b} {hi} {r} e x =
    record {
      long = λ f s. e ∙ room_is s;
      text = λ f s. go f s;
    }
  where
    go : (f : Formula) → Shows rule f → b ≡ print f ++ drop hi a
    go f s =
        let t = told_print f s.below [] in
        let n = suc rule.len + t.0 in
        let l : tell n (back rule.nodes rule.len) ≡ record { text = print f; rest = [] } = ap (tell n) (back_is s) ∙ t.1 n (omega arith) in
        let y = x.told n (omega arith) in
        let none = nothing_left rule.nodes r.node (sym y.0 ∙ ap (λ z. z.rest) l) in
        let zero_at : r.at ≡ 0 = omega (arith, x.paid, same_room s) in
        let w : Put a 0 (print f) b hi = rw (zero_at, ap (λ z. z.text) l) at y.1 in
        let (long, is) = put_over w in
        is ∙ ap (λ (n : ℕ). print f ++ drop n a) (sym long)
