-- Which nodes are those of a rule: exactly those that are whole.
use Prim.Native.Nat.{ℕ, suc, ◌+◌, ◌-◌, ◌≤◌}
use mathlib.Core.Path.{◌≡◌, refl, sym, ap, ◌∙◌}
use mathlib.Core.List.{List, [], ◌∷◌, ◌++◌, append_assoc, append-nil}
use mathlib.Core.Bool.{true, ◌&&◌}
use native.Mathlib.Omega.{arith}
use borrow.Author.Tests.{eqb-true, leb-true, le-leb}
use lib.Dec.{leb}
use lib.ListN.{length}
use Rattle.meaning.specs.Formula.{Formula, never, always, prop, neg, next, finally, globally, until, release, and, or, implies}
use Rattle.syntax.specs.declared.Op.{Op}
use Rattle.syntax.specs.declared.Op.TheVariants.{False, True, Prop, Not, Next, Finally, Globally, Until, Release, And, Or, Implies}
use Rattle.syntax.specs.Postfix.{postfix, sides, whole}
use Rattle.syntax.proofs.Lexing.{both_true}

-- the nodes of the rules on a stack, the top one last
stacked : List Formula → List Op
stacked [] = []
stacked (f ∷ fs) = stacked fs ++ postfix f

-- the nodes of a stack and what follows are those of a rule
abbrev Made : List Formula → List Op → Type 0
Made fs os = (f : Formula) × (stacked fs ++ os ≡ postfix f)

-- what a whole list says after its first node
after : (o : Op) (os : List Op) (d e : ℕ) → whole (o ∷ os) d ≡ true → d + 1 - sides o ≡ e → (sides o ≤ d) × (whole os e ≡ true)
unfolding whole
after o os d e h q = let p = both_true (leb (sides o) d) (whole os (d + 1 - sides o)) h in (leb-true (sides o) d p.0, ap (whole os) (sym q) ∙ p.1)

-- a node on the stack: the rule that it makes takes the place of those that it takes
leaf : (o : Op) (g : Formula) → sides o ≡ 0 → postfix g ≡ o ∷ [] → (os : List Op) (fs : List Formula) → whole (o ∷ os) (length fs) ≡ true
    → ((gs : List Formula) → whole os (length gs) ≡ true → Made gs os) → Made fs (o ∷ os)
unfolding stacked
leaf o g z p os fs h k =
    let r = k (g ∷ fs) (after o os (length fs) (suc (length fs)) h (omega arith)).1 in
    (r.0, sym (append_assoc (stacked fs) (o ∷ []) os) ∙ ap (λ x. (stacked fs ++ x) ++ os) (sym p) ∙ r.1)

one : (o : Op) (u : Formula → Formula) → sides o ≡ 1 → ((f : Formula) → postfix (u f) ≡ postfix f ++ o ∷ []) → (os : List Op) (fs : List Formula) → whole (o ∷ os) (length fs) ≡ true
    → ((gs : List Formula) → whole os (length gs) ≡ true → Made gs os) → Made fs (o ∷ os)
unfolding stacked
one o u z p os [] h k = absurd (omega (arith, (after o os 0 0 h (omega arith)).0))
one o u z p os (f ∷ fs) h k =
    let r = k (u f ∷ fs) (after o os (suc (length fs)) (suc (length fs)) h (omega arith)).1 in
    (r.0, sym (append_assoc (stacked fs ++ postfix f) (o ∷ []) os) ∙ ap (λ x. x ++ os) (append_assoc (stacked fs) (postfix f) (o ∷ [])) ∙ ap (λ x. (stacked fs ++ x) ++ os) (sym (p f)) ∙ r.1)

two : (o : Op) (j : Formula → Formula → Formula) → sides o ≡ 2 → ((f g : Formula) → postfix (j f g) ≡ postfix f ++ (postfix g ++ o ∷ [])) → (os : List Op) (fs : List Formula)
    → whole (o ∷ os) (length fs) ≡ true → ((gs : List Formula) → whole os (length gs) ≡ true → Made gs os) → Made fs (o ∷ os)
unfolding stacked
two o j z p os [] h k = absurd (omega (arith, (after o os 0 0 h (omega arith)).0))
two o j z p os (g ∷ []) h k = absurd (omega (arith, (after o os 1 0 h (omega arith)).0))
two o j z p os (g ∷ f ∷ fs) h k =
    let r = k (j f g ∷ fs) (after o os (suc (suc (length fs))) (suc (length fs)) h (omega arith)).1 in
    let e : stacked fs ++ postfix f ++ postfix g ++ o ∷ os ≡ (stacked fs ++ (postfix f ++ (postfix g ++ o ∷ []))) ++ os = simp append_assoc in
    (r.0, e ∙ ap (λ x. (stacked fs ++ x) ++ os) (sym (p f g)) ∙ r.1)

made : (os : List Op) (fs : List Formula) → whole os (length fs) ≡ true → Made fs os
unfolding stacked whole postfix
made [] [] h = absurd (omega (arith, eqb-true 0 1 h))
made [] (f ∷ []) h = (f, append-nil (postfix f))
made [] (f ∷ g ∷ fs) h = absurd (omega (arith, eqb-true (suc (suc (length fs))) 1 h))
made (False ∷ os) fs h = leaf False never refl refl os fs h (λ gs e. made os gs e)
made (True ∷ os) fs h = leaf True always refl refl os fs h (λ gs e. made os gs e)
made (Prop k ∷ os) fs h = leaf (Prop k) (prop k) refl refl os fs h (λ gs e. made os gs e)
made (Not ∷ os) fs h = one Not neg refl (λ f. refl) os fs h (λ gs e. made os gs e)
made (Next ∷ os) fs h = one Next next refl (λ f. refl) os fs h (λ gs e. made os gs e)
made (Finally ∷ os) fs h = one Finally finally refl (λ f. refl) os fs h (λ gs e. made os gs e)
made (Globally ∷ os) fs h = one Globally globally refl (λ f. refl) os fs h (λ gs e. made os gs e)
made (Until ∷ os) fs h = two Until until refl (λ f g. refl) os fs h (λ gs e. made os gs e)
made (Release ∷ os) fs h = two Release release refl (λ f g. refl) os fs h (λ gs e. made os gs e)
made (And ∷ os) fs h = two And and refl (λ f g. refl) os fs h (λ gs e. made os gs e)
made (Or ∷ os) fs h = two Or or refl (λ f g. refl) os fs h (λ gs e. made os gs e)
made (Implies ∷ os) fs h = two Implies implies refl (λ f g. refl) os fs h (λ gs e. made os gs e)

-- whole nodes are those of a rule
pub of_rule : (os : List Op) → whole os 0 ≡ true → (f : Formula) × (os ≡ postfix f)
unfolding stacked
of_rule os h = made os [] h

-- the nodes of a rule put one rule on the stack
next_node : (o : Op) (os : List Op) (d e : ℕ) → sides o ≤ d → d + 1 - sides o ≡ e → whole (o ∷ os) d ≡ whole os e
unfolding whole
next_node o os d e h q = ap (λ b. b && whole os (d + 1 - sides o)) (le-leb (sides o) d h) ∙ ap (whole os) q

puts : (f : Formula) (os : List Op) (d : ℕ) → whole (postfix f ++ os) d ≡ whole os (suc d)
unfolding postfix
puts never os d = next_node False os d (suc d) (omega arith) (omega arith)
puts always os d = next_node True os d (suc d) (omega arith) (omega arith)
puts (prop k) os d = next_node (Prop k) os d (suc d) (omega arith) (omega arith)
puts (neg a) os d = rw append_assoc (puts a (Not ∷ os) d ∙ next_node Not os (suc d) (suc d) (omega arith) (omega arith))
puts (next a) os d = rw append_assoc (puts a (Next ∷ os) d ∙ next_node Next os (suc d) (suc d) (omega arith) (omega arith))
puts (finally a) os d = rw append_assoc (puts a (Finally ∷ os) d ∙ next_node Finally os (suc d) (suc d) (omega arith) (omega arith))
puts (globally a) os d = rw append_assoc (puts a (Globally ∷ os) d ∙ next_node Globally os (suc d) (suc d) (omega arith) (omega arith))
puts (until a b) os d = simp append_assoc (puts a (postfix b ++ Until ∷ os) d ∙ puts b (Until ∷ os) (suc d) ∙ next_node Until os (suc (suc d)) (suc d) (omega arith) (omega arith))
puts (release a b) os d = simp append_assoc (puts a (postfix b ++ Release ∷ os) d ∙ puts b (Release ∷ os) (suc d) ∙ next_node Release os (suc (suc d)) (suc d) (omega arith) (omega arith))
puts (and a b) os d = simp append_assoc (puts a (postfix b ++ And ∷ os) d ∙ puts b (And ∷ os) (suc d) ∙ next_node And os (suc (suc d)) (suc d) (omega arith) (omega arith))
puts (or a b) os d = simp append_assoc (puts a (postfix b ++ Or ∷ os) d ∙ puts b (Or ∷ os) (suc d) ∙ next_node Or os (suc (suc d)) (suc d) (omega arith) (omega arith))
puts (implies a b) os d = simp append_assoc (puts a (postfix b ++ Implies ∷ os) d ∙ puts b (Implies ∷ os) (suc d) ∙ next_node Implies os (suc (suc d)) (suc d) (omega arith) (omega arith))

pub rule_whole : (f : Formula) → whole (postfix f) 0 ≡ true
unfolding whole
rule_whole f = ap (λ os. whole os 0) (sym (append-nil (postfix f))) ∙ puts f [] 0
