-- One law for each shape that a level of the reader has: what its calls did is what the level's definition says.
use Prim.Native.Nat.{ℕ, zero, suc, ◌+◌, ◌-◌, ◌*◌, ◌≤◌, ◌<◌}
use mathlib.Core.Path.{◌≡◌, refl, sym, ap, ◌∙◌}
use mathlib.Core.List.{List, [], ◌∷◌, ◌++◌}
use mathlib.Core.Bool.{Bool, true, false, cond, false≢true}
use native.Mathlib.Omega.{arith}
use borrow.Author.Tests.{eq-eqb, ne_eqb, eqb-true}
use lib.Dec.{eqb}
use lib.ListN.{length}
use Rattle.syntax.specs.declared.Op.{Op}
use Rattle.syntax.specs.declared.Rule.{Rule}
use Rattle.syntax.specs.declared.Op.TheVariants.{False, True, Prop, Not, Next as Nexts, Finally, Globally, Until, Release, And, Or, Implies}
use Rattle.syntax.specs.declared.Token.{Token}
use Rattle.syntax.specs.declared.Token.TheVariants.{Leaf, Prefix, Infix, Open, Close, End}
use Rattle.syntax.specs.Bytes.{tokens}
use Rattle.syntax.specs.Reader.{Got, stay, onward, place, number, op_of, head, tail, begins, operator, leaf}
use Rattle.syntax.proofs.Stable.{picked, unpicked}
use Rattle.reader.specs.Draft.{pushed, written, closed_by, past_mark, Leads, Did, Next}
use Rattle.reader.specs.declared.Mark.{Mark}
use Rattle.reader.specs.declared.Draft.{Draft}

written_append : (r : Rule) (xs ys : List Op) → written r (xs ++ ys) ≡ written (written r xs) ys
unfolding written
written_append r [] ys = refl
written_append r (x ∷ xs) ys = written_append (pushed r x) xs ys

-- the token of a mark has the number k and the operator o
pub record Marks (m : Mark) (k : ℕ) (o : Op) : Type 0 where
  pub number_is : number m.token ≡ k
  pub op_is : op_of m.token ≡ o

pub marks : {m : Mark} {t : Token} → m.token ≡ t → Marks m (number t) (op_of t)
marks e = record { number_is = ap number e; op_is = ap op_of e }

-- the operator of a level that has but one
abbrev at_place : ℕ → Op
at_place zero = Implies
at_place (suc zero) = Or
at_place (suc (suc k)) = And

placed : (o : Op) → place o < 3 → o ≡ at_place (place o)
placed Implies h = refl
placed Or h = refl
placed And h = refl
placed Until h = absurd (omega arith)
placed Release h = absurd (omega arith)
placed False h = absurd (omega arith)
placed True h = absurd (omega arith)
placed (Prop k) h = absurd (omega arith)
placed Not h = absurd (omega arith)
placed Nexts h = absurd (omega arith)
placed Finally h = absurd (omega arith)
placed Globally h = absurd (omega arith)

-- which tokens are of a level, and which of none
pub no_infix : (t : Token) (o : Op) → place o < 3 → (t ≡ Infix o → ⊥) → number t ≡ place o → ⊥
no_infix (Infix p) o small n e = n (ap Infix (placed p (omega (arith, e, small)) ∙ ap at_place e ∙ sym (placed o small)))
no_infix (Prefix p) o small n e = absurd (omega arith)
no_infix (Leaf p) o small n e = absurd (omega arith)
no_infix Open o small n e = absurd (omega arith)
no_infix Close o small n e = absurd (omega arith)
no_infix End o small n e = absurd (omega arith)

place_few : (o : Op) (k : ℕ) → 3 < k → k < 9 → place o ≡ k → ⊥
place_few Implies n l h e = absurd (omega arith)
place_few Or n l h e = absurd (omega arith)
place_few And n l h e = absurd (omega arith)
place_few Until n l h e = absurd (omega arith)
place_few Release n l h e = absurd (omega arith)
place_few False n l h e = absurd (omega arith)
place_few True n l h e = absurd (omega arith)
place_few (Prop k) n l h e = absurd (omega arith)
place_few Not n l h e = absurd (omega arith)
place_few Nexts n l h e = absurd (omega arith)
place_few Finally n l h e = absurd (omega arith)
place_few Globally n l h e = absurd (omega arith)

pub no_prefix : (t : Token) → ((o : Op) → t ≡ Prefix o → ⊥) → number t ≡ 4 → ⊥
no_prefix (Infix o) n e = place_few o 4 (omega arith) (omega arith) e
no_prefix (Prefix o) n e = n o refl
no_prefix (Leaf o) n e = absurd (omega arith)
no_prefix Open n e = absurd (omega arith)
no_prefix Close n e = absurd (omega arith)
no_prefix End n e = absurd (omega arith)

pub no_leaf : (t : Token) → ((o : Op) → t ≡ Leaf o → ⊥) → number t ≡ 5 → ⊥
no_leaf (Infix o) n e = place_few o 5 (omega arith) (omega arith) e
no_leaf (Prefix o) n e = absurd (omega arith)
no_leaf (Leaf o) n e = n o refl
no_leaf Open n e = absurd (omega arith)
no_leaf Close n e = absurd (omega arith)
no_leaf End n e = absurd (omega arith)

pub no_open : (t : Token) → (t ≡ Open → ⊥) → number t ≡ 6 → ⊥
no_open (Infix o) n e = place_few o 6 (omega arith) (omega arith) e
no_open (Prefix o) n e = absurd (omega arith)
no_open (Leaf o) n e = absurd (omega arith)
no_open Open n e = n refl
no_open Close n e = absurd (omega arith)
no_open End n e = absurd (omega arith)

pub marks_until : {m : Mark} {o : Op} {b : Bool} → m.token ≡ Infix o → b ≡ eqb (place o) 3 → b ≡ true → Marks m 3 o
marks_until {m} {o} e is t = record { number_is = ap number e ∙ eqb-true (place o) 3 (sym is ∙ t); op_is = ap op_of e }

pub no_until : {t : Token} {o : Op} {b : Bool} → t ≡ Infix o → b ≡ eqb (place o) 3 → b ≡ false → number t ≡ 3 → ⊥
no_until {t} {o} e is f n = false≢true (sym f ∙ is ∙ eq-eqb (place o) 3 (ap number (sym e) ∙ n))

pub no_two : (t : Token) → ((o : Op) → t ≡ Infix o → ⊥) → number t ≡ 3 → ⊥
no_two (Infix o) n e = n o refl
no_two (Prefix o) n e = absurd (omega arith)
no_two (Leaf o) n e = absurd (omega arith)
no_two Open n e = absurd (omega arith)
no_two Close n e = absurd (omega arith)
no_two End n e = absurd (omega arith)

module _ (s : List ℕ) where
  leads_as : {d r : Draft} {g g' : Got} → g ≡ g' → Leads s d r g' → Leads s d r g
  leads_as e h = rw e h

  leads_stay : (d : Draft) → Leads s d d (stay (tokens s d.at))
  unfolding written
  leads_stay d = record { rule_is = refl; rest_is = refl }

  -- one after the other
  leads_onward : {d m r : Draft} {g : Got} (k : List Token → Got) → Leads s d m g → Leads s m r (k (tokens s m.at)) → Leads s d r (onward k g)
  leads_onward {d} {m} {r} {g} k a b =
      record {
        rule_is =
            b.rule_is ∙ ap (λ ts. written m.rule (k ts).out) a.rest_is ∙ ap (λ x. written x (k g.rest).out) a.rule_is
            ∙ sym (written_append d.rule g.out (k g.rest).out);
        rest_is = b.rest_is ∙ ap (λ ts. (k ts).rest) a.rest_is;
      }

  -- a mark is passed, and what it marks is written last
  leads_operator : {d r : Draft} {m : Mark} (k : List Token → Got) → Next s d.at m → Leads s (past_mark d m) r (k (tokens s m.next))
      → {o : Op} → op_of m.token ≡ o → Leads s d (closed_by r o) (operator k (tokens s d.at))
  unfolding written
  leads_operator {d} {r} {m} k x a {o} e =
      record {
        rule_is =
            ap (λ q. pushed q o) (a.rule_is ∙ ap (λ ts. written d.rule (k ts).out) x.rest_is)
            ∙ ap (λ o. pushed (written d.rule (k (tail (tokens s d.at))).out) o) (sym e ∙ ap op_of x.token_is)
            ∙ sym (written_append d.rule (k (tail (tokens s d.at))).out (op_of (head (tokens s d.at)) ∷ []));
        rest_is = a.rest_is ∙ ap (λ ts. (k ts).rest) x.rest_is;
      }

  -- a mark is passed, and nothing is written for it
  leads_inside : {d r : Draft} {m : Mark} (k : List Token → Got) → Next s d.at m → Leads s (past_mark d m) r (k (tokens s m.next))
      → Leads s d r (k (tail (tokens s d.at)))
  leads_inside {d} {r} {m} k x a =
      record {
        rule_is = a.rule_is ∙ ap (λ ts. written d.rule (k ts).out) x.rest_is;
        rest_is = a.rest_is ∙ ap (λ ts. (k ts).rest) x.rest_is;
      }

  -- which way the first token decides
  heard : {at k : ℕ} {m : Mark} → Next s at m → number m.token ≡ k → begins k (tokens s at) ≡ true
  heard x e = eq-eqb _ _ (ap number (sym x.token_is) ∙ e)

  unheard : {at k : ℕ} {m : Mark} → Next s at m → (number m.token ≡ k → ⊥) → begins k (tokens s at) ≡ false
  unheard x e = ne_eqb _ _ (λ q. e (ap number x.token_is ∙ q))

  -- past a mark that is no end, the text is read further
  pub further : {d p : Draft} {m : Mark} (k : ℕ) → k < 8 → Next s d.at m → number m.token ≡ k → p ≡ past_mark d m → (d.at < p.at) × (p.at ≤ length s)
  further k small x e past = rw past (x.moves (rw e small), x.within)

  -- a level f that groups to the right, above the level g
  module _ (k h : ℕ) (small : k < 8) (f g : ℕ → List Token → Got)
      (is : (n : ℕ) (ts : List Token) → f (suc (suc n)) ts ≡ onward (λ us. cond (begins k us) (operator (λ vs. f n vs) us) (stay us)) (g (suc n) ts)) where
    pub right_more : {d left p right r : Draft} {m : Mark} {o : Op} → Did g h s d left → Next s left.at m → Marks m k o
        → p ≡ past_mark left m → Did f (suc h) s p right → r ≡ closed_by right o → Did f (suc h) s d r
    right_more {d} {left} {p} {right} {r} {m} {o} a x e past b close =
        let b' : Did f (suc h) s (past_mark left m) right = rw past at b in
        let moves : left.at < m.next = x.moves (rw e.number_is small) in
        rw close (record { onward = omega (arith, a.onward, b'.onward); within = b'.within; leads = go b' moves })
      where
        go : Did f (suc h) s (past_mark left m) right → left.at < m.next → (n : ℕ) → 8 * (length s - d.at) + suc h < n → Leads s d (closed_by right o) (f n (tokens s d.at))
        go b' moves zero lt = absurd (omega arith)
        go b' moves (suc zero) lt = absurd (omega arith)
        go b' moves (suc (suc n)) lt =
            leads_as (is n _) (leads_onward (λ us. cond (begins k us) (operator (λ vs. f n vs) us) (stay us)) (a.leads (suc n) (omega arith))
            (leads_as (picked _ _ (heard x e.number_is)) (leads_operator (λ vs. f n vs) x (b'.leads n (omega (arith, a.onward, x.within))) e.op_is)))

    pub right_none : {d left : Draft} {m : Mark} → Did g h s d left → Next s left.at m → (number m.token ≡ k → ⊥) → Did f (suc h) s d left
    right_none {d} {left} {m} a x e = record { onward = a.onward; within = a.within; leads = go }
      where
        go : (n : ℕ) → 8 * (length s - d.at) + suc h < n → Leads s d left (f n (tokens s d.at))
        go zero lt = absurd (omega arith)
        go (suc zero) lt = absurd (omega arith)
        go (suc (suc n)) lt = leads_as (is n _) (leads_onward (λ us. cond (begins k us) (operator (λ vs. f n vs) us) (stay us)) (a.leads (suc n) (omega arith)) (leads_as (unpicked _ _ (unheard x e)) (leads_stay left)))

  -- a level f that groups to the left: an operand of the level g, and then what m reads
  module _ (h : ℕ) (f g m : ℕ → List Token → Got) (is : (n : ℕ) (ts : List Token) → f (suc n) ts ≡ onward (λ us. m n us) (g n ts)) where
    pub in_turn_lem : {d left r : Draft} → Did g h s d left → Did m 0 s left r → Did f (suc h) s d r
    in_turn_lem {d} {left} {r} a b = record { onward = omega (arith, a.onward, b.onward); within = b.within; leads = go }
      where
        go : (n : ℕ) → 8 * (length s - d.at) + suc h < n → Leads s d r (f n (tokens s d.at))
        go zero lt = absurd (omega arith)
        go (suc n) lt = leads_as (is n _) (leads_onward (λ us. m n us) (a.leads n (omega arith)) (b.leads n (omega (arith, a.onward))))

  -- what follows on such a level: an operator, an operand of the level g, and so on
  module _ (k h : ℕ) (small : k < 8) (low : h < 8) (f g : ℕ → List Token → Got)
      (is : (n : ℕ) (ts : List Token) → f (suc n) ts ≡ cond (begins k ts) (onward (λ us. f n us) (operator (λ us. g n us) ts)) (stay ts)) where
    pub left_more : {d p right q r : Draft} {m : Mark} {o : Op} → Next s d.at m → Marks m k o → p ≡ past_mark d m → Did g h s p right
        → q ≡ closed_by right o → Did f 0 s q r → Did f 0 s d r
    left_more {d} {p} {right} {q} {r} {m} {o} x e past a close b =
        let a' : Did g h s (past_mark d m) right = rw past at a in
        let b' : Did f 0 s (closed_by right o) r = rw close at b in
        let moves : d.at < m.next = x.moves (rw e.number_is small) in
        record { onward = omega (arith, a'.onward, b'.onward); within = b'.within; leads = go a' b' moves }
      where
        go : Did g h s (past_mark d m) right → Did f 0 s (closed_by right o) r → d.at < m.next → (n : ℕ) → 8 * (length s - d.at) + 0 < n
            → Leads s d r (f n (tokens s d.at))
        go a' b' moves zero lt = absurd (omega arith)
        go a' b' moves (suc n) lt =
            leads_as (is n _ ∙ picked _ _ (heard x e.number_is))
            (leads_onward (λ us. f n us) (leads_operator (λ us. g n us) x (a'.leads n (omega (arith, x.within))) e.op_is) (b'.leads n (omega (arith, x.within, a'.onward, a'.within))))

    pub left_none : {d : Draft} {m : Mark} → d.at ≤ length s → Next s d.at m → (number m.token ≡ k → ⊥) → Did f 0 s d d
    left_none {d} {m} le x e = record { onward = omega arith; within = le; leads = go }
      where
        go : (n : ℕ) → 8 * (length s - d.at) + 0 < n → Leads s d d (f n (tokens s d.at))
        go zero lt = absurd (omega arith)
        go (suc n) lt = leads_as (is n _ ∙ unpicked _ _ (unheard x e)) (leads_stay d)

  -- a level f of operators before their operand, above the level g
  module _ (k h : ℕ) (small : k < 8) (f g : ℕ → List Token → Got)
      (is : (n : ℕ) (ts : List Token) → f (suc n) ts ≡ cond (begins k ts) (operator (λ us. f n us) ts) (g n ts)) where
    pub before_more : {d p inner r : Draft} {m : Mark} {o : Op} → Next s d.at m → Marks m k o → p ≡ past_mark d m → Did f (suc h) s p inner
        → r ≡ closed_by inner o → Did f (suc h) s d r
    before_more {d} {p} {inner} {r} {m} {o} x e past a close =
        let a' : Did f (suc h) s (past_mark d m) inner = rw past at a in
        let moves : d.at < m.next = x.moves (rw e.number_is small) in
        rw close (record { onward = omega (arith, a'.onward); within = a'.within; leads = go a' moves })
      where
        go : Did f (suc h) s (past_mark d m) inner → d.at < m.next → (n : ℕ) → 8 * (length s - d.at) + suc h < n → Leads s d (closed_by inner o) (f n (tokens s d.at))
        go a' moves zero lt = absurd (omega arith)
        go a' moves (suc n) lt = leads_as (is n _ ∙ picked _ _ (heard x e.number_is)) (leads_operator (λ us. f n us) x (a'.leads n (omega (arith, x.within))) e.op_is)

    pub before_none : {d r : Draft} {m : Mark} → Next s d.at m → (number m.token ≡ k → ⊥) → Did g h s d r → Did f (suc h) s d r
    before_none {d} {r} {m} x e a = record { onward = a.onward; within = a.within; leads = go }
      where
        go : (n : ℕ) → 8 * (length s - d.at) + suc h < n → Leads s d r (f n (tokens s d.at))
        go zero lt = absurd (omega arith)
        go (suc n) lt = leads_as (is n _ ∙ unpicked _ _ (unheard x e)) (a.leads n (omega arith))

  -- the level f of leaves, which reads what stands in parentheses by g
  module _ (h : ℕ) (low : h < 8) (f g : ℕ → List Token → Got) (is : (n : ℕ) (ts : List Token) → f (suc n) ts ≡ leaf (λ us. g n us) ts) where
    pub leaf_one : {d p r : Draft} {m : Mark} {o : Op} → Next s d.at m → Marks m 5 o → p ≡ past_mark d m → r ≡ closed_by p o → Did f 0 s d r
    leaf_one {d} {p} {r} {m} {o} x e past close = rw (close, past) (record { onward = x.onward; within = x.within; leads = go })
      where
        go : (n : ℕ) → 8 * (length s - d.at) + 0 < n → Leads s d (closed_by (past_mark d m) o) (f n (tokens s d.at))
        go zero lt = absurd (omega arith)
        go (suc n) lt = leads_as (is n _ ∙ picked _ _ (heard x e.number_is)) (leads_operator stay x (leads_stay (past_mark d m)) e.op_is)

    pub leaf_group : {d p inner r : Draft} {m c : Mark} → Next s d.at m → (number m.token ≡ 5 → ⊥) → number m.token ≡ 6 → p ≡ past_mark d m → Did g h s p inner
        → Next s inner.at c → r ≡ past_mark inner c → Did f 0 s d r
    unfolding written
    leaf_group {d} {p} {inner} {r} {m} {c} x not e past a y close =
        let a' : Did g h s (past_mark d m) inner = rw past at a in
        let moves : d.at < m.next = x.moves (omega arith) in
        rw close (record { onward = omega (arith, a'.onward, y.onward); within = y.within; leads = go a' moves })
      where
        go : Did g h s (past_mark d m) inner → d.at < m.next → (n : ℕ) → 8 * (length s - d.at) + 0 < n → Leads s d (past_mark inner c) (f n (tokens s d.at))
        go a' moves zero lt = absurd (omega arith)
        go a' moves (suc n) lt =
            leads_as (is n _ ∙ unpicked _ _ (unheard x not) ∙ picked _ _ (heard x e))
            (leads_onward (λ us. stay (tail us)) (leads_inside (λ us. g n us) x (a'.leads n (omega (arith, x.within)))) (record { rule_is = refl; rest_is = y.rest_is }))

    pub leaf_none : {d : Draft} {m : Mark} → d.at ≤ length s → Next s d.at m → (number m.token ≡ 5 → ⊥) → (number m.token ≡ 6 → ⊥) → Did f 0 s d d
    leaf_none {d} {m} le x not neither = record { onward = omega arith; within = le; leads = go }
      where
        go : (n : ℕ) → 8 * (length s - d.at) + 0 < n → Leads s d d (f n (tokens s d.at))
        go zero lt = absurd (omega arith)
        go (suc n) lt = leads_as (is n _ ∙ unpicked _ _ (unheard x not) ∙ unpicked _ _ (unheard x neither)) (leads_stay d)
