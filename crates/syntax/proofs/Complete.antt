-- The reader reads every text of the grammar, whatever follows it: so a text says one rule only.
use Prim.Native.Nat.{ℕ, zero, suc, ◌+◌, ◌≤◌, ◌<◌}
use mathlib.Core.Path.{◌≡◌, refl, sym, ap, ◌∙◌}
use mathlib.Core.List.{List, [], ◌∷◌, ◌++◌, append_assoc, append-nil}
use mathlib.Core.Bool.{false}
use native.Mathlib.Omega.{arith}
use borrow.Author.Tests.{ne_eqb}
use Rattle.meaning.specs.Formula.{Formula}
use Rattle.syntax.specs.declared.Op.{Op}
use Rattle.syntax.specs.declared.Token.{Token}
use Rattle.syntax.specs.declared.Token.TheVariants.{Leaf, Prefix, Infix, Open, Close, End}
use Rattle.syntax.specs.Grammar.{Level, arrows, ors, ands, untils, prefixes, leaves, tighter, Side, left, right, Atom, is_false, is_true, is_prop, Unary, is_not, is_next_lem, is_finally, is_globally, Binary, is_implies, is_or, is_and, is_until, is_release, Text, atom, group, unary, lefts, rights, tight}
use Rattle.syntax.specs.Postfix.{postfix}
use Rattle.syntax.specs.Reader.{Got, stay, written_first, closed, onward, place, rank, head, tail, begins, read, more}
use Rattle.syntax.proofs.Stable.{unpicked}

-- P holds from some fuel on
abbrev pub Ev : (ℕ → Type 0) → Type 0
Ev P = (m : ℕ) × ((n : ℕ) → m ≤ n → P n)

pub later : {P : ℕ → Type 0} → Ev (λ n. P (suc n)) → Ev P
later {P} e = (suc e.0, go)
  where
    go : (n : ℕ) → suc e.0 ≤ n → P n
    go zero h = absurd (omega arith)
    go (suc n) h = e.1 n (omega arith)

pub ev_both : {P Q R : ℕ → Type 0} → Ev P → Ev Q → ((n : ℕ) → P n → Q n → R n) → Ev R
ev_both p q k = (p.0 + q.0, λ n h. k n (p.1 n (omega arith)) (q.1 n (omega arith)))

pub map : {P Q : ℕ → Type 0} → Ev P → ((n : ℕ) → P n → Q n) → Ev Q
map p k = (p.0, λ n h. k n (p.1 n h))

-- one more than the level's number of the operator with which the tokens begin; 0 if they begin with no operator
front : List Token → ℕ
front [] = 0
front (Infix o ∷ ts) = suc (place o)
front (Leaf o ∷ ts) = 0
front (Prefix o ∷ ts) = 0
front (Open ∷ ts) = 0
front (Close ∷ ts) = 0
front (End ∷ ts) = 0

unheard : (k : ℕ) (ts : List Token) → k < 4 → front ts ≤ k → begins k ts ≡ false
unfolding front head
unheard k [] h g = ne_eqb 8 k (λ e. omega arith)
unheard k (Infix o ∷ ts) h g = ne_eqb (place o) k (λ e. omega arith)
unheard k (Leaf o ∷ ts) h g = ne_eqb 5 k (λ e. omega arith)
unheard k (Prefix o ∷ ts) h g = ne_eqb 4 k (λ e. omega arith)
unheard k (Open ∷ ts) h g = ne_eqb 6 k (λ e. omega arith)
unheard k (Close ∷ ts) h g = ne_eqb 7 k (λ e. omega arith)
unheard k (End ∷ ts) h g = ne_eqb 8 k (λ e. omega arith)

-- tokens that begin with no operator of the level are left
quiet : (l : Level) (ts : List Token) → front ts ≤ rank l → Ev (λ n. more n l ts ≡ stay ts)
unfolding more rank
quiet arrows ts h = later (0, λ n _. unpicked _ _ (unheard 0 ts (omega arith) h))
quiet ors ts h = later (0, λ n _. unpicked _ _ (unheard 1 ts (omega arith) h))
quiet ands ts h = later (0, λ n _. unpicked _ _ (unheard 2 ts (omega arith) h))
quiet untils ts h = later (0, λ n _. unpicked _ _ (unheard 3 ts (omega arith) h))
quiet prefixes ts h = later (0, λ n _. refl)
quiet leaves ts h = later (0, λ n _. refl)

-- what may follow an expression of the level: an operator that stands on a looser one, or on the level itself if that groups to the left
bound : Level → ℕ
bound arrows = 0
bound ors = 2
bound ands = 3
bound untils = 3
bound prefixes = 4
bound leaves = 4

bound_tighter : (l : Level) → bound l ≤ rank (tighter l)
unfolding bound rank tighter
bound_tighter arrows = omega arith
bound_tighter ors = omega arith
bound_tighter ands = omega arith
bound_tighter untils = omega arith
bound_tighter prefixes = omega arith
bound_tighter leaves = omega arith

bound_rises : (l : Level) → bound l ≤ bound (tighter l)
unfolding bound tighter
bound_rises arrows = omega arith
bound_rises ors = omega arith
bound_rises ands = omega arith
bound_rises untils = omega arith
bound_rises prefixes = omega arith
bound_rises leaves = omega arith

-- the nodes of an operator follow those of its operands
postfix_atom : {o : Op} {f : Formula} → Atom o f → postfix f ≡ o ∷ []
unfolding postfix
postfix_atom is_false = refl
postfix_atom is_true = refl
postfix_atom (is_prop k) = refl

postfix_unary : {o : Op} {u : Formula → Formula} → Unary o u → (f : Formula) → postfix (u f) ≡ postfix f ++ o ∷ []
unfolding postfix
postfix_unary is_not f = refl
postfix_unary is_next_lem f = refl
postfix_unary is_finally f = refl
postfix_unary is_globally f = refl

postfix_binary : {l : Level} {d : Side} {o : Op} {j : Formula → Formula → Formula} → Binary l d o j → (f g : Formula) → postfix (j f g) ≡ postfix f ++ (postfix g ++ o ∷ [])
unfolding postfix
postfix_binary is_implies f g = refl
postfix_binary is_or f g = refl
postfix_binary is_and f g = refl
postfix_binary is_until f g = refl
postfix_binary is_release f g = refl

-- on a two-sided level: an operand, and then what follows
below : {l : Level} {d : Side} {o : Op} {j : Formula → Formula → Formula} → Binary l d o j → (n : ℕ) (ts : List Token) → read (suc n) l ts ≡ onward (λ us. more n l us) (read n (tighter l) ts)
unfolding read tighter
below is_implies n ts = refl
below is_or n ts = refl
below is_and n ts = refl
below is_until n ts = refl
below is_release n ts = refl

-- what follows, at an operator of the level
follow_left : {l : Level} {o : Op} {j : Formula → Formula → Formula} → Binary l left o j → (n : ℕ) (ts : List Token)
    → more (suc n) l (Infix o ∷ ts) ≡ onward (λ us. more n l us) (closed o (read n (tighter l) ts))
unfolding more tighter head tail
follow_left is_or n ts = refl
follow_left is_and n ts = refl

follow_right : {l : Level} {o : Op} {j : Formula → Formula → Formula} → Binary l right o j → (n : ℕ) (ts : List Token)
    → more (suc n) l (Infix o ∷ ts) ≡ closed o (read n l ts)
unfolding more head tail
follow_right is_implies n ts = refl
follow_right is_until n ts = refl
follow_right is_release n ts = refl

front_left : {l : Level} {o : Op} {j : Formula → Formula → Formula} → Binary l left o j → (ts : List Token) → front (Infix o ∷ ts) ≤ bound l
unfolding front bound
front_left is_or ts = omega arith
front_left is_and ts = omega arith

front_next : {l : Level} {d : Side} {o : Op} {j : Formula → Formula → Formula} → Binary l d o j → (ts : List Token) → front (Infix o ∷ ts) ≤ rank (tighter l)
unfolding front rank tighter
front_next is_implies ts = omega arith
front_next is_or ts = omega arith
front_next is_and ts = omega arith
front_next is_until ts = omega arith
front_next is_release ts = omega arith

front_tighter : {l : Level} {d : Side} {o : Op} {j : Formula → Formula → Formula} → Binary l d o j → (ts : List Token) → front (Infix o ∷ ts) ≤ bound (tighter l)
unfolding front bound tighter
front_tighter is_implies ts = omega arith
front_tighter is_or ts = omega arith
front_tighter is_and ts = omega arith
front_tighter is_until ts = omega arith
front_tighter is_release ts = omega arith

bound_right : {l : Level} {o : Op} {j : Formula → Formula → Formula} → Binary l right o j → bound l ≤ rank l
unfolding bound rank
bound_right is_implies = omega arith
bound_right is_until = omega arith
bound_right is_release = omega arith

-- the reader reads ts as the rule f of the level, whatever may follow: us, of which it then reads R
record Reads (l : Level) (f : Formula) (ts : List Token) : Type 0 where
  by : (us : List Token) (R : Got) → front us ≤ bound l → Ev (λ n. more n l us ≡ R) → Ev (λ n. read n l (ts ++ us) ≡ written_first (postfix f) R)

-- where nothing follows on the level, nothing is read
settled : (l : Level) (us : List Token) (R : Got) → front us ≤ rank l → Ev (λ n. more n l us ≡ R) → R ≡ stay us
settled l us R h e = let q = quiet l us h in sym (e.1 (e.0 + q.0) (omega arith)) ∙ q.1 (e.0 + q.0) (omega arith)

-- an expression of the tighter level, alone: it is read up to us
alone : (l : Level) {f : Formula} {ts : List Token} → Reads (tighter l) f ts → (us : List Token) → front us ≤ bound (tighter l) → front us ≤ rank (tighter l)
    → Ev (λ n. read n (tighter l) (ts ++ us) ≡ written_first (postfix f) (stay us))
alone l r us h g = r.by us (stay us) h (quiet (tighter l) us g)

-- an operand, and then what is read of us
joined : {l : Level} {d : Side} {o : Op} {j : Formula → Formula → Formula} → Binary l d o j → {f : Formula} {ts : List Token} → Reads (tighter l) f ts
    → (us : List Token) (R : Got) → front us ≤ bound (tighter l) → front us ≤ rank (tighter l) → Ev (λ n. more n l us ≡ R) → Ev (λ n. read n l (ts ++ us) ≡ written_first (postfix f) R)
joined {l} b {f} {ts} r us R h g e =
    later (ev_both (alone l r us h g) e (λ n a c. below b n (ts ++ us) ∙ ap (onward (λ vs. more n l vs)) a
    ∙ ap (λ xs. written_first xs (more n l us)) (append-nil (postfix f)) ∙ ap (written_first (postfix f)) c))

no_leaf : {l : Level} {d : Side} {o : Op} {j : Formula → Formula → Formula} → Binary l d o j → l ≡ leaves → ◌≡◌ {A = ℕ} 0 1
no_leaf is_implies e = cc
no_leaf is_or e = cc
no_leaf is_and e = cc
no_leaf is_until e = cc
no_leaf is_release e = cc

-- a leaf begins with no prefix operator
leaf_first : {l : Level} {f : Formula} {ts : List Token} → Text l f ts → l ≡ leaves → (us : List Token) → begins 4 (ts ++ us) ≡ false
unfolding head tighter
leaf_first (atom a) e us = refl
leaf_first (group t) e us = refl
leaf_first (unary u t) e us = cc
leaf_first (lefts b p q) e us = absurd (omega (arith, no_leaf b e))
leaf_first (rights b p q) e us = absurd (omega (arith, no_leaf b e))
leaf_first (tight {l} t) e us = leaf_first t (ap tighter e) us

loosen : (l : Level) {f : Formula} {ts : List Token} → Text (tighter l) f ts → Reads (tighter l) f ts → (us : List Token) (R : Got) → front us ≤ bound l → Ev (λ n. more n l us ≡ R)
    → Ev (λ n. read n l (ts ++ us) ≡ written_first (postfix f) R)
unfolding tighter read bound rank
loosen arrows t r us R h e = joined is_implies r us R (omega (arith, bound_rises arrows)) (omega (arith, bound_tighter arrows)) e
loosen ors t r us R h e = joined is_or r us R (omega (arith, bound_rises ors)) (omega (arith, bound_tighter ors)) e
loosen ands t r us R h e = joined is_and r us R (omega (arith, bound_rises ands)) (omega (arith, bound_tighter ands)) e
loosen untils t r us R h e = joined is_until r us R (omega (arith, bound_rises untils)) (omega (arith, bound_tighter untils)) e
loosen prefixes {f} {ts} t r us R h e =
    rw (settled prefixes us R (omega (arith, bound_tighter prefixes)) e)
    (later (map (alone prefixes r us (omega (arith, bound_rises prefixes)) (omega (arith, bound_tighter prefixes))) (λ n a. unpicked _ _ (leaf_first t refl us) ∙ a)))
loosen leaves t r us R h e = r.by us R h e

-- an operator of a two-sided level, with its right operand: read, and written behind
left_rest : {l : Level} {o : Op} {j : Formula → Formula → Formula} → Binary l left o j → {g : Formula} {t : List Token} → Reads (tighter l) g t
    → (us : List Token) (R : Got) → front us ≤ bound l → Ev (λ n. more n l us ≡ R) → Ev (λ n. more n l (Infix o ∷ t ++ us) ≡ written_first (postfix g ++ o ∷ []) R)
left_rest {l} {o} b {g} {t} r us R h e =
    later (ev_both (alone l r us (omega (arith, bound_rises l)) (omega (arith, bound_tighter l))) e (λ n a c. follow_left b n (t ++ us)
    ∙ ap (λ x. onward (λ vs. more n l vs) (closed o x)) a ∙ ap (λ xs. written_first (xs ++ o ∷ []) (more n l us)) (append-nil (postfix g)) ∙ ap (written_first (postfix g ++ o ∷ [])) c))

right_rest : {l : Level} {o : Op} {j : Formula → Formula → Formula} → Binary l right o j → {g : Formula} {t : List Token} → Reads l g t
    → (us : List Token) → front us ≤ bound l → Ev (λ n. more n l (Infix o ∷ t ++ us) ≡ written_first (postfix g ++ o ∷ []) (stay us))
right_rest {l} {o} b {g} {t} r us h =
    later (map (r.by us (stay us) h (quiet l us (omega (arith, bound_right b)))) (λ n a. follow_right b n (t ++ us)
    ∙ ap (closed o) a ∙ ap (λ xs. record { out = xs; rest = us }) (ap (λ xs. xs ++ o ∷ []) (append-nil (postfix g)) ∙ sym (append-nil (postfix g ++ o ∷ [])))))

-- the nodes of a two-sided rule
regroup : {l : Level} {d : Side} {o : Op} {j : Formula → Formula → Formula} → Binary l d o j → (f g : Formula) (R : Got) → written_first (postfix f) (written_first (postfix g ++ o ∷ []) R) ≡ written_first (postfix (j f g)) R
regroup {o} b f g R = ap (λ xs. record { out = xs; rest = R.rest }) (sym (append_assoc (postfix f) (postfix g ++ o ∷ []) R.out) ∙ ap (λ xs. xs ++ R.out) (sym (postfix_binary b f g)))

complete : {l : Level} {f : Formula} {ts : List Token} → Text l f ts → Reads l f ts
unfolding read bound rank head tail front
complete (atom {o} {f} a) = record {
  by = λ us R h e. rw (settled leaves us R (omega arith) e)
      (later (0, λ n _. ap (λ xs. record { out = xs; rest = us }) (sym (append-nil (o ∷ [])) ∙ ap (λ xs. xs ++ []) (sym (postfix_atom a)))));
}
complete (group {f} {s} t) = record {
  by = λ us R h e. rw (settled leaves us R (omega arith) e)
      (let r = (complete t).by (Close ∷ us) (stay (Close ∷ us)) (omega arith) (quiet arrows (Close ∷ us) (omega arith)) in
      later (map r (λ n a. ap (λ ts. onward (λ vs. stay (tail vs)) (read n arrows ts)) (append_assoc s (Close ∷ []) us) ∙ ap (onward (λ vs. stay (tail vs))) a
      ∙ ap (λ xs. record { out = xs; rest = us }) (append-nil (postfix f ++ [])))));
}
complete (unary {o} {u} {f} {s} b t) = record {
  by = λ us R h e. rw (settled prefixes us R (omega arith) e)
      (let r = (complete t).by us (stay us) h (quiet prefixes us (omega arith)) in
      later (map r (λ n a. ap (closed o) a ∙ ap (λ xs. record { out = xs; rest = us }) (ap (λ xs. xs ++ o ∷ []) (append-nil (postfix f)) ∙ sym (postfix_unary b f) ∙ sym (append-nil _)))));
}
complete (lefts {l} {o} {j} {f} {g} {s} {t} b p q) = record {
  by = λ us R h e.
      map ((complete p).by (Infix o ∷ t ++ us) (written_first (postfix g ++ o ∷ []) R) (front_left b (t ++ us)) (left_rest b (complete q) us R h e))
      (λ n a. ap (read n l) (append_assoc s (Infix o ∷ t) us) ∙ a ∙ regroup b f g R);
}
complete (rights {l} {o} {j} {f} {g} {s} {t} b p q) = record {
  by = λ us R h e.
      rw (settled l us R (omega (arith, bound_right b)) e)
      (map (joined b (complete p) (Infix o ∷ t ++ us) (written_first (postfix g ++ o ∷ []) (stay us)) (front_tighter b (t ++ us)) (front_next b (t ++ us)) (right_rest b (complete q) us h))
      (λ n a. ap (read n l) (append_assoc s (Infix o ∷ t) us) ∙ a ∙ regroup b f g (stay us)));
}
complete (tight {l} t) = record { by = loosen l t (complete t) }

-- a whole text is read to its end
pub reads : {f : Formula} {ts : List Token} → Text arrows f ts → Ev (λ n. read n arrows ts ≡ record { out = postfix f; rest = [] })
unfolding front bound rank
reads {f} {ts} t =
    map ((complete t).by [] (stay []) (omega arith) (quiet arrows [] (omega arith)))
    (λ n a. ap (read n arrows) (sym (append-nil ts)) ∙ a ∙ ap (λ xs. record { out = xs; rest = [] }) (append-nil (postfix f)))
