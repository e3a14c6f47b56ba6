-- Refusal 6: no `p` is unknown exactly where each proposition of the rule is below the count; and the place found is that of the first one.
use Prim.{Unit}
use Prim.Native.Nat.{ℕ, zero, suc, ◌+◌, ◌≤◌, ◌<◌}
use Rattle.std.proofs.Math.Path.{◌≡◌, refl, ap, ap₂}
use Rattle.std.proofs.Common.{sym, subst, ◌∙◌, length-append}
use Rattle.std.specs.Prelude.{◌↔◌, Bool, ◌&&◌, eqb, get_or, drop}
use mathlib.Core.List.{List, [], ◌∷◌, ◌++◌}
use Rattle.std.proofs.Math.Bool.{true, false, cond}
use native.Mathlib.Omega.{arith}
use borrow.Author.Tests.{ne_eqb, eq-eqb, eqb-true, lt-leb, leb-true, leb-false}
use Rattle.std.proofs.Math.Dec.{T, leb}
use Rattle.std.proofs.Math.ListN.{length}
use Rattle.std.proofs.Math.Seq.{drop-nil}
use Rattle.meaning.specs.Formula.{Formula}
use Rattle.syntax.specs.declared.Op.{Op}
use Rattle.syntax.specs.declared.Op.TheVariants.{False, True, Prop, Not, Next, Finally, Globally, Until, Release, And, Or, Implies}
use Rattle.syntax.specs.declared.Token.{Token}
use Rattle.syntax.specs.declared.Token.TheVariants.{Leaf, Prefix, Infix, Open, Close, End}
use Rattle.syntax.specs.Grammar.{names, spell, sp_false, sp_true, sp_prop, sp_not, sp_next, sp_finally, sp_globally, sp_until, sp_release, sp_and, sp_or, sp_arrow, sp_open, sp_close, Spells, end, space, token, Level, Side, Atom, is_false, is_true, is_prop, Unary, is_not, is_next_lem, is_finally, is_globally, Binary, is_implies, is_or, is_and, is_until, is_release, Text, atom, group, unary, lefts, rights, tight, SaidBy, Stands, Names, Unknown}
use Rattle.syntax.specs.Bytes.{name_of}
use Rattle.syntax.specs.Print.{Below}
use Rattle.syntax.proofs.Lexing.{by_digits, spelt_one, spelt_two, Ends, name_is, Apart, off_ends, text_apart, both_true}
use Rattle.syntax.proofs.Named.{Begins, spell_some, name_stands, name_longest}
use Rattle.std.specs.Prelude.{Option}
use Rattle.std.specs.Prelude.{Some, None}
use Rattle.rule_text.specs.Reading.{unknown, unknown_at}

-- a token is no proposition from q on
abbrev FineOp : ℕ → Op → Type 0
FineOp q (Prop k) = k < q
FineOp q False = Unit {0}
FineOp q True = Unit {0}
FineOp q Not = Unit {0}
FineOp q Next = Unit {0}
FineOp q Finally = Unit {0}
FineOp q Globally = Unit {0}
FineOp q Until = Unit {0}
FineOp q Release = Unit {0}
FineOp q And = Unit {0}
FineOp q Or = Unit {0}
FineOp q Implies = Unit {0}

abbrev Fine : ℕ → Token → Type 0
Fine q (Leaf o) = FineOp q o
Fine q (Prefix o) = Unit {0}
Fine q (Infix o) = Unit {0}
Fine q Open = Unit {0}
Fine q Close = Unit {0}
Fine q End = Unit {0}

All : ℕ → List Token → Type 0
All q [] = Unit {0}
All q (t ∷ ts) = Fine q t × All q ts

all_append : (q : ℕ) (ts us : List Token) → All q ts → All q us → All q (ts ++ us)
unfolding All
all_append q [] us a b = b
all_append q (t ∷ ts) us a b = (a.0, all_append q ts us a.1 b)

all_first : (q : ℕ) (ts us : List Token) → All q (ts ++ us) → All q ts
unfolding All
all_first q [] us a = tt
all_first q (t ∷ ts) us a = (a.0, all_first q ts us a.1)

all_last : (q : ℕ) (ts us : List Token) → All q (ts ++ us) → All q us
unfolding All
all_last q [] us a = a
all_last q (t ∷ ts) us a = all_last q ts us a.1

-- rules and tokens
module _ (q : ℕ) where
  atom_below : {o : Op} {f : Formula} → Atom o f → FineOp q o ↔ Below q f
  unfolding Below
  atom_below is_false = (λ x. x, λ x. x)
  atom_below is_true = (λ x. x, λ x. x)
  atom_below (is_prop k) = (λ x. x, λ x. x)

  unary_below : {o : Op} {u : Formula → Formula} → Unary o u → (f : Formula) → Below q f ↔ Below q (u f)
  unfolding Below
  unary_below is_not f = (λ x. x, λ x. x)
  unary_below is_next_lem f = (λ x. x, λ x. x)
  unary_below is_finally f = (λ x. x, λ x. x)
  unary_below is_globally f = (λ x. x, λ x. x)

  binary_below : {l : Level} {d : Side} {o : Op} {j : Formula → Formula → Formula} → Binary l d o j → (f g : Formula) → (Below q f × Below q g) ↔ Below q (j f g)
  unfolding Below
  binary_below is_implies f g = (λ x. x, λ x. x)
  binary_below is_or f g = (λ x. x, λ x. x)
  binary_below is_and f g = (λ x. x, λ x. x)
  binary_below is_until f g = (λ x. x, λ x. x)
  binary_below is_release f g = (λ x. x, λ x. x)

  -- the tokens of two operands
  both_below : (o : Op) (s t : List Token) {A B C : Type 0} → (A × B) ↔ C → All q s ↔ A → All q t ↔ B → All q (s ++ Infix o ∷ t) ↔ C
  unfolding All
  both_below o s t a x y = (
    λ w. a.0 (x.0 (all_first q s (Infix o ∷ t) w), y.0 (all_last q s (Infix o ∷ t) w).1),
    λ b. let p = a.1 b in all_append q s (Infix o ∷ t) (x.1 p.0) (tt, y.1 p.1),
  )

  text_below : {l : Level} {f : Formula} {ts : List Token} → Text l f ts → All q ts ↔ Below q f
  unfolding All
  text_below (atom a) = (λ x. (atom_below a).0 x.0, λ b. ((atom_below a).1 b, tt))
  text_below (group {s = s} t) =
      (λ x. (text_below t).0 (all_first q s (Close ∷ []) x.1), λ b. (tt, all_append q s (Close ∷ []) ((text_below t).1 b) (tt, tt)))
  text_below (unary {f = f} a t) = (λ x. (unary_below a f).0 ((text_below t).0 x.1), λ b. (tt, (text_below t).1 ((unary_below a f).1 b)))
  text_below (lefts {o = o} {f = f} {g = g} {s = s} {t = t} a x y) = both_below o s t (binary_below a f g) (text_below x) (text_below y)
  text_below (rights {o = o} {f = f} {g = g} {s = s} {t = t} a x y) = both_below o s t (binary_below a f g) (text_below x) (text_below y)
  text_below (tight t) = text_below t

  -- a byte that is no `p` is passed
  small : (b : ℕ) → (b ≡ 112 → ⊥) → (s : List ℕ) → unknown q b s ≡ false
  unfolding unknown
  small b h [] = refl
  small b h (d ∷ s) = ap (λ x. x && leb q (name_of (d ∷ s))) (ne_eqb b 112 h)

  over_byte : (i b : ℕ) → (b ≡ 112 → ⊥) → (s : List ℕ) → unknown_at q i (b ∷ s) ≡ unknown_at q (i + 1) s
  unfolding unknown_at
  over_byte i b h s = ap (λ x. cond x (Some i) (unknown_at q (i + 1) s)) (small b h s)

  -- a proposition is the answer, or is passed
  at_prop : (i k : ℕ) → k < names → (s : List ℕ) → Ends s → unknown_at q i (112 ∷ (spell k ++ s)) ≡ cond (leb q k) (Some i) (unknown_at q (i + 1 + length (spell k)) s)
  unfolding unknown_at unknown
  at_prop i k h s e = by_digits {P = λ k. unknown_at q i (112 ∷ (spell k ++ s)) ≡ cond (leb q k) (Some i) (unknown_at q (i + 1 + length (spell k)) s)} one two k h
    where
      one : (k : ℕ) → k < 10 → unknown_at q i (112 ∷ (spell k ++ s)) ≡ cond (leb q k) (Some i) (unknown_at q (i + 1 + length (spell k)) s)
      one k l =
          let n : name_of ((48 + k) ∷ s) ≡ k = rw (spelt_one k l) at (name_is k (omega arith) s (λ o. e)).0 in
          rw (spelt_one k l, n) (ap (cond (leb q k) (Some i)) (over_byte (i + 1) (48 + k) (λ e. omega arith) s))

      two : (k : ℕ) → 10 + k < names → unknown_at q i (112 ∷ (spell (10 + k) ++ s)) ≡ cond (leb q (10 + k)) (Some i) (unknown_at q (i + 1 + length (spell (10 + k))) s)
      two k l =
          let n : name_of (49 ∷ (48 + k) ∷ s) ≡ 10 + k = rw (spelt_two k l) at (name_is (10 + k) l s (λ o. e)).0 in
          let d : i + 1 + 1 + 1 ≡ i + 1 + 2 = omega arith in
          rw (spelt_two k l, n)
          (ap (cond (leb q (10 + k)) (Some i)) (over_byte (i + 1) 49 (λ e. omega arith) ((48 + k) ∷ s) ∙ over_byte (i + 1 + 1) (48 + k) (λ e. omega arith) s ∙ ap (λ j. unknown_at q j s) d))

  -- the same answer, with a token before
  passed : {x y : Option ℕ} {A : Type 0} → x ≡ y → (y ≡ None) ↔ A → (x ≡ None) ↔ (Unit {0} × A)
  passed e a = (λ h. (tt, a.0 (sym e ∙ h)), λ h. e ∙ a.1 h.1)

  met : (i k : ℕ) {x y : Option ℕ} {A : Type 0} → x ≡ cond (leb q k) (Some i) y → (y ≡ None) ↔ A → (x ≡ None) ↔ ((k < q) × A)
  met i k {x} {y} {A} e a = (λ h. go (leb q k) refl (sym e ∙ h), λ h. e ∙ ap (λ b. cond b (Some i) y) (lt-leb q k h.0) ∙ a.1 h.1)
    where
      go : (b : Bool) → leb q k ≡ b → cond b (Some i) y ≡ None → (k < q) × A
      go true t h = let z : ◌≡◌ {A = ℕ} 0 1 = cc in absurd (omega arith)
      go false t h = (leb-false q k t, a.0 h)

  byte_passed : (b : ℕ) → (b ≡ 112 → ⊥) → (i : ℕ) (s : List ℕ) {A : Type 0} → (unknown_at q (i + 1) s ≡ None) ↔ A → (unknown_at q i (b ∷ s) ≡ None) ↔ (Unit {0} × A)
  byte_passed b h i s a = passed (over_byte i b h s) a

  none_exactly : {ts : List Token} {s : List ℕ} → Apart ts → Spells ts s → (i : ℕ) → (unknown_at q i s ≡ None) ↔ All q ts
  unfolding All unknown_at Apart
  none_exactly a end i = (λ h. tt, λ h. refl)
  none_exactly a (space {s = s} r) i = let e = over_byte i 32 (λ e. omega arith) s in let x = none_exactly a r (i + 1) in (λ h. x.0 (sym e ∙ h), λ h. e ∙ x.1 h)
  none_exactly a (token {s = s} sp_false r) i = byte_passed 48 (λ e. omega arith) i s (none_exactly a.1 r (i + 1))
  none_exactly a (token {s = s} sp_true r) i = byte_passed 49 (λ e. omega arith) i s (none_exactly a.1 r (i + 1))
  none_exactly a (token {s = s} sp_not r) i = byte_passed 33 (λ e. omega arith) i s (none_exactly a r (i + 1))
  none_exactly a (token {s = s} sp_next r) i = byte_passed 88 (λ e. omega arith) i s (none_exactly a r (i + 1))
  none_exactly a (token {s = s} sp_finally r) i = byte_passed 70 (λ e. omega arith) i s (none_exactly a r (i + 1))
  none_exactly a (token {s = s} sp_globally r) i = byte_passed 71 (λ e. omega arith) i s (none_exactly a r (i + 1))
  none_exactly a (token {s = s} sp_until r) i = byte_passed 85 (λ e. omega arith) i s (none_exactly a r (i + 1))
  none_exactly a (token {s = s} sp_release r) i = byte_passed 82 (λ e. omega arith) i s (none_exactly a r (i + 1))
  none_exactly a (token {s = s} sp_and r) i = byte_passed 38 (λ e. omega arith) i s (none_exactly a r (i + 1))
  none_exactly a (token {s = s} sp_or r) i = byte_passed 124 (λ e. omega arith) i s (none_exactly a r (i + 1))
  none_exactly a (token {s = s} sp_open r) i = byte_passed 40 (λ e. omega arith) i s (none_exactly a r (i + 1))
  none_exactly a (token {s = s} sp_close r) i = byte_passed 41 (λ e. omega arith) i s (none_exactly a r (i + 1))
  none_exactly a (token {s = s} sp_arrow r) i = passed (over_byte i 45 (λ e. omega arith) (62 ∷ s) ∙ over_byte (i + 1) 62 (λ e. omega arith) s) (none_exactly a r (i + 1 + 1))
  none_exactly a (token {s = s} (sp_prop k h) r) i = met i k (at_prop i k h s (off_ends a.0 r)) (none_exactly a.1 r (i + 1 + length (spell k)))

  pub below_exactly : {f : Formula} {s : List ℕ} → SaidBy f s → (unknown_at q 0 s ≡ None) ↔ Below q f
  below_exactly r =
      let a = none_exactly (text_apart r.text) r.spells 0 in
      let b = text_below r.text in
      (λ e. b.0 (a.0 e), λ h. a.1 (b.1 h))

  -- what the test of a byte says
  met_here : 1 ≤ q → (b : ℕ) (s : List ℕ) → unknown q b s ≡ true → (j : ℕ) × Names (b ∷ s) 0 j × (q ≤ j)
  unfolding unknown
  met_here some b [] h = absurd (subst T (sym h) tt)
  met_here some b (d ∷ s) h =
      let p = both_true (eqb b 112) (leb q (name_of (d ∷ s))) h in
      let l = leb-true q (name_of (d ∷ s)) p.1 in
      (name_of (d ∷ s), here (eqb-true b 112 p.0) (name_stands (d ∷ s) (omega arith)), l)
    where
      here : b ≡ 112 → Begins (d ∷ s) (name_of (d ∷ s)) → Names (b ∷ d ∷ s) 0 (name_of (d ∷ s))
      here e (k, rest, f) =
          record {
            stands = (k, rest, ap₂ (λ x t. x ∷ t) e f);
            longest = λ i (l, r, g). name_longest (d ∷ s) i (l, r, ap (drop 1) g);
          }

  -- the name that stands there is the one found
  found : (b : ℕ) (s : List ℕ) (j : ℕ) → Names (b ∷ s) 0 j → (b ≡ 112) × (name_of s ≡ j) × (1 ≤ length s)
  found b s j n = by_stands n.stands
    where
      at_most : (m : ℕ) → name_of s ≡ m → b ≡ 112 → name_of s ≤ j
      at_most zero e f = omega arith
      at_most (suc m) e f = let (l, r, g) = name_stands s (omega arith) in n.longest (name_of s) (l, r, ap₂ (λ x t. x ∷ t) f g)

      by_stands : Stands (b ∷ s) 0 j → (b ≡ 112) × (name_of s ≡ j) × (1 ≤ length s)
      by_stands (l, rest, e) =
          let b_is : b ≡ 112 = ap (λ t. get_or t 0 0) e in
          let s_is : s ≡ spell j ++ rest = ap (drop 1) e in
          (b_is, omega (arith, name_longest s j (l, rest, s_is), at_most (name_of s) refl b_is), omega (arith, ap length s_is, length-append (spell j) rest, spell_some j l))

  not_here : (b : ℕ) (s : List ℕ) → unknown q b s ≡ false → (j : ℕ) → Names (b ∷ s) 0 j → j < q
  unfolding unknown
  not_here b [] h j n = let (e, f, l) = found b [] j n in absurd (omega arith)
  not_here b (d ∷ s) h j n =
      let (e, f, l) = found b (d ∷ s) j n in
      leb-false q j (sym (rw (eq-eqb b 112 e, f)) ∙ h)

  later : (b : ℕ) (s : List ℕ) (k j : ℕ) → Names s k j → Names (b ∷ s) (suc k) j
  later b s k j n = record { stands = n.stands; longest = n.longest }

  sooner : (b : ℕ) (s : List ℕ) (k j : ℕ) → Names (b ∷ s) (suc k) j → Names s k j
  sooner b s k j n = record { stands = n.stands; longest = n.longest }

  -- where none is found, none is
  pub none_unknown : (s : List ℕ) (i : ℕ) → unknown_at q i s ≡ None → (k j : ℕ) → Names s k j → j < q
  unfolding unknown_at
  none_unknown [] i h k j n = let (l, rest, e) = n.stands in absurd (omega (arith, ap length (sym (drop-nil k) ∙ e)))
  none_unknown (b ∷ s) i h k j n = go (unknown q b s) refl h k n (λ g m x. none_unknown s (i + 1) g m j x)
    where
      go : (t : Bool) → unknown q b s ≡ t → cond t (Some i) (unknown_at q (i + 1) s) ≡ None → (m : ℕ) → Names (b ∷ s) m j
          → (unknown_at q (i + 1) s ≡ None → (l : ℕ) → Names s l j → j < q) → j < q
      go true e g m x r = let z : ◌≡◌ {A = ℕ} 0 1 = cc in absurd (omega arith)
      go false e g zero x r = not_here b s e j x
      go false e g (suc l) x r = r g l (sooner b s l j x)

  -- where one is found, it is the first
  found_first : 1 ≤ q → (s : List ℕ) (i k : ℕ) → unknown_at q i s ≡ Some k → (m : ℕ) × (k ≡ i + m) × Unknown q s m
  unfolding unknown_at
  found_first some [] i k h = let z : ◌≡◌ {A = ℕ} 0 1 = cc in absurd (omega arith)
  found_first some (b ∷ s) i k h = go (unknown q b s) refl h (λ g. found_first some s (i + 1) k g)
    where
      go : (t : Bool) → unknown q b s ≡ t → cond t (Some i) (unknown_at q (i + 1) s) ≡ Some k
          → (unknown_at q (i + 1) s ≡ Some k → (m : ℕ) × (k ≡ i + 1 + m) × Unknown q s m) → (m : ℕ) × (k ≡ i + m) × Unknown q (b ∷ s) m
      go true e g r =
          let x = met_here some b s e in
          let at : i ≡ k = cc in
          (0, omega arith, record { which = x.0; here = x.1; beyond = x.2; before = λ l j lt n. absurd (omega arith) })
      go false e g r =
          let x = r g in
          let u = x.2 in
          (suc x.0, omega (arith, x.1), record { which = u.which; here = later b s x.0 u.which u.here; beyond = u.beyond; before = λ l j lt n. first_of_lem e u l j lt n })
        where
          first_of_lem : unknown q b s ≡ false → {m : ℕ} → Unknown q s m → (l j : ℕ) → l < suc m → Names (b ∷ s) l j → j < q
          first_of_lem e u zero j lt n = not_here b s e j n
          first_of_lem e u (suc l) j lt n = u.before l j (omega arith) (sooner b s l j n)

  pub first_unknown : 1 ≤ q → (s : List ℕ) (k : ℕ) → unknown_at q 0 s ≡ Some k → Unknown q s k
  first_unknown some s k h = let x = found_first some s 0 k h in subst (λ n. Unknown q s n) (sym (x.1 ∙ omega arith)) x.2
