-- The scanner says what the grammar says: whether a text is of it, and where it is refused.
use Rattle.std.specs.Prelude.{Result, Ok, Err}
use Prim.Native.Nat.{ℕ, zero, suc, ◌+◌, ◌<◌}
use mathlib.Core.Path.{◌≡◌, refl, sym, ap, subst, ◌∙◌}
use mathlib.Core.Logic.{inl, inr}
use mathlib.Core.List.{List, [], ◌∷◌, ◌++◌, append_assoc, append-nil}
use mathlib.Core.Bool.{Bool, true, false, cond, false≢true}
use lib.Dec.{eqb}
use borrow.Author.Tests.{lt-ltb}
use native.Mathlib.Omega.{arith}
use native.Mathlib.Numerals.{add-one}
use lib.ListN.{length, take, replicate, length-append}
use lib.Seq.{take-append_seam, take-append-add, take-length}
use Rattle.meaning.specs.Formula.{Formula}
use Rattle.syntax.specs.declared.Op.{Op}
use Rattle.syntax.specs.declared.Token.{Token}
use Rattle.syntax.specs.declared.Token.TheVariants.{Leaf, Prefix, Infix, Open, Close}
use Rattle.syntax.specs.declared.Sign.TheVariants.{Blank}
use Rattle.syntax.specs.declared.Mode.{Mode}
use Rattle.syntax.specs.declared.Mode.TheVariants.{Operand, Number, Teen, Operator, Arrow, Stuck}
use Rattle.syntax.specs.declared.State.{State}
use Rattle.syntax.specs.Grammar.{names, spell, Spelt, sp_false, sp_true, sp_prop, sp_not, sp_next, sp_finally, sp_globally, sp_until, sp_release, sp_and, sp_or, sp_arrow, sp_open, sp_close, Spells, end, space, token, Level, Text, atom, group, unary, lefts, rights, tight, SaidBy, Viable, Refused}
use Rattle.syntax.specs.Bytes.{sign_of}
use Rattle.syntax.specs.Scan.{at, stuck, closes, named, teen, step, run, start, ends, dead, scan_from, scan}
use Rattle.syntax.proofs.Lexing.{sign_digit, by_digits, spelt_one, spelt_two}
use Rattle.syntax.proofs.Scanned.{built}

run_append : (st : State) (p s : List ℕ) → run st (p ++ s) ≡ run (run st p) s
unfolding run
run_append st [] s = refl
run_append st (b ∷ p) s = run_append (step st.mode st.depth (sign_of b)) p s

-- an operator may come: behind any operand, and behind `p1`, where a digit may come too
data Done : Mode → Type 0 where
  plain : Done Operator
  open_name : Done Teen

-- what each token does to the scanner
record LeafRun (b : List ℕ) : Type 0 where
  mode : Mode
  done : Done mode
  ran : (d : ℕ) → run (at Operand d) b ≡ at mode d

-- a name of one digit
named_run : (k : ℕ) → k < 10 → (x : Bool) → eqb k 1 ≡ x → LeafRun (112 ∷ (48 + k) ∷ [])
unfolding run sign_of named teen
named_run k h true e = record { mode = Teen; done = open_name; ran = λ d. rw (sign_digit k h, e) refl }
named_run k h false e = record { mode = Operator; done = plain; ran = λ d. rw (sign_digit k h, e) refl }

leaf_run : {o : Op} {b : List ℕ} → Spelt (Leaf o) b → LeafRun b
unfolding run sign_of named teen
leaf_run sp_false = record { mode = Operator; done = plain; ran = λ d. refl }
leaf_run sp_true = record { mode = Operator; done = plain; ran = λ d. refl }
leaf_run (sp_prop k h) = by_digits {P = λ k. LeafRun (112 ∷ spell k)} (λ k l. rw (spelt_one k l) (named_run k l (eqb k 1) refl))
    (λ k l. rw (spelt_two k l) (record { mode = Operator; done = plain; ran = λ d. rw (sign_digit k (omega arith), lt-ltb (10 + k) names l) refl })) k h

prefix_run : {o : Op} {b : List ℕ} → Spelt (Prefix o) b → (d : ℕ) → run (at Operand d) b ≡ at Operand d
unfolding run sign_of
prefix_run sp_not d = refl
prefix_run sp_next d = refl
prefix_run sp_finally d = refl
prefix_run sp_globally d = refl

infix_run : {o : Op} {b : List ℕ} → Spelt (Infix o) b → {m : Mode} → Done m → (d : ℕ) → run (at m d) b ≡ at Operand d
unfolding run sign_of teen
infix_run sp_until plain d = refl
infix_run sp_until open_name d = refl
infix_run sp_release plain d = refl
infix_run sp_release open_name d = refl
infix_run sp_and plain d = refl
infix_run sp_and open_name d = refl
infix_run sp_or plain d = refl
infix_run sp_or open_name d = refl
infix_run sp_arrow plain d = refl
infix_run sp_arrow open_name d = refl

open_run : {b : List ℕ} → Spelt Open b → (d : ℕ) → run (at Operand d) b ≡ at Operand (suc d)
unfolding run sign_of
open_run sp_open d = ap (at Operand) (add-one d)

close_run : {b : List ℕ} → Spelt Close b → {m : Mode} → Done m → (d : ℕ) → run (at m (suc d)) b ≡ at Operator d
unfolding run sign_of closes teen
close_run sp_close plain d = refl
close_run sp_close open_name d = refl

-- behind a space no digit may come
blank_run : {m : Mode} → Done m → (d : ℕ) → step m d Blank ≡ at Operator d
unfolding teen
blank_run plain d = refl
blank_run open_name d = refl

-- the first token of a text, after spaces that change nothing
record First (t : Token) (ts : List Token) (s : List ℕ) : Type 0 where
  bytes : List ℕ
  spelt : Spelt t bytes
  rest : List ℕ
  spells : Spells ts rest
  ran : (d : ℕ) → run (at Operand d) s ≡ run (run (at Operand d) bytes) rest
  behind : {m : Mode} → Done m → (d : ℕ) (st : State) → ((n : Mode) → Done n → run (at n d) bytes ≡ st) → run (at m d) s ≡ run st rest

first : {t : Token} {ts : List Token} {s : List ℕ} → Spells (t ∷ ts) s → First t ts s
unfolding run sign_of teen
first (token {b = b} {s = s} t r) =
    record {
      bytes = b;
      spelt = t;
      rest = s;
      spells = r;
      ran = λ d. run_append (at Operand d) b s;
      behind = λ {m} q d st e. run_append (at m d) b s ∙ ap (λ st. run st s) (e m q);
    }
first (space {s = s} r) =
    let f = first r in
    record {
      bytes = f.bytes;
      spelt = f.spelt;
      rest = f.rest;
      spells = f.spells;
      ran = f.ran;
      behind = λ q d st e. ap (λ st. run st s) (blank_run q d) ∙ f.behind plain d st e;
    }

module _ {t : Token} {ts : List Token} {s : List ℕ} (f : First t ts s) where
  over_operand : (d : ℕ) {st : State} → run (at Operand d) f.bytes ≡ st → run (at Operand d) s ≡ run st f.rest
  over_operand d e = f.ran d ∙ ap (λ st. run st f.rest) e

-- an expression takes the scanner from an operand wanted to an operator wanted
record Over (us : List Token) (s : List ℕ) : Type 0 where
  rest : List ℕ
  spells : Spells us rest
  mode : Mode
  done : Done mode
  ran : (d : ℕ) → run (at Operand d) s ≡ run (at mode d) rest

pair : {us : List Token} {o : Op} {v : List Token} {s : List ℕ} → Over (Infix o ∷ v) s → ((r : List ℕ) → Spells v r → Over us r) → Over us s
pair a k =
    let f = first a.spells in
    let b = k f.rest f.spells in
    record {
      rest = b.rest;
      spells = b.spells;
      mode = b.mode;
      done = b.done;
      ran = λ d. a.ran d ∙ f.behind a.done d (at Operand d) (λ n q. infix_run f.spelt q d) ∙ b.ran d;
    }

over : {l : Level} {f : Formula} {ts : List Token} → Text l f ts → (us : List Token) {s : List ℕ} → Spells (ts ++ us) s → Over us s
over (atom a) us r =
    let f = first r in
    let l = leaf_run f.spelt in
    record { rest = f.rest; spells = f.spells; mode = l.mode; done = l.done; ran = λ d. over_operand f d (l.ran d) }
over (unary b t) us r =
    let f = first r in
    let o = over t us f.spells in
    record { rest = o.rest; spells = o.spells; mode = o.mode; done = o.done; ran = λ d. over_operand f d (prefix_run f.spelt d) ∙ o.ran d }
over (group {s = s} t) us r =
    let f = first r in
    let o = over t (Close ∷ us) (subst (λ ts. Spells ts f.rest) (append_assoc s (Close ∷ []) us) f.spells) in
    let g = first o.spells in
    record {
      rest = g.rest;
      spells = g.spells;
      mode = Operator;
      done = plain;
      ran = λ d. over_operand f d (open_run f.spelt d) ∙ o.ran (suc d) ∙ g.behind o.done (suc d) (at Operator d) (λ n q. close_run g.spelt q d);
    }
over (lefts {o = o} {t = t} b p q) us r = pair (over p (Infix o ∷ t ++ us) (rw append_assoc at r)) (λ _ r'. over q us r')
over (rights {o = o} {t = t} b p q) us r = pair (over p (Infix o ∷ t ++ us) (rw append_assoc at r)) (λ _ r'. over q us r')
over (tight t) us r = over t us r

-- whether the text may end in the state
abbrev may_end : State → Bool
may_end st = ends st.mode st.depth

only_spaces : {s : List ℕ} → Spells [] s → {m : Mode} → Done m → may_end (run (at m 0) s) ≡ true
unfolding run sign_of teen
only_spaces end plain = refl
only_spaces end open_name = refl
only_spaces (space r) plain = only_spaces r plain
only_spaces (space r) open_name = only_spaces r plain

-- the scanner takes each text
pub taken : {f : Formula} {s : List ℕ} → SaidBy f s → ends (run start s).mode (run start s).depth ≡ true
taken {s = s} r =
    let o = over r.text [] {s = s} (rw (append-nil r.tokens) r.spells) in
    ap may_end (o.ran 0) ∙ only_spaces o.spells o.done

-- once stuck, it stays so
stays : (d : ℕ) (s : List ℕ) → run (stuck d) s ≡ stuck d
unfolding run
stays d [] = refl
stays d (b ∷ s) = stays d s

-- with as many closing parentheses as are open, a text ends
closing : (d : ℕ) → run (at Operator d) (replicate d 41) ≡ at Operator 0
unfolding run sign_of closes
closing zero = refl
closing (suc d) = closing d

-- what is left to write, from each mode
rest_from : (m : Mode) (d : ℕ) → List ℕ
rest_from Operand d = 48 ∷ replicate d 41
rest_from Number d = 48 ∷ replicate d 41
rest_from Teen d = 32 ∷ replicate d 41
rest_from Operator d = replicate d 41
rest_from Arrow d = 62 ∷ 48 ∷ replicate d 41
rest_from Stuck d = []

finishes : (m : Mode) (d : ℕ) → dead m ≡ false → run (at m d) (rest_from m d) ≡ at Operator 0
unfolding run sign_of rest_from named teen
finishes Operand d e = closing d
finishes Number d e = closing d
finishes Teen d e = closing d
finishes Operator d e = closing d
finishes Arrow d e = closing d
finishes Stuck d e = cc

-- what the scanner is not stuck on begins a text, and what it is stuck on begins none
pub viable : (p : List ℕ) → dead (run start p).mode ≡ false → Viable p
viable p e =
    let st = run start p in
    let b = built (p ++ rest_from st.mode st.depth) (ap may_end (run_append start p _ ∙ finishes st.mode st.depth e)) in
    record { rest = rest_from st.mode st.depth; rule = b.0; says = b.1 }

dead_is : (m : Mode) → dead m ≡ true → m ≡ Stuck
dead_is Stuck e = refl
dead_is Operand e = cc
dead_is Number e = cc
dead_is Teen e = cc
dead_is Operator e = cc
dead_is Arrow e = cc

pub not_viable : (p : List ℕ) → dead (run start p).mode ≡ true → Viable p → ⊥
not_viable p e v =
    let st = run start p in
    let a : run start (p ++ v.rest) ≡ stuck st.depth =
    run_append start p v.rest ∙ ap (λ m. run (at m st.depth) v.rest) (dead_is st.mode e) ∙ stays st.depth v.rest in
    absurd (false≢true (sym (ap may_end a) ∙ taken v.says))

-- what the answer of the scanner says of a text
abbrev pub Judged : List ℕ → Result (Unit {0}) ℕ → Type 0
Judged s (Ok _) = (f : Formula) × SaidBy f s
Judged s (Err k) = Refused s k

choose : (s : List ℕ) (t : Bool) (x y : Result (Unit {0}) ℕ) → (t ≡ true → Judged s x) → (t ≡ false → Judged s y) → Judged s (cond t x y)
choose s true x y f g = f refl
choose s false x y f g = g refl

ran_one : (p : List ℕ) (b : ℕ) → run start (p ++ b ∷ []) ≡ step (run start p).mode (run start p).depth (sign_of b)
unfolding run
ran_one p b = run_append start p (b ∷ [])

take_one : (p : List ℕ) (b : ℕ) (s : List ℕ) → take (suc (length p)) (p ++ b ∷ s) ≡ p ++ b ∷ []
take_one p b s = ap (λ n. take n (p ++ b ∷ s)) (sym (add-one (length p))) ∙ take-append-add p (b ∷ s) 1

-- p is read, and s is left
judged : (s p : List ℕ) → dead (run start p).mode ≡ false → Judged (p ++ s) (scan_from (run start p) (length p) s)
unfolding scan_from
judged [] p a =
    let st = run start p in
    rw append-nil
    (choose p (ends st.mode st.depth) (Ok tt) (Err (length p)) (λ e. built p e)
    (λ e. record {
      outside = λ f r. absurd (false≢true (sym e ∙ taken r));
      before = rw (take-length p) (viable p a);
      here = inl refl;
    }))
judged (b ∷ s) p a =
    let st = run start p in
    let st' = step st.mode st.depth (sign_of b) in
    let one : run start (p ++ b ∷ []) ≡ st' = ran_one p b in
    let cut : take (suc (length p)) (p ++ b ∷ s) ≡ p ++ b ∷ [] = take_one p b s in
    choose (p ++ b ∷ s) (dead st'.mode) (Err (length p)) (scan_from st' (length p + 1) s)
    (λ e.
    let none : Viable (p ++ b ∷ []) → ⊥ = not_viable (p ++ b ∷ []) (ap (λ x. dead x.mode) one ∙ e) in
    record {
      outside = λ f r. none (record { rest = s; rule = f; says = rw append_assoc r });
      before = rw (take-append_seam p (b ∷ s)) (viable p a);
      here = inr (rw length-append (omega arith), λ v. none (rw cut at v));
    })
    (λ e. subst (λ x. Judged x (scan_from st' (length p + 1) s)) (append_assoc p (b ∷ []) s)
    (rw (one, length-append) at (judged s (p ++ b ∷ []) (ap (λ x. dead x.mode) one ∙ e))))

-- the scanner's answer is right
pub scanned : (s : List ℕ) → Judged s (scan s)
unfolding scan run
scanned s = judged s [] refl
