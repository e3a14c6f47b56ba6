-- What the reader writes for a text is the postfix order of its rule, so a text says one rule only; and a printed rule reads back.
use Prim.Native.Nat.{ℕ, ◌+◌, ◌*◌, ◌≤◌}
use mathlib.Core.Path.{◌≡◌, refl, sym, ap, ◌∙◌}
use mathlib.Core.List.{List, [], ◌∷◌, ◌++◌, append_assoc, append-nil}
use native.Mathlib.Omega.{arith}
use lib.ListN.{length, length-append}
use Rattle.meaning.specs.Formula.{Formula, never, always, prop, neg, next, finally, globally, until, release, and, or, implies}
use Rattle.syntax.specs.declared.Op.{Op}
use Rattle.syntax.specs.declared.Op.TheVariants.{Not, Next, Finally, Globally, Until, Release, And, Or, Implies}
use Rattle.syntax.specs.declared.Token.{Token}
use Rattle.syntax.specs.Grammar.{Spelt, sp_false, sp_true, sp_prop, sp_not, sp_next, sp_finally, sp_globally, sp_until, sp_release, sp_and, sp_or, sp_arrow, sp_open, sp_close, Spells, end, space, token, arrows, SaidBy}
use Rattle.syntax.specs.Postfix.{postfix, decode}
use Rattle.syntax.specs.Reader.{read, parse}
use Rattle.syntax.proofs.Lexing.{lexed, text_apart}
use Rattle.syntax.proofs.Complete.{reads}
use Rattle.syntax.proofs.Stable.{height, stable}

-- a token has a byte at least
some_byte : {t : Token} {b : List ℕ} → Spelt t b → 1 ≤ length b
some_byte sp_false = omega arith
some_byte sp_true = omega arith
some_byte (sp_prop k h) = omega arith
some_byte sp_not = omega arith
some_byte sp_next = omega arith
some_byte sp_finally = omega arith
some_byte sp_globally = omega arith
some_byte sp_until = omega arith
some_byte sp_release = omega arith
some_byte sp_and = omega arith
some_byte sp_or = omega arith
some_byte sp_arrow = omega arith
some_byte sp_open = omega arith
some_byte sp_close = omega arith

few_tokens : {ts : List Token} {s : List ℕ} → Spells ts s → length ts ≤ length s
few_tokens end = omega arith
few_tokens (space r) = omega (arith, few_tokens r)
few_tokens (token {b = b} {s = s} t r) = simp length-append (omega (arith, some_byte t, few_tokens r))

-- the reader writes the rule that the text says
pub parsed : {f : Formula} {s : List ℕ} → SaidBy f s → parse s ≡ postfix f
unfolding parse height
parsed {f} {s} r =
    let e = reads r.text in
    let n = 8 * length s + 6 in
    ap (λ ts. (read n arrows ts).out) (lexed (text_apart r.text) r.spells) ∙ ap (λ g. g.out) (sym (stable arrows r.tokens n e.0 (omega (arith, few_tokens r.spells))) ∙ e.1 (n + e.0) (omega arith))

-- from the postfix order the rule comes back
decoded : (f : Formula) (os : List Op) (fs : List Formula) → decode (postfix f ++ os) fs ≡ decode os (f ∷ fs)
unfolding postfix decode
decoded never os fs = refl
decoded always os fs = refl
decoded (prop k) os fs = refl
decoded (neg a) os fs = rw append_assoc (decoded a (Not ∷ os) fs)
decoded (next a) os fs = rw append_assoc (decoded a (Next ∷ os) fs)
decoded (finally a) os fs = rw append_assoc (decoded a (Finally ∷ os) fs)
decoded (globally a) os fs = rw append_assoc (decoded a (Globally ∷ os) fs)
decoded (until a b) os fs = simp append_assoc (decoded a (postfix b ++ Until ∷ os) fs ∙ decoded b (Until ∷ os) (a ∷ fs))
decoded (release a b) os fs = simp append_assoc (decoded a (postfix b ++ Release ∷ os) fs ∙ decoded b (Release ∷ os) (a ∷ fs))
decoded (and a b) os fs = simp append_assoc (decoded a (postfix b ++ And ∷ os) fs ∙ decoded b (And ∷ os) (a ∷ fs))
decoded (or a b) os fs = simp append_assoc (decoded a (postfix b ++ Or ∷ os) fs ∙ decoded b (Or ∷ os) (a ∷ fs))
decoded (implies a b) os fs = simp append_assoc (decoded a (postfix b ++ Implies ∷ os) fs ∙ decoded b (Implies ∷ os) (a ∷ fs))

first_or : List Formula → Formula
first_or [] = never
first_or (f ∷ fs) = f

pub decode_one : (f : Formula) → decode (postfix f) [] ≡ f ∷ []
unfolding decode
decode_one f = ap (λ os. decode os []) (sym (append-nil (postfix f))) ∙ decoded f [] []

pub postfix_one : (f g : Formula) → postfix f ≡ postfix g → f ≡ g
unfolding first_or
postfix_one f g e = ap first_or (sym (decode_one f) ∙ ap (λ os. decode os []) e ∙ decode_one g)

-- a text says one rule only
pub one_rule : {f g : Formula} {s : List ℕ} → SaidBy f s → SaidBy g s → f ≡ g
one_rule {f} {g} p q = postfix_one f g (sym (parsed p) ∙ parsed q)
