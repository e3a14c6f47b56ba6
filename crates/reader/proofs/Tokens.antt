-- The tokens from a place on, byte by byte.
use Prim.Native.Nat.{ℕ, zero, suc, ◌+◌, ◌≤◌, ◌<◌}
use mathlib.Core.Path.{◌≡◌, refl, sym, ap, ap₂, subst, ◌∙◌}
use mathlib.Core.List.{List, [], ◌∷◌}
use mathlib.Core.Bool.{true, false}
use native.Mathlib.Omega.{arith}
use lib.ListN.{length, get_or, drop}
use lib.Seq.{drop-drop}
use Rattle.syntax.specs.declared.Name.{Name}
use Rattle.syntax.specs.declared.Op.TheVariants.{Prop}
use Rattle.syntax.specs.declared.Token.{Token}
use Rattle.syntax.specs.declared.Token.TheVariants.{Leaf, End}
use Rattle.syntax.specs.declared.Sign.{Sign}
use Rattle.syntax.specs.declared.Sign.TheVariants.{Blank, Digit, Letter, Before, Between, Dash, Angle, Left, Right, Other}
use Rattle.syntax.specs.Bytes.{sign_of, gap, name_bytes, lex_sign, lex, lex_name, tokens, NameAt}
use Rattle.syntax.specs.Reader.{head, tail}
use Rattle.syntax.proofs.Places.{byte, at_end_lem}
use Rattle.syntax.proofs.Lexing.{Byte, byte_of}
use Rattle.reader.specs.Draft.{token_of, Skipped, Lettered, Next}
use Rattle.reader.specs.declared.Mark.{Mark}

none_left : (s : List ℕ) (at : ℕ) → at ≤ length s → length s ≤ at → tokens s at ≡ []
unfolding lex
none_left s at h g = ap (lex 0) (at_end_lem s at h g)

-- the token that a byte of the sign k begins
pub split : (s : List ℕ) (at : ℕ) → at < length s → {k : Sign} → sign_of (get_or s at 0) ≡ k → tokens s at ≡ lex_sign k (tokens s (at + 1)) (lex_name (drop (at + 1) s))
unfolding lex
split s at h e = ap (lex 0) (byte s at h) ∙ ap (λ k. lex_sign k (tokens s (at + 1)) (lex_name (drop (at + 1) s))) e

-- a byte that begins no token is passed
pass : (k : Sign) → gap k ≡ true → (ts us : List Token) → lex_sign k ts us ≡ ts
unfolding lex_sign
pass Blank e ts us = refl
pass Angle e ts us = refl
pass Other e ts us = refl
pass (Digit k) e ts us = cc
pass Letter e ts us = cc
pass (Before o) e ts us = cc
pass (Between o) e ts us = cc
pass Dash e ts us = cc
pass Left e ts us = cc
pass Right e ts us = cc

-- a byte that begins a token and is no `p` is one by itself
alone : (k : Sign) → gap k ≡ false → (k ≡ Letter → ⊥) → (ts us : List Token) → lex_sign k ts us ≡ token_of k ∷ ts
unfolding lex_sign
alone (Digit k) e n ts us = refl
alone (Before o) e n ts us = refl
alone (Between o) e n ts us = refl
alone Dash e n ts us = refl
alone Left e n ts us = refl
alone Right e n ts us = refl
alone Letter e n ts us = absurd (n refl)
alone Blank e n ts us = cc
alone Angle e n ts us = cc
alone Other e n ts us = cc

pub passed : (s : List ℕ) (at : ℕ) → at < length s → gap (sign_of (get_or s at 0)) ≡ true → tokens s at ≡ tokens s (at + 1)
passed s at h g = split s at h refl ∙ pass (sign_of (get_or s at 0)) g _ _

-- the lexer behind a name
lex_drop : (n : ℕ) (s : List ℕ) → lex n s ≡ lex 0 (drop n s)
unfolding lex
lex_drop zero s = refl
lex_drop (suc n) [] = refl
lex_drop (suc n) (b ∷ s) = lex_drop n s

-- the mark of a proposition whose name was found
pub name_there : (s : List ℕ) (at : ℕ) (n : Name) → NameAt s at n → Lettered s at (record { token = Leaf (Prop n.number); next = n.next })
name_there s at n h =
    record {
      split = ap₂ (λ k ts. Leaf (Prop k) ∷ ts) (sym h.number_is)
          (lex_drop (name_bytes (drop at s)) (drop at s) ∙ ap (lex 0) (drop-drop (name_bytes (drop at s)) at s ∙ ap (λ i. drop i s) (sym h.next_is)));
      onward = omega (arith, h.next_is);
      within = h.within;
    }

module _ (s : List ℕ) (from at : ℕ) (sk : Skipped s from at) where
  -- the mark of the token with which the tokens begin
  marked : (m : Mark) → tokens s at ≡ m.token ∷ tokens s m.next → at < m.next → m.next ≤ length s → Next s from m
  unfolding head tail
  marked m e lt le =
      let f : tokens s from ≡ m.token ∷ tokens s m.next = sym sk.same ∙ e in
      record {
        token_is = ap head (sym f);
        rest_is = ap tail (sym f);
        onward = omega (arith, sk.onward, lt);
        moves = λ _. omega (arith, sk.onward, lt);
        within = le;
      }

  -- the mark of the end
  pub ended : length s ≤ at → Next s from (record { token = End; next = at })
  unfolding head tail
  ended le =
      let f : tokens s from ≡ [] = sym sk.same ∙ none_left s at sk.within le in
      record {
        token_is = ap head (sym f);
        rest_is = none_left s at sk.within le ∙ ap tail (sym f);
        onward = sk.onward;
        moves = λ h. absurd (omega arith);
        within = sk.within;
      }

  -- the mark of a proposition
  pub lettered : at < length s → get_or s at 0 ≡ 112 → (m : Mark) → Lettered s (at + 1) m → Next s from m
  unfolding lex_sign sign_of
  lettered lt e m l = marked m (split s at lt (ap sign_of e) ∙ l.split) (omega (arith, l.onward)) l.within

  -- the mark of a token that is one byte
  pub single : at < length s → (get_or s at 0 ≡ 112 → ⊥) → {k : Sign} → k ≡ sign_of (get_or s at 0) → {t : Token} → t ≡ token_of k → Next s from (record { token = t; next = at + 1 })
  single lt n {k} e {t} f =
      let no_letter : sign_of (get_or s at 0) ≡ Letter → ⊥ = λ l. n (subst (λ k. Byte k (get_or s at 0)) l (byte_of (get_or s at 0))) in
      let first : tokens s at ≡ t ∷ tokens s (at + 1) =
      split s at lt refl ∙ alone (sign_of (get_or s at 0)) (sk.stops lt) no_letter _ _ ∙ ap (λ u. u ∷ tokens s (at + 1)) (sym (f ∙ ap token_of e)) in
      marked (record { token = t; next = at + 1 }) first (omega arith) (omega arith)
