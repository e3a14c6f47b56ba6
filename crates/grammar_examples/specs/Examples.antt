-- The texts of 01, Marked examples, computed.
use Rattle.std.specs.Prelude.{◌≡◌, refl, [], ◌∷◌, Ok, Err}
use Rattle.meaning.specs.Formula.{prop, neg, until, and, implies}
use Rattle.syntax.specs.Bytes.{sign_of, leaf_of, name_of, name_bytes, lex_sign, lex}
use Rattle.syntax.specs.Grammar.{spell}
use Rattle.syntax.specs.Postfix.{postfix}
use Rattle.syntax.specs.Print.{print}
use Rattle.syntax.specs.Reader.{head, tail, read, more, parse}
use Rattle.syntax.specs.Scan.{closes, named, teen, scan_from, scan}

-- ``
scan_1 : scan ([]) ≡ Err 0
unfolding scan scan_from sign_of closes named teen
scan_1 = refl

-- `p0 p1`
scan_2 : scan (112 ∷ 48 ∷ 32 ∷ 112 ∷ 49 ∷ []) ≡ Err 3
unfolding scan scan_from sign_of closes named teen
scan_2 = refl

-- `p8`, `p15`: names; `p16`, `p01`, `p1 0`, `p`, `p 1`: none
scan_3 : scan (112 ∷ 56 ∷ []) ≡ Ok tt
unfolding scan scan_from sign_of closes named teen
scan_3 = refl

scan_3a : scan (112 ∷ 49 ∷ 53 ∷ []) ≡ Ok tt
unfolding scan scan_from sign_of closes named teen
scan_3a = refl

scan_3b : scan (112 ∷ 49 ∷ 54 ∷ []) ≡ Err 2
unfolding scan scan_from sign_of closes named teen
scan_3b = refl

scan_3c : scan (112 ∷ 48 ∷ 49 ∷ []) ≡ Err 2
unfolding scan scan_from sign_of closes named teen
scan_3c = refl

scan_3d : scan (112 ∷ 49 ∷ 32 ∷ 48 ∷ []) ≡ Err 3
unfolding scan scan_from sign_of closes named teen
scan_3d = refl

scan_3e : scan (112 ∷ []) ≡ Err 1
unfolding scan scan_from sign_of closes named teen
scan_3e = refl

scan_3f : scan (112 ∷ 32 ∷ 49 ∷ []) ≡ Err 1
unfolding scan scan_from sign_of closes named teen
scan_3f = refl

-- `p0-`
scan_4 : scan (112 ∷ 48 ∷ 45 ∷ []) ≡ Err 3
unfolding scan scan_from sign_of closes named teen
scan_4 = refl

-- `((p0)`
scan_5 : scan (40 ∷ 40 ∷ 112 ∷ 48 ∷ 41 ∷ []) ≡ Err 5
unfolding scan scan_from sign_of closes named teen
scan_5 = refl

-- `G(p0->Fp1)`
scan_6 : scan (71 ∷ 40 ∷ 112 ∷ 48 ∷ 45 ∷ 62 ∷ 70 ∷ 112 ∷ 49 ∷ 41 ∷ []) ≡ Ok tt
unfolding scan scan_from sign_of closes named teen
scan_6 = refl

-- ` ( p0 ) `
scan_7 : scan (32 ∷ 40 ∷ 32 ∷ 112 ∷ 48 ∷ 32 ∷ 41 ∷ 32 ∷ []) ≡ Ok tt
unfolding scan scan_from sign_of closes named teen
scan_7 = refl

-- `p0 ->p1`
scan_8 : scan (112 ∷ 48 ∷ 32 ∷ 45 ∷ 62 ∷ 112 ∷ 49 ∷ []) ≡ Ok tt
unfolding scan scan_from sign_of closes named teen
scan_8 = refl

-- `p0- >p1`
scan_9 : scan (112 ∷ 48 ∷ 45 ∷ 32 ∷ 62 ∷ 112 ∷ 49 ∷ []) ≡ Err 3
unfolding scan scan_from sign_of closes named teen
scan_9 = refl

-- `p0)`
scan_10 : scan (112 ∷ 48 ∷ 41 ∷ []) ≡ Err 2
unfolding scan scan_from sign_of closes named teen
scan_10 = refl

-- `p0Up1Up0` prints `(p0U(p1Up0))`
parse_1 : parse (112 ∷ 48 ∷ 85 ∷ 112 ∷ 49 ∷ 85 ∷ 112 ∷ 48 ∷ []) ≡ postfix (until (prop 0) (until (prop 1) (prop 0)))
unfolding parse read more lex lex_sign sign_of leaf_of name_of name_bytes head tail postfix
parse_1 = refl

print_1 : print (until (prop 0) (until (prop 1) (prop 0))) ≡ 40 ∷ 112 ∷ 48 ∷ 85 ∷ 40 ∷ 112 ∷ 49 ∷ 85 ∷ 112 ∷ 48 ∷ 41 ∷ 41 ∷ []
unfolding print spell
print_1 = refl

-- `!p0Up1` prints `(!p0Up1)`
parse_2 : parse (33 ∷ 112 ∷ 48 ∷ 85 ∷ 112 ∷ 49 ∷ []) ≡ postfix (until (neg (prop 0)) (prop 1))
unfolding parse read more lex lex_sign sign_of leaf_of name_of name_bytes head tail postfix
parse_2 = refl

print_2 : print (until (neg (prop 0)) (prop 1)) ≡ 40 ∷ 33 ∷ 112 ∷ 48 ∷ 85 ∷ 112 ∷ 49 ∷ 41 ∷ []
unfolding print spell
print_2 = refl

-- `p0&p1&p0` prints `((p0&p1)&p0)`
parse_3 : parse (112 ∷ 48 ∷ 38 ∷ 112 ∷ 49 ∷ 38 ∷ 112 ∷ 48 ∷ []) ≡ postfix (and (and (prop 0) (prop 1)) (prop 0))
unfolding parse read more lex lex_sign sign_of leaf_of name_of name_bytes head tail postfix
parse_3 = refl

print_3 : print (and (and (prop 0) (prop 1)) (prop 0)) ≡ 40 ∷ 40 ∷ 112 ∷ 48 ∷ 38 ∷ 112 ∷ 49 ∷ 41 ∷ 38 ∷ 112 ∷ 48 ∷ 41 ∷ []
unfolding print spell
print_3 = refl

-- `p1Up10` has a name of one digit and one of two
parse_4 : parse (112 ∷ 49 ∷ 85 ∷ 112 ∷ 49 ∷ 48 ∷ []) ≡ postfix (until (prop 1) (prop 10))
unfolding parse read more lex lex_sign sign_of leaf_of name_of name_bytes head tail postfix
parse_4 = refl

print_4 : print (until (prop 1) (prop 10)) ≡ 40 ∷ 112 ∷ 49 ∷ 85 ∷ 112 ∷ 49 ∷ 48 ∷ 41 ∷ []
unfolding print spell
print_4 = refl

-- `p0->p1->p0` prints `(p0->(p1->p0))`
parse_5 : parse (112 ∷ 48 ∷ 45 ∷ 62 ∷ 112 ∷ 49 ∷ 45 ∷ 62 ∷ 112 ∷ 48 ∷ []) ≡ postfix (implies (prop 0) (implies (prop 1) (prop 0)))
unfolding parse read more lex lex_sign sign_of leaf_of name_of name_bytes head tail postfix
parse_5 = refl

print_5 : print (implies (prop 0) (implies (prop 1) (prop 0))) ≡ 40 ∷ 112 ∷ 48 ∷ 45 ∷ 62 ∷ 40 ∷ 112 ∷ 49 ∷ 45 ∷ 62 ∷ 112 ∷ 48 ∷ 41 ∷ 41 ∷ []
unfolding print spell
print_5 = refl
