-- The printed text of a rule.
use Rattle.std.specs.Prelude.{ℕ, ◌<◌, List, [], ◌∷◌, ◌++◌}
use Prim.{Unit}
use Rattle.syntax.specs.Grammar.{spell}
use Rattle.meaning.specs.Formula.{Formula, never, always, prop, neg, next, finally, globally, until, release, and, or, implies}

-- a two-sided operator with its operands, in parentheses
abbrev pub inside : List ℕ → List ℕ → List ℕ → List ℕ
inside s o t = 40 ∷ (s ++ (o ++ (t ++ 41 ∷ [])))

unfoldable pub print : Formula → List ℕ
print never = 48 ∷ []
print always = 49 ∷ []
print (prop k) = 112 ∷ spell k
print (neg a) = 33 ∷ print a
print (next a) = 88 ∷ print a
print (finally a) = 70 ∷ print a
print (globally a) = 71 ∷ print a
print (until a b) = inside (print a) (85 ∷ []) (print b)
print (release a b) = inside (print a) (82 ∷ []) (print b)
print (and a b) = inside (print a) (38 ∷ []) (print b)
print (or a b) = inside (print a) (124 ∷ []) (print b)
print (implies a b) = inside (print a) (45 ∷ 62 ∷ []) (print b)

-- each proposition is below n
unfoldable pub Below : ℕ → Formula → Type 0
Below n never = Unit {0}
Below n always = Unit {0}
Below n (prop k) = k < n
Below n (neg a) = Below n a
Below n (next a) = Below n a
Below n (finally a) = Below n a
Below n (globally a) = Below n a
Below n (until a b) = Below n a × Below n b
Below n (release a b) = Below n a × Below n b
Below n (and a b) = Below n a × Below n b
Below n (or a b) = Below n a × Below n b
Below n (implies a b) = Below n a × Below n b
