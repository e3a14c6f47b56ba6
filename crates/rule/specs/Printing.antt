-- What printing a rule value answers, and what it leaves in the buffer.
use Rattle.std.specs.Prelude.{ℕ, cond, List, [], ◌∷◌, ltb, length, Result, Ok, Err}
use Rattle.meaning.specs.Formula.{Formula}
use Rattle.words.specs.Over.{over}
use Rattle.answers.specs.declared.Kind.{Kind}
use Rattle.answers.specs.declared.Kind.TheVariants.{Value, Room}
use Rattle.answers.specs.Paper.{refused_at}
use Rattle.syntax.specs.declared.Rule.{Rule}
use Rattle.syntax.specs.Grammar.{names}
use Rattle.syntax.specs.Postfix.{decode}
use Rattle.syntax.specs.Print.{print}
use Rattle.syntax.specs.Value.{held}
use Rattle.rule.specs.declared.Length.{Length}
use Rattle.answers.specs.declared.Refusal.{Refusal}
use Rattle.rule_value.specs.Valid.{valid_of}

-- the text of the rule on top of a stack
abbrev pub top_text : List Formula → List ℕ
top_text [] = []
top_text (f ∷ fs) = print f

-- the printed text of the rule that a value's nodes are
abbrev pub text_of : Rule → List ℕ
text_of r = top_text (decode (held r) [])

-- a refusal to print
abbrev pub no_print : Kind → Result Length Refusal
no_print k = Err (refused_at k 0)

-- 9 for a value of no rule over the propositions that have a name, 11 for a buffer shorter than the text, and else the text's length
abbrev pub print_answer : Rule → List ℕ → Result Length Refusal
print_answer r old = cond (valid_of r names) (cond (ltb (length old) (length (text_of r))) (no_print Room) (Ok (record { bytes = length (text_of r) }))) (no_print Value)

-- the text over the buffer's start where it is printed, and else the buffer as it was
abbrev pub print_buffer : Rule → List ℕ → List ℕ
print_buffer r old = cond (valid_of r names) (cond (ltb (length old) (length (text_of r))) old (over (text_of r) old)) old
