-- What the calls on rules promise. Their contracts are equations: read_rule answers `rule_read`, is_valid `valid_of`, print_rule `print_answer`, and leaves `print_buffer`.
-- What these mean is said here by short definitions (01, Rule text): `syntax/specs/Grammar` says what a text of the grammar is (`SaidBy f s`: the rule f is said by the text s), `syntax/specs/Value` what a rule's
-- value is (`rule_of f`), `rule_text/specs/Paper` what each refusal is given for (`Because`), and what it is for a text to be accepted (`Takes`).
use Rattle.std.specs.Prelude.{ℕ, ◌≤◌, ◌<◌, ◌≡◌, refl, ◌↔◌, List, Bool, true, false, T, length, Result, Ok, Err}
use Rattle.std.proofs.Common.{sym, ap, subst, ◌∙◌, arith}
use Rattle.answers.specs.declared.Kind.{Kind}
use Rattle.answers.specs.declared.Kind.TheVariants.{Value, Room}
use Rattle.answers.specs.Paper.{kind_number}
use Rattle.meaning.specs.Formula.{Formula, size, parts}
use Rattle.meaning.specs.Limits.{most_nodes, most_parts}
use Rattle.plant.specs.declared.Plant.{Plant}
use Rattle.syntax.specs.declared.Rule.{Rule}
use Rattle.syntax.specs.Grammar.{names, SaidBy, Refused, Unknown}
use Rattle.syntax.specs.Print.{print, Below}
use Rattle.syntax.specs.Value.{rule_of}
use Rattle.syntax.proofs.OnePlace.{one_place, one_unknown}
use Rattle.syntax.proofs.Parse.{one_rule}
use Rattle.syntax.proofs.Printed.{printed, short, longest, below_more}
use Rattle.rule.specs.declared.Length.{Length}
use Rattle.answers.specs.declared.Refusal.{Refusal}
use Rattle.rule_text.specs.Reading.{no_rule, accepted, text_read, rule_read}
use Rattle.rule_value.specs.Valid.{valid_of, RuleValue}
use Rattle.words.specs.Over.{over}
use Rattle.rule.specs.Printing.{text_of, no_print, print_answer, print_buffer}
use Rattle.rule_text.specs.Paper.{Beside, Takes, Because}
use Rattle.rule_text.proofs.Judged.{reads_rule, Accepts, text_accepted}
use Rattle.rule_value.specs.Values.{valid_exactly}
use Rattle.rule.proofs.Prints.{text_is, Printing, no_rule_lem, no_room, its_text_lem, printing, answer_none, answer_room, answer_text}
use Rattle.rule_text.proofs.Answering as answering

-- what stands in an answer of print_rule
abbrev is_text : Result Length Refusal → Bool
is_text (Ok n) = true
is_text (Err x) = false

abbrev print_number : Result Length Refusal → ℕ
print_number (Ok n) = 0
print_number (Err x) = kind_number x.kind

-- READING A TEXT

module _ (p : Plant) (fair label next : List ℕ) where
  -- a text is accepted exactly if it is of the grammar and within the limits, and the value is that of the rule that the grammar gives
  pub accepted_exactly : (s : List ℕ) (r : Rule) → (rule_read p fair label next s ≡ accepted r) ↔ Takes p fair label next s r
  accepted_exactly s = answering.accepted_exactly p fair label next s

  -- each refusal is given exactly for its cause, at its place, and in its turn (01, Refusal numbers)
  pub refused_exactly : (s : List ℕ) (kind : Kind) (k : ℕ) → (rule_read p fair label next s ≡ no_rule kind k) ↔ Because p fair label next s kind k
  refused_exactly s = answering.refused_exactly p fair label next s

-- the grammar is unambiguous: a text says one rule
pub one_tree : (s : List ℕ) (f g : Formula) → SaidBy f s → SaidBy g s → f ≡ g
one_tree s f g a b = one_rule a b

-- the place of refusal 5 is the only one of its kind, and so is that of refusal 6
pub one_place_of_5 : (s : List ℕ) (k m : ℕ) → Refused s k → Refused s m → k ≡ m
one_place_of_5 = one_place

pub one_place_of_6 : (q : ℕ) (s : List ℕ) (k m : ℕ) → Unknown q s k → Unknown q s m → k ≡ m
one_place_of_6 = one_unknown

-- PRINTING AND READING BACK

module _ (p : Plant) (fair label next : List ℕ) where
  -- every rule of the grammar within the limits is printed as a text that reads back as its value
  pub reads_back : Beside p fair label next → (f : Formula) → Below p.props f → size f ≤ most_nodes → parts f ≤ most_parts → rule_read p fair label next (print f) ≡ accepted (rule_of f)
  reads_back b f below small few =
      let says = printed f (below_more p.props names (omega (arith, b.table.few_props)) f below) in
      answering.in_order p fair label next (print f) b ∙ reads_rule p.props (print f) (omega (arith, short f small)) says below small few

  -- and what any accepted text gives is such a rule's value: printed, it is read back as it is
  pub accepted_back : (s : List ℕ) (r : Rule) → rule_read p fair label next s ≡ accepted r → rule_read p fair label next (text_of r) ≡ accepted r
  accepted_back s r e =
      let t = (accepted_exactly p fair label next s r).0 e in
      let f = t.formula in
      let v : RuleValue r p.props = record { formula = f; is = t.is; small = t.small; few = t.few; below = t.below } in
      ap (rule_read p fair label next) (text_is v) ∙ reads_back t.reads.beside f t.below t.small t.few ∙ ap accepted (sym t.is)

-- at most 109 bytes are printed, and for some value as many
pub at_most_109 : (r : Rule) (q : ℕ) → RuleValue r q → length (text_of r) ≤ 109
at_most_109 r q v = let e = ap length (text_is v) in omega (arith, short v.formula v.small)

pub some_109 : (r : Rule) × RuleValue r names × (length (text_of r) ≡ 109)
some_109 =
    let (f, s, p, b, l) = longest in
    let v : RuleValue (rule_of f) names = record { formula = f; is = refl; small = omega arith; few = omega arith; below = b } in (rule_of f, v, ap length (text_is v) ∙ l)

-- CHECKING A VALUE

-- for up to 16 propositions, a value is accepted exactly if some accepted text gives it
pub given_exactly : (r : Rule) (q : ℕ) → length r.nodes ≡ 32 → 1 ≤ q → q ≤ names → (valid_of r q ≡ true) ↔ ((s : List ℕ) × (text_read s q ≡ accepted r))
given_exactly r q full some few =
    let e = valid_exactly r q full in
    (λ h. (text_of r, given (e.0 h)), λ g. e.1 (value (text_accepted q some g.0 r g.1)))
  where
    given : RuleValue r q → text_read (text_of r) q ≡ accepted r
    given v =
        let f = v.formula in
        ap (λ s. text_read s q) (text_is v) ∙ reads_rule q (print f) (omega (arith, short f v.small)) (printed f (below_more q names few f v.below)) v.below v.small v.few ∙ ap accepted (sym v.is)

    value : {s : List ℕ} → Accepts q s r → RuleValue r q
    value a = record { formula = a.formula; is = a.is; small = a.small; few = a.few; below = a.below }

-- PRINTING A VALUE

-- for a value r (its array has 32 nodes) and a buffer that holds old
module _ (r : Rule) (old : List ℕ) (full : length r.nodes ≡ 32) where
  -- 9 exactly if no accepted text gives the value, for 16 propositions
  pub nine_exactly : (print_answer r old ≡ no_print Value) ↔ ((s : List ℕ) → text_read s names ≡ accepted r → ⊥)
  nine_exactly = (λ e. go (printing r old full) e, λ h. (answer_none r old full (λ v. (let g = (given_exactly r names full (omega arith) (omega arith)).0 ((valid_exactly r names full).1 v) in h g.0 g.1))).0)
    where
      value : (s : List ℕ) → text_read s names ≡ accepted r → RuleValue r names
      value s e = (valid_exactly r names full).0 ((given_exactly r names full (omega arith) (omega arith)).1 (s, e))

      go : Printing r old → print_answer r old ≡ no_print Value → (s : List ℕ) → text_read s names ≡ accepted r → ⊥
      go (no_rule_lem h) e s t = h (value s t)
      go (no_room v h) e s t = omega (arith, ap print_number (sym (answer_room r old v h).0 ∙ e))
      go (its_text_lem v h) e s t = omega (arith, ap print_number (sym (answer_text r old v h).0 ∙ e))

  -- 11 exactly if it is a rule's value, and the buffer is shorter than the rule's text
  pub eleven_exactly : (print_answer r old ≡ no_print Room) ↔ ((v : RuleValue r names) × (length old < length (print v.formula)))
  eleven_exactly = (λ e. go (printing r old full) e, λ h. (answer_room r old h.0 h.1).0)
    where
      go : Printing r old → print_answer r old ≡ no_print Room → (v : RuleValue r names) × (length old < length (print v.formula))
      go (no_rule_lem h) e = absurd (omega (arith, ap print_number (sym (answer_none r old full h).0 ∙ e)))
      go (no_room v h) e = (v, h)
      go (its_text_lem v h) e = absurd (omega (arith, ap print_number (sym (answer_text r old v h).0 ∙ e)))

  -- else the rule's text stands at the buffer's start, its length is answered, and the other bytes stay
  pub prints : (v : RuleValue r names) → length (print v.formula) ≤ length old
      → (print_answer r old ≡ Ok (record { bytes = length (print v.formula) })) × (print_buffer r old ≡ over (print v.formula) old)
  prints v h = answer_text r old v h

  -- with a refusal all bytes stay
  pub stays : (kind : Kind) → print_answer r old ≡ no_print kind → print_buffer r old ≡ old
  stays kind e = go (printing r old full)
    where
      go : Printing r old → print_buffer r old ≡ old
      go (no_rule_lem h) = (answer_none r old full h).1
      go (no_room v h) = (answer_room r old v h).1
      go (its_text_lem v h) = absurd (subst T (ap is_text (sym (answer_text r old v h).0 ∙ e)) tt)
