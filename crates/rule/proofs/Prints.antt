-- What printing an accepted value does: its rule's text stands at the buffer's start.
use Rattle.std.specs.Prelude.{ℕ, ◌≤◌, ◌<◌, ◌≡◌, refl, List, ◌++◌, Bool, true, false, T, ltb, length, drop, Ok, Err}
use Rattle.std.proofs.Common.{sym, ap, subst, ◌∙◌, lt-ltb, le-ltb, ltb-true, ltb-false, arith}
use Rattle.answers.specs.declared.Kind.TheVariants.{Value, Room}
use Rattle.answers.specs.declared.Refusal.{Refusal}
use Rattle.answers.specs.Paper.{refused_at}
use Rattle.syntax.specs.declared.Rule.{Rule}
use Rattle.syntax.specs.Grammar.{names}
use Rattle.syntax.specs.Print.{print}
use Rattle.syntax.specs.Value.{held}
use Rattle.printer.specs.Tell.{shares, Shows, Printable, Prints}
use Rattle.printer.proofs.Printing.{room_is}
use Rattle.rule_value.specs.Valid.{valid_of, RuleValue}
use Rattle.words.specs.Over.{over}
use Rattle.rule.specs.Printing.{top_text, text_of, no_print, print_answer, print_buffer}
use Rattle.rule_value.specs.Values.{rule_valid, valid_rule, decoded}

pub text_is : {r : Rule} {q : ℕ} (v : RuleValue r q) → text_of r ≡ print v.formula
text_is v = ap top_text (decoded v)

module _ {r : Rule} (v : RuleValue r names) where
  showing : Shows r v.formula
  showing = record { is = v.is; small = v.small; below = v.below }

  pub room : shares (held r) ≡ length (text_of r)
  room = room_is showing ∙ ap length (sym (text_is v))

  pub printable : (n : ℕ) → length (text_of r) ≤ n → Printable r n
  printable n g = record { formula = v.formula; shows = showing; fits = omega (arith, ap length (text_is v)) }

  pub long : {a b : List ℕ} {n : ℕ} → Prints r a n b → n ≡ length (text_of r)
  long p = p.long v.formula showing ∙ ap length (sym (text_is v))

  pub laid : {a b : List ℕ} {n : ℕ} → Prints r a n b → b ≡ over (text_of r) a
  laid {a} {b} {n} p = p.text v.formula showing ∙ ap (λ t. t ++ drop n a) (sym (text_is v)) ∙ ap (λ k. text_of r ++ drop k a) (long p)

-- what is answered, and what is left in the buffer
module _ (r : Rule) (old : List ℕ) where
  pub not_valid : valid_of r names ≡ false → (x : Refusal) → x ≡ refused_at Value 0 → (Err x ≡ print_answer r old) × (old ≡ print_buffer r old)
  not_valid e x is = simp e (ap Err is, refl)

  module _ (e : valid_of r names ≡ true) where
    pub too_short : length old < length (text_of r) → (x : Refusal) → x ≡ refused_at Room 0 → (Err x ≡ print_answer r old) × (old ≡ print_buffer r old)
    too_short h x is = simp (e, lt-ltb (length old) (length (text_of r)) h) (ap Err is, refl)

    pub fitting : length (text_of r) ≤ length old → (n : ℕ) (b : List ℕ) → n ≡ length (text_of r) → b ≡ over (text_of r) old → (Ok (record { bytes = n }) ≡ print_answer r old) × (b ≡ print_buffer r old)
    fitting h n b is whole = simp (e, le-ltb (length old) (length (text_of r)) h) (ap (λ k. Ok (record { bytes = k })) is, whole)

-- one of these always is the case: no rule's value, no room, or the text
pub data Printing (r : Rule) (old : List ℕ) : Type 0 where
  no_rule_lem : (RuleValue r names → ⊥) → Printing r old
  no_room : (v : RuleValue r names) → length old < length (print v.formula) → Printing r old
  its_text_lem : (v : RuleValue r names) → length (print v.formula) ≤ length old → Printing r old

pub printing : (r : Rule) (old : List ℕ) → length r.nodes ≡ 32 → Printing r old
printing r old full = go (valid_of r names) refl
  where
    on_room : (v : RuleValue r names) (b : Bool) → ltb (length old) (length (print v.formula)) ≡ b → Printing r old
    on_room v true e = no_room v (ltb-true (length old) (length (print v.formula)) e)
    on_room v false e = its_text_lem v (ltb-false (length old) (length (print v.formula)) e)

    go : (b : Bool) → valid_of r names ≡ b → Printing r old
    go true e = let v = valid_rule r names full e in on_room v (ltb (length old) (length (print v.formula))) refl
    go false e = no_rule_lem (λ v. subst T (sym (rule_valid v) ∙ e) tt)

-- and so is answered
module _ (r : Rule) (old : List ℕ) where
  pub answer_none : length r.nodes ≡ 32 → (RuleValue r names → ⊥) → (print_answer r old ≡ no_print Value) × (print_buffer r old ≡ old)
  answer_none full h = let p = not_valid r old (false_of (valid_of r names) (λ e. h (valid_rule r names full e))) (refused_at Value 0) refl in (sym p.0, sym p.1)
    where
      false_of : (b : Bool) → (b ≡ true → ⊥) → b ≡ false
      false_of true f = absurd (f refl)
      false_of false f = refl

  module _ (v : RuleValue r names) where
    pub answer_room : length old < length (print v.formula) → (print_answer r old ≡ no_print Room) × (print_buffer r old ≡ old)
    answer_room h = let p = too_short r old (rule_valid v) (omega (arith, ap length (text_is v))) (refused_at Room 0) refl in (sym p.0, sym p.1)

    pub answer_text : length (print v.formula) ≤ length old
        → (print_answer r old ≡ Ok (record { bytes = length (print v.formula) })) × (print_buffer r old ≡ over (print v.formula) old)
    answer_text h =
        let e = text_is v in
        let p = fitting r old (rule_valid v) (omega (arith, ap length e)) (length (text_of r)) (over (text_of r) old) refl refl in
        (sym p.0 ∙ ap (λ t. Ok (record { bytes = length t })) e, sym p.1 ∙ ap (λ t. over t old) e)
