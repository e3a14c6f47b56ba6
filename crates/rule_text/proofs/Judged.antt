-- What reading a text alone answers, said by the grammar and the limits.
use Rattle.std.specs.Prelude.{ℕ, ◌≤◌, ◌<◌, ◌≡◌, refl, List, Bool, true, false, T, ltb, length, Result, Ok, Err}
use Rattle.std.proofs.Common.{sym, ap, subst, ◌∙◌, arith, ltb-true, ltb-false}
use Rattle.answers.specs.declared.Kind.{Kind}
use Rattle.answers.specs.Chain.{is_accepted}
use Rattle.answers.specs.declared.Kind.TheVariants.{RuleLength, RuleText, Proposition, Nodes, Parts}
use Rattle.meaning.specs.Formula.{Formula, size, parts}
use Rattle.meaning.specs.Limits.{most_nodes, most_parts}
use Rattle.syntax.specs.declared.Rule.{Rule}
use Rattle.syntax.specs.Grammar.{longest_rule, SaidBy, Refused, Unknown}
use Rattle.syntax.specs.Postfix.{postfix}
use Rattle.syntax.specs.Print.{Below}
use Rattle.syntax.specs.Scan.{scan}
use Rattle.syntax.specs.Value.{empty_rule, rule_of}
use Rattle.syntax.proofs.OnePlace.{one_place, one_unknown}
use Rattle.syntax.proofs.Parse.{parsed}
use Rattle.syntax.proofs.Place.{scanned}
use Rattle.syntax.proofs.Values.{parts_held}
use Rattle.reader.specs.Draft.{written}
use Rattle.reader.proofs.Written.{written_rule, written_over}
use Rattle.std.specs.Prelude.{Option}
use Rattle.std.specs.Prelude.{Some, None}
use Rattle.rule_text.specs.Reading.{no_rule, accepted, unknown_at, limited, text_read}
use Rattle.rule_text.specs.Checks.{limited_long, limited_many, limited_fine, named_unknown, named_fine, read_long, read_bad, read_good_lem}
use Rattle.rule_text.specs.Known.{below_exactly, first_unknown, none_unknown}

-- a refusal is no acceptance
pub refusal_none : (kind : Kind) (k : ℕ) (r : Rule) → no_rule kind k ≡ accepted r → ⊥
refusal_none kind k r e = subst T (ap (λ a. is_accepted a.outcome) (sym e)) tt

-- the limits, by the rule
module _ (f : Formula) where
  limits_size : most_nodes < size f → limited (written empty_rule (postfix f)) ≡ no_rule Nodes 0
  limits_size h = limited_long (written empty_rule (postfix f)) (omega (arith, written_over f h))

  limits_parts : size f ≤ most_nodes → most_parts < parts f → limited (written empty_rule (postfix f)) ≡ no_rule Parts 0
  limits_parts h g = ap limited (written_rule f h) ∙ limited_many (rule_of f) h (omega (arith, parts_held f))

  limits_fine : size f ≤ most_nodes → parts f ≤ most_parts → limited (written empty_rule (postfix f)) ≡ accepted (rule_of f)
  limits_fine h g = ap limited (written_rule f h) ∙ limited_fine (rule_of f) h (omega (arith, parts_held f))

-- the scanner is good on a text of the grammar
good : {f : Formula} {s : List ℕ} → SaidBy f s → scan s ≡ Ok tt
good {f} {s} r = go (scan s) refl
  where
    go : (x : Result (Unit {0}) ℕ) → scan s ≡ x → scan s ≡ Ok tt
    go (Ok _) e = e
    go (Err k) e = absurd ((rw e at (scanned s)).outside f r)

module _ (q : ℕ) (s : List ℕ) where
  pub reads_long : longest_rule < length s → text_read s q ≡ no_rule RuleLength longest_rule
  reads_long h = read_long s q h

  module _ (short : length s ≤ longest_rule) where
    pub reads_none : (k : ℕ) → Refused s k → text_read s q ≡ no_rule RuleText k
    reads_none k r = go (scan s) refl
      where
        go : (x : Result (Unit {0}) ℕ) → scan s ≡ x → text_read s q ≡ no_rule RuleText k
        go (Ok _) e = let g : (f : Formula) × SaidBy f s = rw e at (scanned s) in absurd (r.outside g.0 g.1)
        go (Err m) e = read_bad s q m short e ∙ ap (no_rule RuleText) (one_place s m k (rw e at (scanned s)) r)

    module _ (some : 1 ≤ q) {f : Formula} (says : SaidBy f s) where
      pub reads_unknown : (k : ℕ) → Unknown q s k → text_read s q ≡ no_rule Proposition k
      reads_unknown k u = go (unknown_at q 0 s) refl
        where
          go : (x : Option ℕ) → unknown_at q 0 s ≡ x → text_read s q ≡ no_rule Proposition k
          go None e = absurd (omega (arith, u.beyond, none_unknown q s 0 e k u.which u.here))
          go (Some m) e = read_good_lem s q short (good says) ∙ named_unknown s q m e ∙ ap (no_rule Proposition) (one_unknown q s m k (first_unknown q some s m e) u)

    module _ {f : Formula} (says : SaidBy f s) (below : Below q f) where
      reads_known : text_read s q ≡ limited (written empty_rule (postfix f))
      reads_known = read_good_lem s q short (good says) ∙ named_fine s q ((below_exactly q says).1 below) ∙ ap (λ os. limited (written empty_rule os)) (parsed says)

      pub reads_large : most_nodes < size f → text_read s q ≡ no_rule Nodes 0
      reads_large h = reads_known ∙ limits_size f h

      pub reads_many : size f ≤ most_nodes → most_parts < parts f → text_read s q ≡ no_rule Parts 0
      reads_many h g = reads_known ∙ limits_parts f h g

      pub reads_rule : size f ≤ most_nodes → parts f ≤ most_parts → text_read s q ≡ accepted (rule_of f)
      reads_rule h g = reads_known ∙ limits_fine f h g

-- one of these always is the case
pub data Judged (q : ℕ) (s : List ℕ) : Type 0 where
  too_long : longest_rule < length s → Judged q s
  no_text : (k : ℕ) → length s ≤ longest_rule → Refused s k → Judged q s
  unknown_name : (f : Formula) (k : ℕ) → length s ≤ longest_rule → SaidBy f s → Unknown q s k → Judged q s
  too_large : (f : Formula) → length s ≤ longest_rule → SaidBy f s → Below q f → most_nodes < size f → Judged q s
  too_many : (f : Formula) → length s ≤ longest_rule → SaidBy f s → Below q f → size f ≤ most_nodes → most_parts < parts f → Judged q s
  a_rule : (f : Formula) → length s ≤ longest_rule → SaidBy f s → Below q f → size f ≤ most_nodes → parts f ≤ most_parts → Judged q s

pub judged : (q : ℕ) → 1 ≤ q → (s : List ℕ) → Judged q s
judged q some s = on_length (ltb longest_rule (length s)) refl
  where
    on_limits : length s ≤ longest_rule → (f : Formula) → SaidBy f s → Below q f → (b c : Bool) → ltb most_nodes (size f) ≡ b → ltb most_parts (parts f) ≡ c → Judged q s
    on_limits h f says below true c e d = too_large f h says below (ltb-true most_nodes (size f) e)
    on_limits h f says below false true e d = too_many f h says below (ltb-false most_nodes (size f) e) (ltb-true most_parts (parts f) d)
    on_limits h f says below false false e d = a_rule f h says below (ltb-false most_nodes (size f) e) (ltb-false most_parts (parts f) d)

    on_names : length s ≤ longest_rule → (f : Formula) → SaidBy f s → (x : Option ℕ) → unknown_at q 0 s ≡ x → Judged q s
    on_names h f says (Some k) e = unknown_name f k h says (first_unknown q some s k e)
    on_names h f says None e = on_limits h f says ((below_exactly q says).0 e) (ltb most_nodes (size f)) (ltb most_parts (parts f)) refl refl

    on_scan : length s ≤ longest_rule → (x : Result (Unit {0}) ℕ) → scan s ≡ x → Judged q s
    on_scan h (Ok _) e = let y : (f : Formula) × SaidBy f s = rw e at (scanned s) in on_names h y.0 y.1 (unknown_at q 0 s) refl
    on_scan h (Err k) e = no_text k h (rw e at (scanned s))

    on_length : (b : Bool) → ltb longest_rule (length s) ≡ b → Judged q s
    on_length true e = too_long (ltb-true longest_rule (length s) e)
    on_length false e = on_scan (ltb-false longest_rule (length s) e) (scan s) refl

-- what an accepted text says
pub record Accepts (q : ℕ) (s : List ℕ) (r : Rule) : Type 0 where
  pub formula : Formula
  pub says : SaidBy formula s
  pub below : Below q formula
  pub small : size formula ≤ most_nodes
  pub few : parts formula ≤ most_parts
  pub is : r ≡ rule_of formula

pub text_accepted : (q : ℕ) → 1 ≤ q → (s : List ℕ) (r : Rule) → text_read s q ≡ accepted r → Accepts q s r
text_accepted q some s r e = go (judged q some s)
  where
    go : Judged q s → Accepts q s r
    go (too_long h) = absurd (refusal_none _ _ r (sym (reads_long q s h) ∙ e))
    go (no_text k h x) = absurd (refusal_none _ _ r (sym (reads_none q s h k x) ∙ e))
    go (unknown_name f k h says u) = absurd (refusal_none _ _ r (sym (reads_unknown q s h some says k u) ∙ e))
    go (too_large f h says below g) = absurd (refusal_none _ _ r (sym (reads_large q s h says below g) ∙ e))
    go (too_many f h says below g few) = absurd (refusal_none _ _ r (sym (reads_many q s h says below g few) ∙ e))
    go (a_rule f h says below g few) =
        record { formula = f; says = says; below = below; small = g; few = few; is = ap (λ a. a.rule) (sym e ∙ reads_rule q s h says below g few) }
