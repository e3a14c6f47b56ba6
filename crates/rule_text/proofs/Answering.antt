-- Each answer of read_rule is given exactly for its cause, as Paper has it.
use Rattle.std.specs.Prelude.{ℕ, ◌≡◌, refl, ◌↔◌, List, Ok}
use Rattle.std.proofs.Common.{sym, ap, subst, ◌∙◌, ⊎_elim}
use Rattle.answers.specs.declared.Kind.{Kind}
use Rattle.answers.specs.declared.Kind.TheVariants.{Bits}
use Rattle.answers.specs.Chain.{refused_as, kind_of, place_of}
use Rattle.plant.specs.declared.Plant.{Plant}
use Rattle.plant.specs.Table.{table_outcome}
use Rattle.plant.specs.Check as table
use Rattle.syntax.specs.declared.Rule.{Rule}
use Rattle.syntax.specs.Value.{rule_of}
use Rattle.rule_text.specs.declared.RuleRead.{RuleRead}
use Rattle.rule_text.specs.Reading.{no_rule, accepted, text_read, of_table, rule_read}
use Rattle.rule_text.specs.Paper.{Beside, Takes, Because, counts, bits, too_long, no_text, unknown, too_large, too_many}
use Rattle.rule_text.proofs.Judged.{refusal_none, reads_long, reads_none, reads_unknown, reads_large, reads_many, reads_rule, Judged}
use Rattle.rule_text.proofs.Judged as judged

module _ (p : Plant) (fair label next s : List ℕ) where
  abbrev answer : RuleRead
  answer = rule_read p fair label next s

  pub in_order : Beside p fair label next → answer ≡ text_read s p.props
  in_order b = ap (of_table (text_read s p.props)) ((table.accepted_exactly p fair label next).1 (b.fairs, b.table))

  refuses : {kind : Kind} {k : ℕ} → Because p fair label next s kind k → answer ≡ no_rule kind k
  refuses (counts h) = ap (of_table (text_read s p.props)) ((table.counts_refused p fair label next).1 h)
  refuses (bits l b) = ap (of_table (text_read s p.props)) ((table.bits_refused p fair label next).1 (l, b))
  refuses (too_long b h) = in_order b ∙ reads_long p.props s h
  refuses (no_text {k} b h r) = in_order b ∙ reads_none p.props s h k r
  refuses (unknown {k} r u) = in_order r.beside ∙ reads_unknown p.props s r.short r.beside.table.some_props r.says k u
  refuses (too_large r below h) = in_order r.beside ∙ reads_large p.props s r.short r.says below h
  refuses (too_many r below small h) = in_order r.beside ∙ reads_many p.props s r.short r.says below small h

  takes : (r : Rule) → Takes p fair label next s r → answer ≡ accepted r
  takes r t = let x = t.reads in in_order x.beside ∙ reads_rule p.props s x.short x.says t.below t.small t.few ∙ ap accepted (sym t.is)

  -- one of these always is the case
  data Answered : Type 0 where
    is_refused_lem : {kind : Kind} {k : ℕ} → Because p fair label next s kind k → Answered
    is_accepted_lem : (r : Rule) → Takes p fair label next s r → Answered

  by_text : Beside p fair label next → Judged p.props s → Answered
  by_text b (judged.too_long h) = is_refused_lem (too_long b h)
  by_text b (judged.no_text k h r) = is_refused_lem (no_text b h r)
  by_text b (judged.unknown_name f k h says u) = is_refused_lem (unknown (record { beside = b; short = h; says = says }) u)
  by_text b (judged.too_large f h says below g) = is_refused_lem (too_large (record { beside = b; short = h; says = says }) below g)
  by_text b (judged.too_many f h says below g few) = is_refused_lem (too_many (record { beside = b; short = h; says = says }) below g few)
  by_text b (judged.a_rule f h says below g few) =
      is_accepted_lem (rule_of f) (record { formula = f; reads = record { beside = b; short = h; says = says }; below = below; small = g; few = few; is = refl })

  answered : Answered
  answered = ⊎_elim (λ d. ⊎_elim fine (λ e. is_refused_lem (counts ((table.counts_refused p fair label next).0 e))) d) beyond (table.one_of_three p fair label next)
    where
      fine : table_outcome p fair label next ≡ Ok tt → Answered
      fine e = let (f, t) = (table.accepted_exactly p fair label next).0 e in by_text (record { fairs = f; table = t }) (judged.judged p.props t.some_props s)

      beyond : table_outcome p fair label next ≡ refused_as Bits → Answered
      beyond e = let (l, b) = (table.bits_refused p fair label next).0 e in is_refused_lem (bits l b)

  pub refused_exactly : (kind : Kind) (k : ℕ) → (answer ≡ no_rule kind k) ↔ Because p fair label next s kind k
  refused_exactly kind k = (λ e. go answered e, refuses)
    where
      go : Answered → answer ≡ no_rule kind k → Because p fair label next s kind k
      go (is_refused_lem {kind = other} b) e =
          let same = sym (refuses b) ∙ e in
          subst (λ x. Because p fair label next s x k) (ap (λ a. kind_of a.outcome) same) (subst (λ n. Because p fair label next s other n) (ap (λ a. place_of a.outcome) same) b)
      go (is_accepted_lem r t) e = absurd (refusal_none kind k r (sym e ∙ takes r t))

  pub accepted_exactly : (r : Rule) → (answer ≡ accepted r) ↔ Takes p fair label next s r
  accepted_exactly r = (λ e. go answered e, λ t. takes r t)
    where
      go : Answered → answer ≡ accepted r → Takes p fair label next s r
      go (is_refused_lem {kind} {k} b) e = absurd (refusal_none kind k r (sym (refuses b) ∙ e))
      go (is_accepted_lem other t) e = subst (λ x. Takes p fair label next s x) (ap (λ a. a.rule) (sym (takes other t) ∙ e)) t
