-- The front door leaves no choice: three files say one table, one rule and one list of events, and two outputs that show what these dictate are the same bytes.
use Rattle.std.specs.Prelude.{ℕ, ◌≤◌, ◌<◌, ◌≡◌, refl, List, ◌++◌, length, get_or, Ok, Err}
use Rattle.std.proofs.Common.{arith, sym, ap, ap₂, subst, ◌∙◌, ⊎_elim, ext_get_or}
use Rattle.words.specs.Folds.{count_same}
use Rattle.words.specs.Truth.{says_same}
use Rattle.text.specs.Number.{width_of}
use Rattle.text.specs.Place.{reads_whole}
use Rattle.text.specs.Promises.{value_one}
use Rattle.text.specs.Cases.{below_or_beyond}
use Rattle.meaning.specs.Formula.{Formula}
use Rattle.meaning.specs.Run.{Plant}
use Rattle.meaning.specs.Event.{History}
use Rattle.meaning.specs.Limits.{AcceptedTable}
use Rattle.meaning.specs.Verdict.{Right}
use Rattle.answers.specs.declared.Verdict.{Verdict}
use Rattle.answers.specs.declared.Verdict.TheVariants.{Inconclusive, True, False, OutOfModel}
use Rattle.answers.specs.declared.Kind.TheVariants.{IllegalEvent, Number as NumberKind}
use Rattle.answers.specs.declared.Lamp.{Lamp}
use Rattle.answers.specs.Results.{Answer}
use Rattle.answers.specs.Paper.{Paper, verdict, refused, accepted, number_of}
use Rattle.answers.proofs.Promises.{one_answer}
use Rattle.plant.specs.Text.{table_reads}
use Rattle.plant.specs.Promises.{table_out, accepted_formed}
use Rattle.syntax.specs.Grammar.{SaidBy}
use Rattle.rule.proofs.Promises.{one_tree}
use Rattle.event_log.specs.declared.Event.{Event}
use Rattle.event_log.specs.Log.{log_whole}
use Rattle.event_log.proofs.Promises.{log_out}
use Rattle.report.specs.Text.{start_text}
use Rattle.lamp_lines.specs.Lines.{dark, lines_text}
use Rattle.transcript.specs.Said.{File, bytes_of}
use Rattle.promises.specs.Demand.{Lit}
use Rattle.front_door.specs.RuleEnd.{stripped, end_said, end_dropped}
use Rattle.front_door.specs.FrontDoor as door
use Rattle.watching.specs.Filled.{number_at}
use Rattle.front_door.specs.FrontDoor.{SaysTable, SaysRule, SaysLog, TakenAt, Ends, at_end_lem, at_event, at_number, Shows}

-- ---- what files say

pub table_one : {plant : File} {t u : Plant} → AcceptedTable t → AcceptedTable u → SaysTable plant t → SaysTable plant u → t ≡ u
table_one {t = t} {u = u} a b says says' =
    let same : says.text ≡ says'.text = ap bytes_of (sym says.is ∙ says'.is) in
    value_one table_out (reads_whole table_reads) t u says'.text (accepted_formed t a) (accepted_formed u b) (rw same at says.said) says'.said

pub rule_one : {rule : File} {q : ℕ} {f g : Formula} → SaysRule rule q f → SaysRule rule q g → f ≡ g
rule_one {rule} {q} {f} {g} a b = one_tree b.text f g (subst (SaidBy f) (sym (text_is a) ∙ text_is b) a.said) b.said
  where
    text_is : {f : Formula} (says : SaysRule rule q f) → stripped (bytes_of rule) ≡ says.text
    text_is says = ⊎_elim (λ e. ap (λ (x : File). stripped (bytes_of x)) e ∙ end_said says.said) (λ e. ap (λ (x : File). stripped (bytes_of x)) e ∙ end_dropped says.text) says.is

pub log_one : {log : File} {q : ℕ} {es fs : List Event} → SaysLog log q es → SaysLog log q fs → es ≡ fs
log_one {q = q} {es = es} {fs = fs} says says' =
    let same : says.text ≡ says'.text = ap bytes_of (sym says.is ∙ says'.is) in
    value_one (log_out (width_of q)) (log_whole (width_of q)) es fs says'.text says.writable says'.writable (rw same at says.said) says'.said

-- ---- what is shown

-- the two numbers of a lamp on paper
abbrev number_in : Paper → ℕ
number_in (verdict n left) = n
number_in (refused n place) = 0
number_in (accepted ns) = 0

abbrev left_in : Paper → ℕ
left_in (verdict n left) = left
left_in (refused n place) = 0
left_in (accepted ns) = 0

abbrev lamp_in : Lamp → Answer → Lamp
lamp_in other (Ok l) = l
lamp_in other (Err r) = other

module _ (t : Plant) (f : Formula) where
  -- no two verdicts are right
  pub verdict_one : {h : History} (v w : Verdict) → Right t f h (number_of v) → Right t f h (number_of w) → number_of v ≡ number_of w
  verdict_one Inconclusive w r s = sym (s.inconclusive.1 (r.inconclusive.0 refl))
  verdict_one True w r s = sym (s.sure_true.1 (r.sure_true.0 refl))
  verdict_one False w r s = sym (s.sure_false.1 (r.sure_false.0 refl))
  verdict_one OutOfModel w r s = sym (s.out_of_model.1 (r.out_of_model.0 refl))

  -- the verdict of a lamp that is right
  pub lit_right : {h : History} (l : Lamp) → Lit t f h (Ok l) → Right t f h (number_of l.verdict)
  lit_right {h} l x = subst (Right t f h) (sym (ap number_in x.shown)) x.right

  -- so no two lamps are
  lamp_one : {h : History} (l m : Lamp) → Lit t f h (Ok l) → Lit t f h (Ok m) → l ≡ m
  lamp_one {h} l m a b = ap (lamp_in l) (one_answer (Ok l) (Ok m) (ap₂ verdict numbers lefts))
    where
      numbers : number_of l.verdict ≡ number_of m.verdict
      numbers = verdict_one l.verdict m.verdict (lit_right l a) (lit_right m b)

      lefts : l.left ≡ m.left
      lefts =
          ap left_in a.shown ∙ a.counts.2
          ∙ count_same t.states a.counts.0 b.counts.0 (λ s low. says_same (a.counts.1 s) (b.counts.1 s))
          ∙ sym (ap left_in b.shown ∙ b.counts.2)

  -- there is one first event that is not accepted
  pub stop_one : {es : List Event} (k m : ℕ) → ((n : ℕ) → n < k → TakenAt t es n) → ((n : ℕ) → n < m → TakenAt t es n) → (TakenAt t es k → ⊥) → (TakenAt t es m → ⊥) → k ≡ m
  stop_one k m a b bad bad' =
      ⊎_elim (λ (l : k < m). absurd (bad (b k l)))
      (λ (l : m ≤ k). ⊎_elim (λ (g : m < k). absurd (bad' (a m g))) (λ (g : k ≤ m). omega arith) (below_or_beyond m k))
      (below_or_beyond k m)

  -- so there are no two ends
  end_one : {es : List Event} {k m : ℕ} {x y : List ℕ} → Ends t es k x → Ends t es m y → (k ≡ m) × (x ≡ y)
  end_one (at_end_lem a) (at_end_lem b) = (refl, refl)
  end_one (at_end_lem a) (at_event m low b bad) = absurd (bad (a m low).0)
  end_one (at_end_lem a) (at_number m low b fine bad) = absurd (bad (a m low).1)
  end_one (at_event k low a bad) (at_end_lem b) = absurd (bad (b k low).0)
  end_one {es} (at_event k low a bad) (at_event m low' b bad') =
      let same = stop_one k m a b (λ x. bad x.0) (λ x. bad' x.0) in (same, ap (λ (n : ℕ). door.refused IllegalEvent (door.line_of t es n)) same)
  end_one {es} (at_event k low a bad) (at_number m low' b fine bad') =
      absurd (bad (subst (door.LegalAt t es) (sym (stop_one k m a b (λ x. bad x.0) (λ x. bad' x.1))) fine))
  end_one (at_number k low a fine bad) (at_end_lem b) = absurd (bad (b k low).1)
  end_one {es} (at_number k low a fine bad) (at_event m low' b bad') =
      absurd (bad' (subst (door.LegalAt t es) (stop_one k m a b (λ x. bad x.1) (λ x. bad' x.0)) fine))
  end_one {es} (at_number k low a fine bad) (at_number m low' b fine' bad') =
      let same = stop_one k m a b (λ x. bad x.1) (λ x. bad' x.1) in (same, ap (λ (n : ℕ). door.refused NumberKind (door.line_of t es n)) same)

  pub one_output : {es : List Event} {x y : List ℕ} → Shows t f es x → Shows t f es y → x ≡ y
  one_output {es} a b =
      a.is ∙ ap₂ (λ (l : Lamp) (s : List ℕ). start_text l ++ s) (lamp_one a.start b.start a.start_right b.start_right)
      (ap₂ (λ (ls : List Lamp) (s : List ℕ). lines_text (number_at es) ls ++ s) lamps ends.1) ∙ sym b.is
    where
      ends : (length a.lamps ≡ length b.lamps) × (a.end ≡ b.end)
      ends = end_one a.ends b.ends

      lamps : a.lamps ≡ b.lamps
      lamps = ext_get_or dark a.lamps b.lamps ends.0 (λ n low. lamp_one (get_or a.lamps n dark) (get_or b.lamps n dark) (a.line_right n low) (b.line_right n (rw (← ends.0) low)))
