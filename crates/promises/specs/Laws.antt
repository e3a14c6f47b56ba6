-- What users of monitors ask: equivalent rules show the same lamp, `left` does not depend on the rule, the negated rule has the two sets exchanged, and an
-- event of which nothing was seen decides nothing.
use mathlib.Core.Logic.Iff
use Rattle.std.specs.Prelude.{ℕ, ◌<◌, ◌≡◌, ◌↔◌, Bool, length}
use Rattle.std.proofs.Common.{sym, ap, subst, ◌∙◌, arith, length-append}
use Rattle.std.proofs.Math.Path.{ap₂}
use Rattle.std.proofs.Math.Bool.{true, false, not}
use Rattle.std.proofs.lemmas.Bool.{false≢true}
use mathlib.Core.List.{List, [], ◌∷◌, ◌++◌, foldl-append}
use Rattle.std.proofs.Math.Decide.{dec_lt}
use Rattle.std.proofs.Math.ListN.{get_or-append}
use Rattle.std.proofs.Math.Seq.{get_or-append_seam}
use Rattle.meaning.specs.Says.{Kept}
use Rattle.meaning.specs.Formula.{Formula, neg, Word, Holds, temporal, parts}
use Rattle.meaning.specs.Run.{Plant, Run, Lasso, state_at, label_of, labels_along}
use Rattle.meaning.specs.Event.{Seen, Agrees, nothing, seen_at, AgreesWith, Event, History, none, more, grow, since, now}
use Rattle.meaning.specs.Pair.{PairAt}
use Rattle.meaning.specs.Verdict.{At, Possible, verdict_of}
use Rattle.meaning.specs.Limits.{AcceptedTable, Small}
use Rattle.words.specs.Truth.{says_same, kept_iff}
use Rattle.words.specs.Laws.{bit_zero}
use Rattle.pairs.specs.Sets.{inside, empty_of, occurs_in}
use Rattle.theory.specs.Verdict.{judged}
use Rattle.model.specs.Monitor.{side, verdict, left}
use Rattle.model.specs.Log.{watched}
use Rattle.model.proofs.Log.{log_means, log_sets, log_left}
use Rattle.model.proofs.Shown.{occupied_says, occurs_says}
use Rattle.event_numbers.specs.Numbers.{unseen}

-- two rules say the same of every word
abbrev pub Equivalent : Formula → Formula → Type 0
Equivalent f g = (w : Word) (i : ℕ) → Holds w f i ↔ Holds w g i

same_possible : (T : Plant) (f g : Formula) (h : History) → Equivalent f g → (b : Bool) → Possible T f h b → Possible T g h b
same_possible T f g h e b (L, c) = (L, record { run = c.run; agrees = c.agrees; judged = kept_iff b (e (labels_along T L) h.mark) c.judged })

module _ (T : Plant) (A : AcceptedTable T) (f g : Formula) (sf : Small f) (sg : Small g) (es : List Event) where
  -- the same lamp
  pub same_verdict : Equivalent f g → verdict (watched T f es) ≡ verdict (watched T g es)
  unfolding verdict
  same_verdict e = ap₂ verdict_of (occupied true) (occupied false)
    where
      occupied : (b : Bool) → not (empty_of (side (watched T f es) b)) ≡ not (empty_of (side (watched T g es) b))
      occupied b = says_same
          (Iff.trans (occupied_says T f A sf (watched T f es) (since es) (log_means T f A sf es) b)
          (same_possible T f g (since es) e b, same_possible T g f (since es) (λ w i. Iff.symm (e w i)) b))
          (occupied_says T g A sg (watched T g es) (since es) (log_means T g A sg es) b)

  -- whatever the two rules are, as many states are left
  pub same_left : left (watched T f es) ≡ left (watched T g es)
  same_left =
      let test = occurs_in (watched T f es).keeps (watched T f es).breaks in
      let says = occurs_says T f A sf (watched T f es) (since es) (log_means T f A sf es) in
      log_left T f A sf es test says ∙ sym (log_left T g A sg es test says)

-- what the negated rule breaks, the rule keeps
module _ (T : Plant) (f : Formula) (h : History) (L : Lasso) (run : Run T L) where
  neg_kept : (b : Bool) → Kept b (Holds (labels_along T L) (neg f) h.mark) ↔ Kept (not b) (Holds (labels_along T L) f h.mark)
  unfolding Holds
  neg_kept true = (λ k. k, λ k. k)
  neg_kept false = (λ k. sure (judged T f h L run) k, λ k n. n k)
    where
      sure : {A : Type 0} → Dec A → ((A → ⊥) → ⊥) → A
      sure (yes x) k = x
      sure (no n) k = absurd (k n)

  neg_pair : (i s v : ℕ) → PairAt T (neg f) L i s v ↔ PairAt T f L i s v
  unfolding temporal parts
  neg_pair i s v = (λ p. record { state = p.state; gives = p.gives; small = p.small }, λ p. record { state = p.state; gives = p.gives; small = p.small })

neg_at : (T : Plant) (f : Formula) (h : History) (b : Bool) (s v : ℕ) → At T (neg f) b h s v ↔ At T f (not b) h s v
neg_at T f h b s v = (
  λ a. let c = a.chosen in
      record { lasso = a.lasso; chosen = record { run = c.run; agrees = c.agrees; judged = (neg_kept T f h a.lasso c.run b).0 c.judged }; pair = (neg_pair T f h a.lasso c.run (now h) s v).0 a.pair },
  λ a. let c = a.chosen in
      record { lasso = a.lasso; chosen = record { run = c.run; agrees = c.agrees; judged = (neg_kept T f h a.lasso c.run b).1 c.judged }; pair = (neg_pair T f h a.lasso c.run (now h) s v).1 a.pair },
)

-- so its two sets are the rule's, exchanged
pub sets_exchanged : (T : Plant) (A : AcceptedTable T) (f : Formula) → Small f → Small (neg f) → (es : List Event) (b : Bool) (s v : ℕ)
    → inside (side (watched T (neg f) es) b) s v ≡ inside (side (watched T f es) (not b)) s v
sets_exchanged T A f small small' es b s v =
    says_same (Iff.trans (log_sets T (neg f) A small' es b s v) (neg_at T f (since es) b s v)) (log_sets T f A small es (not b) s v)

-- ---- an event of which nothing was seen

-- it agrees with every label
nothing_agrees : (l : ℕ) → Agrees nothing l
nothing_agrees l p seen = absurd (false≢true (sym (bit_zero p) ∙ seen))

-- so a run agrees with one more of them exactly if it agrees with those before
unseen_agrees : (T : Plant) (L : Lasso) (es : List Seen) → AgreesWith T L (es ++ nothing ∷ []) ↔ AgreesWith T L es
unseen_agrees T L es = (
  λ all i l. subst (λ (e : Seen). Agrees e (label_of T (state_at L i))) (get_or-append es (nothing ∷ []) nothing i l) (all i (omega (arith, length-append es (nothing ∷ [])))),
  λ all i l. elim (dec_lt i (length es)) [
    | yes low ↦ subst (λ (e : Seen). Agrees e (label_of T (state_at L i))) (sym (get_or-append es (nothing ∷ []) nothing i low)) (all i low)
    | no d ↦ subst (λ (e : Seen). Agrees e (label_of T (state_at L i))) (sym (last i l d)) (nothing_agrees (label_of T (state_at L i)))
  ],
)
  where
    last : (i : ℕ) → i < length (es ++ nothing ∷ []) → (i < length es → ⊥) → seen_at (es ++ nothing ∷ []) i ≡ nothing
    last i l d = ap (seen_at (es ++ nothing ∷ [])) (omega (arith, length-append es (nothing ∷ []))) ∙ get_or-append_seam es nothing [] nothing

unseen_possible : (T : Plant) (f : Formula) (h : History) (b : Bool) → Possible T f (more h nothing) b ↔ Possible T f h b
unseen_possible T f h b = (
  λ (L, c). (L, record { run = c.run; agrees = (unseen_agrees T L h.events).0 c.agrees; judged = c.judged }),
  λ (L, c). (L, record { run = c.run; agrees = (unseen_agrees T L h.events).1 c.agrees; judged = c.judged }),
)

-- what a log tells with it behind
unseen_told : (es : List Event) → since (es ++ unseen ∷ []) ≡ more (since es) nothing
unfolding since grow
unseen_told es = foldl-append grow none es (unseen ∷ [])

-- AN EVENT OF WHICH NOTHING WAS SEEN DECIDES NOTHING: the verdict behind it is the one before it
pub unseen_stays : (T : Plant) (A : AcceptedTable T) (f : Formula) → Small f → (es : List Event) → verdict (watched T f (es ++ unseen ∷ [])) ≡ verdict (watched T f es)
unfolding verdict
unseen_stays T A f small es = ap₂ verdict_of (occupied true) (occupied false)
  where
    occupied : (b : Bool) → not (empty_of (side (watched T f (es ++ unseen ∷ [])) b)) ≡ not (empty_of (side (watched T f es) b))
    occupied b = says_same
        (Iff.trans (occupied_says T f A small (watched T f (es ++ unseen ∷ [])) (since (es ++ unseen ∷ [])) (log_means T f A small (es ++ unseen ∷ [])) b)
        (subst (λ (h : History). Possible T f h b ↔ Possible T f (since es) b) (sym (unseen_told es)) (unseen_possible T f (since es) b)))
        (occupied_says T f A small (watched T f es) (since es) (log_means T f A small es) b)
