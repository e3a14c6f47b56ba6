-- What is found going back over the lines is what finite-trace logic says of the events since the last restart.
use mathlib.Core.Logic.Iff
use Prim.Native.Nat.{ℕ, zero, suc, ◌+◌, ◌-◌, ◌^◌, ◌≤◌, ◌<◌}
use native.Mathlib.Omega.{arith}
use Rattle.std.proofs.Common.{lt_of_lt_of_le, le_trans, sym, ◌∙◌, take-suc, leb-true, le-leb}
use Rattle.std.proofs.Math.Decide.{dec_lt}
use Rattle.std.specs.Prelude.{◌≡◌, ◌↔◌, ◌⊎◌, Bool, true, false, cond, eqb, ltb, length, get_or, take}
use Rattle.std.proofs.Math.Path.{refl, ap, subst}
use Rattle.std.proofs.Math.Logic.{inl, inr, ⊎_elim}
use Rattle.std.proofs.Math.Bool.{So}
use Rattle.std.proofs.lemmas.Bool.{false≢true, eqb-false}
use mathlib.Core.List.{List, [], ◌∷◌}
use Rattle.std.proofs.Math.Seq.{take-length}
use Rattle.std.proofs.Math.Nat.{pow-le-pow_right}
use Rattle.meaning.specs.Bit.{bit}
use Rattle.meaning.specs.Says.{Says}
use Rattle.meaning.specs.Formula.{Formula, size}
use Rattle.meaning.specs.Event.{Seen, seen_at, since}
use Rattle.meaning.specs.Event.{nothing as unseen-one}
use Rattle.words.specs.Truth.{and_says}
use Rattle.words.specs.Tests.{lt_says}
use Rattle.words.specs.Laws.{bit_zero}
use Rattle.syntax.specs.declared.Rule.{Rule}
use Rattle.syntax.specs.Print.{Below}
use Rattle.syntax.specs.Value.{rule_of}
use Rattle.event_log.specs.declared.Event.{Event}
use Rattle.event_log.specs.declared.Num.{Num}
use Rattle.event_log.specs.declared.Num.TheVariants.{Expected, Given}
use Rattle.event_log.specs.Legal.{seen_of}
use Rattle.event_log.specs.Log.{nothing}
use Rattle.event_log.specs.Lead.{is_given}
use Rattle.event_log.specs.Promises.{AllWritable}
use Rattle.watching.specs.Filled.{expected_from, seen_from, filled, expected_at, number_at, expected_append}
use Rattle.within.specs.Seen.{Uses}
use Rattle.within.proofs.SeenLaws.{holds_same}
use Rattle.within.specs.Props.{props_of, sees_all, sees_say}
use Rattle.within.specs.Turn.{ahead_from, stack_from}
use Rattle.within.proofs.Right.{within_told}
use Rattle.closing.specs.declared.ClosingVerdict.{ClosingVerdict}
use Rattle.closing.specs.declared.ClosingVerdict.TheVariants.{Inconclusive, PresumablyTrue, PresumablyFalse}
use Rattle.last_stretch.specs.declared.Found.{Found}
use Rattle.last_stretch.specs.Stretch.{joins, begins, further_of, back_from, stretch_of, found_of}
use Rattle.closing.specs.Closing.{closing_number, presumed_by, presumed_of}
use Rattle.closing_right.specs.DayEnd.{stretch, Ready, Met, Presumed}
use Rattle.closing_right.proofs.Lines.{stretch_at, gap, AreLines, begins_low, begins_some, are_lines, no_gap}

-- ---- going back

module _ (rule : Rule) (props : ℕ) (event : ℕ → Event) where
  abbrev label : ℕ → ℕ
  label i = (event i).val

  back_ahead : (d i : ℕ) → (back_from rule props event d i).ahead ≡ ahead_from rule label d i
  unfolding back_from further_of ahead_from
  back_ahead zero i = refl
  back_ahead (suc d) i = rw (back_ahead d (suc i)) refl

  back_stack : (d i : ℕ) → (back_from rule props event d i).stack ≡ stack_from rule label d i
  unfolding back_from further_of stack_from
  back_stack zero i = refl
  back_stack (suc d) i = rw (back_ahead d (suc i)) refl

  -- each of the lines saw all, and none is missing before the next of them
  abbrev Good : ℕ → ℕ → Type 0
  Good n k = So (sees_all props (event k).see) × (suc k < n → So (joins (event k).num (event (suc k)).num))

  last_joins : (e : Num) → joins e Expected ≡ true
  last_joins Expected = refl
  last_joins (Given n) = refl

  -- the number that is found behind line i
  join_says : (d i : ℕ) → Says (joins (event i).num (back_from rule props event d (suc i)).num) (suc i < suc i + d → So (joins (event i).num (event (suc i)).num))
  unfolding back_from further_of
  join_says zero i = (λ _ l. absurd (omega arith), λ _. last_joins (event i).num)
  join_says (suc d) i = (λ s _. s, λ h. h (omega arith))

  back_all : (d i : ℕ) → Says (back_from rule props event d i).all ((k : ℕ) → i ≤ k → k < i + d → Good (i + d) k)
  unfolding back_from further_of
  back_all zero i = (λ _ k low high. absurd (omega arith), λ _. refl)
  back_all (suc d) i =
      let n : suc i + d ≡ i + suc d = omega arith in
      let rest = rw n at (back_all d (suc i)) in
      let joined = rw n at (join_says d i) in (
        λ s.
            let (behind, here) = (and_says _ _).0 s in
            let (sees, joins) = (and_says _ _).0 here in
            λ k low high. pick k low high (rest.0 behind) (sees, joined.0 joins),
        λ h. (and_says _ _).1 (rest.1 (λ k low high. h k (omega arith) high), (and_says _ _).1 ((h i (omega arith) (omega arith)).0, joined.1 (h i (omega arith) (omega arith)).1)),
      )
    where
      pick : (k : ℕ) → i ≤ k → k < i + suc d → ((k : ℕ) → suc i ≤ k → k < i + suc d → Good (i + suc d) k) → Good (i + suc d) i → Good (i + suc d) k
      pick k low high rest here = ⊎_elim (λ (l : i < k). rest k l high) (λ (e : k ≡ i). subst (Good (i + suc d)) (sym e) here) (cases k low)
        where
          cases : (k : ℕ) → i ≤ k → (i < k) ⊎ (k ≡ i)
          cases k low = elim (dec_lt i k) [ yes l ↦ inl l | no l ↦ inr (omega arith) ]

-- ---- numbers

module _ (w : ℕ) (es : List Event) (ok : AllWritable w es) where
  abbrev event : ℕ → Event
  event n = get_or es n nothing

  seen_behind : (n : ℕ) → n < length es → seen_from false (take (suc n) es) ≡ true
  seen_behind n l = go es l
    where
      go : (es : List Event) → n < length es → seen_from false (take (suc n) es) ≡ true
      go [] l = absurd (omega arith)
      go (e ∷ es) l = refl

  expected_behind : (n : ℕ) → n < length es → expected_at es (suc n) ≡ number_at es n + 1
  expected_behind n l = ap (expected_from 0) (take-suc es n nothing l) ∙ expected_append 0 (take n es) (event n ∷ [])

  -- what is missing before a line is told by its number and the one before
  gap_is : (n : ℕ) → suc n < length es → gap es (suc n) ≡ number_at es (suc n) - (number_at es n + 1)
  gap_is n l = rw (seen_behind n (omega arith), expected_behind n (omega arith)) refl

  gap_says : (n : ℕ) → suc n < length es → Says (joins (event n).num (event (suc n)).num) (gap es (suc n) ≡ 0)
  gap_says n l = rw (gap_is n l) (by (event n).num refl (event (suc n)).num refl ((ok n (omega arith)).0 ∙ sym (ok (suc n) l).0))
    where
      by : (a : Num) → (event n).num ≡ a → (b : Num) → (event (suc n)).num ≡ b → is_given (event n).num ≡ is_given (event (suc n)).num
          → Says (joins a b) (number_at es (suc n) - (number_at es n + 1) ≡ 0)
      by Expected e Expected f same = (λ _. rw (f, expected_behind n (omega arith)) (omega arith), λ _. refl)
      by Expected e (Given b) f same = absurd (false≢true (ap is_given (sym e) ∙ same ∙ ap is_given f))
      by (Given a) e Expected f same = absurd (false≢true (sym (ap is_given (sym e) ∙ same ∙ ap is_given f)))
      by (Given a) e (Given b) f same = (
        λ s. rw (e, f) (let le = leb-true b (a + 1) s in omega arith),
        λ z. le-leb b (a + 1) (let y : b - (a + 1) ≡ 0 = rw (e, f) at z in omega arith),
      )

-- ---- what is found

module _ (f : Formula) (small : size f ≤ 32) (below : Below 64 f) (w : ℕ) (narrow : w ≤ 4) (es : List Event) (ok : AllWritable w es) (some_prop : (p : ℕ) × Uses p f) where
  abbrev n : ℕ
  n = length es

  abbrev at : ℕ → Event
  at k = get_or es k nothing

  abbrev m : ℕ
  m = begins at n

  abbrev s : List Seen
  s = stretch (since (filled es))

  s_is : stretch_at es n ≡ s
  s_is = ap (λ (l : List Event). stretch (since (filled l))) (take-length es)

  -- what an event saw is a word
  see_fits : (k : ℕ) → k < n → (at k).see < 2 ^ 64
  see_fits k l = lt_of_lt_of_le (ok k l).2 (le_trans (pow-le-pow_right (omega arith) narrow) (omega arith))

  all_says : Says (stretch_of (rule_of f) at n).all ((k : ℕ) → m ≤ k → k < n → Good (rule_of f) (props_of (rule_of f)) at n k)
  all_says = let e : m + (n - m) ≡ n = omega (arith, begins_low es n) in rw e at (back_all (rule_of f) (props_of (rule_of f)) at (n - m) m)

  -- lines that are good are the events, and have seen all
  lines_ready : 0 < n → AreLines es n → ((k : ℕ) → m ≤ k → k < n → So (sees_all (props_of (rule_of f)) (at k).see)) → Ready f (stretch_at es n)
  lines_ready here lines sees = record {
    some = omega (arith, lines.many, begins_some es n here);
    sees = λ i l p u.
        let k : i < n - m = omega (arith, lines.many) in
        rw (lines.are i k) ((sees_say f below (at (m + i)).see (see_fits (m + i) (omega arith))).0 (sees (m + i) (omega arith) (omega arith)) p u);
  }

  ready_found : So (found_of (rule_of f) at n).ready → AreLines es n × Ready f (stretch_at es n)
  unfolding found_of
  ready_found h =
      let (here, all) = (and_says (ltb 0 n) (stretch_of (rule_of f) at n).all).0 h in
      let good = all_says.0 all in
      let lines = are_lines es n (omega arith) (λ k low high. (gap_says w es ok k high).0 ((good k low (omega arith)).1 high)) in
      (lines, lines_ready ((lt_says 0 n).0 here) lines (λ k low high. (good k low high).0))

  -- an event that saw nothing did not see all
  blind : ((p : ℕ) → Uses p f → So (bit unseen-one.see p)) → ⊥
  blind h = false≢true (sym (bit_zero some_prop.0) ∙ h some_prop.0 some_prop.1)

  found_ready : Ready f (stretch_at es n) → So (found_of (rule_of f) at n).ready
  unfolding found_of
  found_ready ready =
      let tight = no_gap es (λ (x : Seen). (p : ℕ) → Uses p f → So (bit x.see p)) blind n (omega arith) ready.sees in
      let lines = are_lines es n (omega arith) tight in
      let here : 0 < n = omega (arith, ready.some, lines.many) in
      (and_says (ltb 0 n) (stretch_of (rule_of f) at n).all).1 ((lt_says 0 n).1 here, all_says.1 (λ k low high. (saw lines k low high, λ l. (gap_says w es ok k l).1 (tight k low l))))
    where
      saw : AreLines es n → (k : ℕ) → m ≤ k → k < n → So (sees_all (props_of (rule_of f)) (at k).see)
      saw lines k low high =
          let back : m + (k - m) ≡ k = omega arith in
          (sees_say f below (at k).see (see_fits k high)).1 (λ p u.
          subst (λ (x : Seen). So (bit x.see p)) (lines.are (k - m) (omega arith) ∙ ap (λ (j : ℕ). seen_of (at j)) back)
          (ready.sees (k - m) (omega (arith, lines.many)) p u))

  -- the top of the stack tells whether the rule holds within them
  holds_says : 0 < n → AreLines es n → Says (found_of (rule_of f) at n).holds (Met f (stretch_at es n))
  unfolding found_of
  holds_says here lines =
      let low = begins_some es n here in
      let e : m + (n - m) ≡ n = omega arith in
      let z : m + 0 ≡ m = omega arith in
      let same = rw (e, z) at (holds_same m (n - m) (λ k. (at k).val) (λ i. (seen_at (stretch_at es n) i).val) f (λ i l p u. ap (λ (x : Seen). bit x.val p) (lines.are i l)) 0 (omega arith)) in
      rw (lines.many, back_stack (rule_of f) (props_of (rule_of f)) at (n - m) m) (Iff.trans (within_told f small (λ k. (at k).val) n m low) (same.1, same.0))

  -- ---- so it is presumed exactly by the definition

  codes : ClosingVerdict → ClosingVerdict → Bool
  codes x y = eqb (closing_number x) (closing_number y)

  yes_it_is : {x : ClosingVerdict} {X : Type 0} → X → (x ≡ x) ↔ X
  yes_it_is h = (λ _. h, λ _. refl)

  not_it : (x y : ClosingVerdict) → eqb (closing_number x) (closing_number y) ≡ false → {X : Type 0} → (X → ⊥) → (x ≡ y) ↔ X
  not_it x y d k = (λ e. absurd (eqb-false (closing_number x) (closing_number y) d (ap closing_number e)), λ h. absurd (k h))

  picked : (x : Found) → Says x.ready (Ready f s) → (Ready f s → Says x.holds (Met f s)) → Presumed f s (presumed_by x)
  picked x ready holds = by x.ready x.holds ready holds
    where
      by : (a b : Bool) → Says a (Ready f s) → (Ready f s → Says b (Met f s)) → Presumed f s (cond a (cond b PresumablyTrue PresumablyFalse) Inconclusive)
      by false b h k = record {
        presumably_true = not_it Inconclusive PresumablyTrue refl (λ x. false≢true (h.1 x.0));
        presumably_false = not_it Inconclusive PresumablyFalse refl (λ x. false≢true (h.1 x.0));
        stays = yes_it_is (λ r. false≢true (h.1 r));
      }
      by true true h k = record {
        presumably_true = yes_it_is (h.0 refl, (k (h.0 refl)).0 refl);
        presumably_false = not_it PresumablyTrue PresumablyFalse refl (λ x. x.1 ((k (h.0 refl)).0 refl));
        stays = not_it PresumablyTrue Inconclusive refl (λ n. n (h.0 refl));
      }
      by true false h k = record {
        presumably_true = not_it PresumablyFalse PresumablyTrue refl (λ x. false≢true ((k (h.0 refl)).1 x.1));
        presumably_false = yes_it_is (h.0 refl, λ x. false≢true ((k (h.0 refl)).1 x));
        stays = not_it PresumablyFalse Inconclusive refl (λ n. n (h.0 refl));
      }

  pub presumes : Presumed f s (presumed_of (rule_of f) at n)
  unfolding presumed_of
  presumes = picked (found_of (rule_of f) at n)
      (subst (λ (l : List Seen). Says (found_of (rule_of f) at n).ready (Ready f l)) s_is ((λ h. (ready_found h).1), found_ready))
      (λ ready.
      let back = subst (Ready f) (sym s_is) ready in
      let lines = (ready_found (found_ready back)).0 in
      subst (λ (l : List Seen). Says (found_of (rule_of f) at n).holds (Met f l)) s_is (holds_says (omega (arith, back.some, lines.many)) lines))
