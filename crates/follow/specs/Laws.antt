-- OF TWENTY BYTES AT MOST ONE ENDS AN EVENT'S LINE (`one_event`), and A SCRAP THAT IS NOT REFUSED MAKES THE LOG LONGER by as many bytes as it has (`gets_longer`).
use Prim.Native.Nat.{ℕ, zero, suc, ◌+◌, ◌*◌, ◌≤◌, ◌<◌}
use native.Mathlib.Omega.{arith}
use Rattle.std.specs.Prelude.{◌≡◌, Bool, true, false, cond, ltb, leb, Ok, Err}
use Rattle.std.proofs.Math.Path.{refl, ap}
use Rattle.std.proofs.Common.{sym, ◌∙◌, ⊎_elim, length-append}
use Rattle.std.proofs.Math.Bool.{So}
use Rattle.std.proofs.lemmas.Bool.{false≢true}
use mathlib.Core.List.{List, [], ◌∷◌, ◌++◌}
use borrow.Author.Tests.{leb-true, lt-ltb}
use Rattle.std.proofs.Math.ListN.{length, length-take}
use Rattle.answers.specs.declared.Kind.TheVariants.{Room, LogText, LogLength}
use Rattle.answers.specs.declared.Refusal.{Refusal}
use Rattle.answers.specs.Results.{Answer}
use Rattle.answers.specs.Results.{Outcome}
use Rattle.answers.specs.Paper.{number_of, refused_at}
use Rattle.answers.specs.Chain.{is_accepted, unless, chain_accepts, unless_accepts}
use Rattle.pairs.specs.declared.Pairs.{Pairs}
use Rattle.plant.specs.declared.Plant.{Plant}
use Rattle.syntax.specs.declared.Rule.{Rule}
use Rattle.text.specs.Cases.{below_or_beyond}
use Rattle.text.specs.Number.{width_of, width_between}
use Rattle.event_log.specs.declared.Event.{Event}
use Rattle.event_log.specs.Line.{line_bytes}
use Rattle.event_log.specs.Read.{is_numbered, bytes_in, event_at}
use Rattle.sides.specs.declared.Monitor.{Monitor}
use Rattle.monitor.specs.declared.Watched.{Watched}
use Rattle.monitor.specs.Calls.{step_call}
use Rattle.radio.specs.declared.Radio.{Radio}
use Rattle.radio.specs.Radio.{Heard, begins, stopped, kept, answered, ended, lengthened, byte_heard, hear, hear_all}
use Rattle.radio.proofs.PiecesLaws.{hears_no_more}
use Rattle.radio.specs.Kept.{heard_by, radio_of}
use Rattle.scraps.specs.declared.Taken.{Taken}
use Rattle.scraps.specs.Calls.{longest, lines_in, room_outcome, heard_answer, took_by, take_outcome, take_call}
use Rattle.scraps.specs.Laws.{take_parts, fit}
use Rattle.follow.specs.AtOnce.{events_in, goes_on, bytes_heard}

refused_not : {r : Refusal} → ◌≡◌ {A = Outcome} (Err r) (Ok tt) → ⊥
refused_not e = false≢true (ap is_accepted e)

module _ (w : ℕ) (step : Monitor → Event → Watched) where
  -- ---- one line at most

  -- of k bytes, where lines have 20 or more: each verdict but the first had a whole line before it
  abbrev Few : ℕ → Heard → Type 0
  Few k h = 1 ≤ length h.verdicts → 20 * length h.verdicts + length h.ear.part ≤ k + 19

  module _ (wide : 2 ≤ w) where
    line_long : (q : List ℕ) → 20 ≤ bytes_in w q
    line_long q = by_form (is_numbered q)
      where
        by_form : (n : Bool) → 20 ≤ line_bytes n w
        by_form true = omega arith
        by_form false = omega arith

    few_answered : (k : ℕ) (h : Heard) (q : List ℕ) (s : Watched) (a : Answer) → length q ≡ length h.ear.part + 1 → bytes_in w q ≤ length q → Few k h → Few (suc k) (answered h q s a)
    few_answered k h q s (Ok l) long whole few = λ some. by_count (length h.verdicts) refl
      where
        more : length (h.verdicts ++ number_of l.verdict ∷ []) ≡ length h.verdicts + 1
        more = length-append h.verdicts (number_of l.verdict ∷ [])

        by_count : (n : ℕ) → length h.verdicts ≡ n → 20 * length (h.verdicts ++ number_of l.verdict ∷ []) + 0 ≤ suc k + 19
        by_count zero e = omega (arith, more, e)
        by_count (suc n) e = omega (arith, more, e, few (omega (arith, e)), line_long q, whole, long)
    few_answered k h q s (Err r) long whole few = λ some. omega (arith, few some)

    few_byte : (k : ℕ) (h : Heard) (b : ℕ) (o : Outcome) → Few k h → Few (suc k) (byte_heard w step o h b)
    few_byte k h b (Err r) few = λ some. omega (arith, few some)
    few_byte k h b (Ok _) few = by_test (begins w h.ear.form q)
      where
        q : List ℕ
        q = h.ear.part ++ b ∷ []

        long : length q ≡ length h.ear.part + 1
        long = length-append h.ear.part (b ∷ [])

        by_size : (t : Bool) → ltb (length q) (bytes_in w q) ≡ t → Few (suc k) (cond t (kept h q) (ended w step h q))
        by_size true e = λ some. omega (arith, long, few some)
        by_size false e = few_answered k h q (step h.ear.monitor (event_at w q 0)) (step h.ear.monitor (event_at w q 0)).answer long whole few
          where
            whole : bytes_in w q ≤ length q
            whole = ⊎_elim (λ (l : length q < bytes_in w q). absurd (false≢true (sym e ∙ lt-ltb (length q) (bytes_in w q) l))) (λ (l : bytes_in w q ≤ length q). l) (below_or_beyond (length q) (bytes_in w q))

        by_test : (t : Bool) → Few (suc k) (cond t (lengthened w step h q) (stopped h (refused_at LogText (h.ear.start + length h.ear.part))))
        by_test true = by_size (ltb (length q) (bytes_in w q)) refl
        by_test false = λ some. omega (arith, few some)

    few_all : (s : List ℕ) (k : ℕ) (h : Heard) → Few k h → Few (k + length s) (hear_all w step h s)
    unfolding hear
    few_all [] k h few some = omega (arith, few some)
    few_all (b ∷ s) k h few some = omega (arith, few_all s (suc k) (hear w step h b) (few_byte k h b h.ear.standing few) some)

    few_verdicts : (s : List ℕ) (h : Heard) → length h.verdicts ≡ 0 → length s ≤ 20 → length (hear_all w step h s).verdicts ≤ 1
    few_verdicts s h none short = by_count (length (hear_all w step h s).verdicts) refl
      where
        by_count : (n : ℕ) → length (hear_all w step h s).verdicts ≡ n → length (hear_all w step h s).verdicts ≤ 1
        by_count zero e = omega (arith, e)
        by_count (suc n) e = omega (arith, few_all s 0 h (λ some. absurd (omega (arith, some, none))) (omega (arith, e)))

  -- ---- every byte counts

  abbrev total : Heard → ℕ
  total h = h.ear.start + length h.ear.part

  one_answered : (h : Heard) (q : List ℕ) (s : Watched) (a : Answer) → length q ≡ length h.ear.part + 1 → (answered h q s a).ear.standing ≡ Ok tt → total (answered h q s a) ≡ total h + 1
  one_answered h q s (Ok l) long goes = omega (arith, long)
  one_answered h q s (Err r) long goes = absurd (refused_not goes)

  one_byte : (h : Heard) (b : ℕ) (o : Outcome) → h.ear.standing ≡ o → (byte_heard w step o h b).ear.standing ≡ Ok tt → total (byte_heard w step o h b) ≡ total h + 1
  one_byte h b (Err r) e goes = absurd (refused_not (sym e ∙ goes))
  one_byte h b (Ok _) e goes = by_test (begins w h.ear.form q) goes
    where
      q : List ℕ
      q = h.ear.part ++ b ∷ []

      long : length q ≡ length h.ear.part + 1
      long = length-append h.ear.part (b ∷ [])

      by_size : (t : Bool) → (cond t (kept h q) (ended w step h q)).ear.standing ≡ Ok tt → total (cond t (kept h q) (ended w step h q)) ≡ total h + 1
      by_size true goes = omega (arith, long)
      by_size false goes = one_answered h q (step h.ear.monitor (event_at w q 0)) (step h.ear.monitor (event_at w q 0)).answer long goes

      by_test : (t : Bool) → (cond t (lengthened w step h q) (stopped h (refused_at LogText (h.ear.start + length h.ear.part)))).ear.standing ≡ Ok tt
          → total (cond t (lengthened w step h q) (stopped h (refused_at LogText (h.ear.start + length h.ear.part)))) ≡ total h + 1
      by_test true goes = by_size (ltb (length q) (bytes_in w q)) goes
      by_test false goes = absurd (refused_not goes)

  every_byte : (s : List ℕ) (h : Heard) → (hear_all w step h s).ear.standing ≡ Ok tt → total (hear_all w step h s) ≡ total h + length s
  unfolding hear
  every_byte [] h goes = omega arith
  every_byte (b ∷ s) h goes = by_standing (hear w step h b).ear.standing refl (every_byte s (hear w step h b) goes)
    where
      by_standing : (o : Outcome) → (hear w step h b).ear.standing ≡ o → total (hear_all w step (hear w step h b) s) ≡ total (hear w step h b) + length s
          → total (hear_all w step (hear w step h b) s) ≡ total h + suc (length s)
      by_standing (Ok _) e rest = omega (arith, rest, one_byte h b h.ear.standing refl e)
      by_standing (Err r) e rest = absurd (refused_not (sym e ∙ ap (λ (g : Heard). g.ear.standing) (sym (hears_no_more w step (hear w step h b) e s)) ∙ goes))

-- ---- of the call

module _ (p : Plant) (fair label next : List ℕ) (rule : Rule) (live : Pairs) (r : Radio) (scrap : List ℕ) (room : ℕ) where
  abbrev behind : Heard
  behind = hear_all (width_of p.props) (step_call p fair label next rule live) (heard_by r []) scrap

  counted : (o : Outcome) (n : ℕ) → events_in (heard_answer o n) ≡ n
  counted (Ok _) n = refl
  counted (Err x) n = refl

  few_events : length scrap ≤ 20 → (o : Outcome) → events_in (took_by o r behind).taken.answer ≤ 1
  few_events short (Ok _) =
      omega (arith, counted behind.ear.standing (length behind.verdicts), few_verdicts (width_of p.props) (step_call p fair label next rule live) (width_between p.props).0 scrap (heard_by r []) refl short)
  few_events short (Err x) = omega arith

  goes_accepted : (o : Outcome) (n : ℕ) → So (goes_on (heard_answer o n)) → o ≡ Ok tt
  goes_accepted (Ok _) n goes = refl
  goes_accepted (Err x) n goes = absurd (false≢true goes)

  longer_by : length r.part ≡ 40 → (o : Outcome) → take_outcome p fair label next rule live r scrap room ≡ o → So (goes_on (took_by o r behind).taken.answer)
      → (bytes_heard (took_by o r behind).taken.radio ≡ bytes_heard r + length scrap) × (bytes_heard r + length scrap ≤ longest)
  unfolding radio_of room_outcome
  longer_by full (Err x) e goes = absurd (false≢true goes)
  longer_by full (Ok _) e goes =
      let (keeps, fits) = take_parts p fair label next rule live r scrap room e in
      let ready = fit p fair label next rule live r keeps full scrap room fits in
      let (a, b) = (chain_accepts (unless (leb (lines_in scrap) room) Room) (unless (leb (r.start + r.len + length scrap) longest) LogLength)).0 fits in
      let all = every_byte (width_of p.props) (step_call p fair label next rule live) scrap (heard_by r []) (goes_accepted behind.ear.standing (length behind.verdicts) goes) in
      (omega (arith, all, length-take r.len r.part, ready.room, full), leb-true (r.start + r.len + length scrap) longest ((unless_accepts _ LogLength).0 b))

  module _ {t : Taken} (is : t ≡ (take_call p fair label next rule live r scrap room).taken) where
    pub one_event : length scrap ≤ 20 → events_in t.answer ≤ 1
    unfolding take_call
    one_event short = rw is (few_events short (take_outcome p fair label next rule live r scrap room))

    pub gets_longer : length r.part ≡ 40 → So (goes_on t.answer) → (bytes_heard t.radio ≡ bytes_heard r + length scrap) × (bytes_heard r + length scrap ≤ longest)
    unfolding take_call
    gets_longer full = rw is (longer_by full (take_outcome p fair label next rule live r scrap room) refl)
