-- The events since the last restart are the log's lines from there on, unless some were lost between them; and then one of them saw nothing.
use Prim.Native.Nat.{ℕ, zero, suc, ◌+◌, ◌-◌, ◌≤◌, ◌<◌}
use native.Mathlib.Omega.{arith}
use Rattle.std.specs.Prelude.{◌≡◌, Bool, length, get_or, take, drop}
use Rattle.std.proofs.Math.Path.{refl, ap, subst}
use Rattle.std.proofs.Common.{sym, ◌∙◌, take-suc}
use Rattle.std.proofs.Math.Bool.{true, false, cond}
use mathlib.Core.List.{List, [], ◌∷◌, ◌++◌, foldl, foldl-append, append_assoc, append-nil}
use Rattle.std.proofs.Math.Logic.{⊎_elim}
use Rattle.std.proofs.Math.ListN.{replicate, length-append, get_or-append}
use Rattle.std.proofs.Math.Seq.{drop-append-le, drop-append_seam, get_or-append_seam}
use Rattle.std.proofs.lemmas.List.{get_or_at}
use Rattle.meaning.specs.Event as meaning
use Rattle.meaning.specs.Event.{Seen, History, seen_at, grow, since, none}
use Rattle.meaning.specs.Event.{nothing as unseen-one}
use Rattle.words.specs.Tests.{below_cases}
use Rattle.event_log.specs.declared.Event.{Event}
use Rattle.event_log.specs.Legal.{seen_of, event_of}
use Rattle.event_log.specs.Log.{nothing}
use Rattle.event_numbers.specs.Numbers.{missing_of, unseen, brings}
use Rattle.watching.specs.Filled.{seen_from, filled, expected_at, number_at}
use Rattle.watching.proofs.Filled.{filled_more}
use Rattle.last_stretch.specs.Stretch.{begins}
use Rattle.closing_right.specs.DayEnd.{stretch}

-- ---- what one line more makes of the events since the last restart

-- events that were lost are put behind the others, and restart nothing
lost : (h : History) (g : ℕ) → foldl grow h (replicate g unseen) ≡ record { events = h.events ++ replicate g unseen-one; mark = h.mark }
unfolding grow
lost h zero = ap (λ (l : List Seen). record { events = l; mark = h.mark }) (sym (append-nil h.events))
lost h (suc g) = lost (grow h unseen) g ∙ ap (λ (l : List Seen). record { events = l; mark = h.mark }) (append_assoc h.events (unseen-one ∷ []) (replicate g unseen-one))

module _ (es : List Event) where
  abbrev event : ℕ → Event
  event n = get_or es n nothing

  -- what is told by the first n lines
  abbrev told : ℕ → History
  told n = since (filled (take n es))

  -- the events since the last restart among them
  abbrev pub stretch_at : ℕ → List Seen
  stretch_at n = stretch (told n)

  -- how many numbers are missing before line n
  abbrev pub gap : ℕ → ℕ
  gap n = missing_of (seen_from false (take n es)) (expected_at es n) (number_at es n)

  one_more : (n : ℕ) → n < length es → told (suc n) ≡ grow (record { events = (told n).events ++ replicate (gap n) unseen-one; mark = (told n).mark }) (event_of (event n))
  unfolding since
  one_more n l =
      ap (λ (x : List Event). since (filled x)) (take-suc es n nothing l)
      ∙ ap since (filled_more (take n es) (event n))
      ∙ foldl-append grow none (filled (take n es)) (brings (seen_from false (take n es)) (expected_at es n) (event n))
      ∙ foldl-append grow (told n) (replicate (gap n) unseen) (event_of (event n) ∷ [])
      ∙ ap (λ (h : History). grow h (event_of (event n))) (lost (told n) (gap n))

  -- the mark is not behind the last event
  inside : (n : ℕ) → n ≤ length es → (told n).mark ≤ length (told n).events
  unfolding since grow
  inside zero l = omega arith
  inside (suc n) l = rw (one_more n l) (by (inside n (omega arith)) (event n).new)
    where
      h : History
      h = record { events = (told n).events ++ replicate (gap n) unseen-one; mark = (told n).mark }

      by : (told n).mark ≤ length (told n).events → (b : Bool) → (cond b (meaning.again h (seen_of (event n))) (meaning.more h (seen_of (event n)))).mark ≤ length (cond b (meaning.again h (seen_of (event n))) (meaning.more h (seen_of (event n)))).events
      by was true = omega (arith, length-append h.events (seen_of (event n) ∷ []))
      by was false = omega (arith, was, length-append (told n).events (replicate (gap n) unseen-one), length-append h.events (seen_of (event n) ∷ []))

  -- a restart begins anew with its own event
  restarts : (n : ℕ) → n < length es → (event n).new ≡ true → stretch_at (suc n) ≡ seen_of (event n) ∷ []
  unfolding grow
  restarts n l new = rw (one_more n l, new) (drop-append_seam ((told n).events ++ replicate (gap n) unseen-one) (seen_of (event n) ∷ []))

  -- any other line goes behind those that were lost before it
  goes_on : (n : ℕ) → n < length es → (event n).new ≡ false → stretch_at (suc n) ≡ stretch_at n ++ (replicate (gap n) unseen-one ++ seen_of (event n) ∷ [])
  unfolding grow
  goes_on n l old =
      rw (one_more n l, old)
      (ap (drop (told n).mark) (append_assoc (told n).events (replicate (gap n) unseen-one) (seen_of (event n) ∷ []))
      ∙ drop-append-le (told n).mark (told n).events (replicate (gap n) unseen-one ++ seen_of (event n) ∷ []) (inside n (omega arith)))

  -- ---- where the stretch begins

  abbrev m : ℕ → ℕ
  m = begins event

  pub begins_low : (n : ℕ) → m n ≤ n
  unfolding begins
  begins_low zero = omega arith
  begins_low (suc n) = by (begins_low n) (event n).new
    where
      by : m n ≤ n → (b : Bool) → cond b n (m n) ≤ suc n
      by low true = omega arith
      by low false = omega arith

  pub begins_some : (n : ℕ) → 0 < n → m n < n
  unfolding begins
  begins_some zero l = absurd (omega arith)
  begins_some (suc n) l = by (event n).new
    where
      by : (b : Bool) → cond b n (m n) < suc n
      by true = omega arith
      by false = omega (arith, begins_low n)

  -- ---- the lines are the events, where none is lost

  -- no number is missing between two of the lines since the last restart
  abbrev pub NoGap : ℕ → Type 0
  NoGap n = (k : ℕ) → m n ≤ k → suc k < n → gap (suc k) ≡ 0

  -- the events since the last restart are the lines
  pub record LinesFrom (from n : ℕ) (s : List Seen) : Type 0 where
    pub many : length s ≡ n - from
    pub are : (k : ℕ) → k < n - from → seen_at s k ≡ seen_of (event (from + k))

  abbrev pub AreLines : ℕ → Type 0
  AreLines n = LinesFrom (m n) n (stretch_at n)

  -- behind the last restart
  module _ (n : ℕ) (l : n < length es) where
    anew : (event n).new ≡ true → AreLines (suc n)
    unfolding begins
    anew new =
        rw (restarts n l new, new)
        (record { many = omega arith; are = λ k low. let z : k ≡ 0 = omega arith in let e : n + 0 ≡ n = omega arith in rw (z, e) refl })

    -- one line more
    line_more : (event n).new ≡ false → gap n ≡ 0 → AreLines n → AreLines (suc n)
    unfolding begins
    line_more old tight was =
        rw (goes_on n l old, old, tight)
        (record {
          many = omega (arith, length-append (stretch_at n) (seen_of (event n) ∷ []), was.many, begins_low n);
          are = λ k low. ⊎_elim (before k) (last k) (below_cases (rest k low));
        })
      where
        rest : (k : ℕ) → k < suc n - m n → k < suc (n - m n)
        rest k low = omega (arith, begins_low n)

        before : (k : ℕ) → k < n - m n → seen_at (stretch_at n ++ seen_of (event n) ∷ []) k ≡ seen_of (event (m n + k))
        before k low = get_or-append (stretch_at n) (seen_of (event n) ∷ []) unseen-one k (omega (arith, was.many)) ∙ was.are k low

        last : (k : ℕ) → k ≡ n - m n → seen_at (stretch_at n ++ seen_of (event n) ∷ []) k ≡ seen_of (event (m n + k))
        last k e =
            let here : m n + k ≡ n = omega (arith, begins_low n) in
            get_or_at (stretch_at n) (seen_of (event n)) [] unseen-one k (was.many ∙ sym e) ∙ ap (λ (j : ℕ). seen_of (event j)) (sym here)

  -- before line n none is missing: at the first line none ever is
  first_none : (n : ℕ) → n ≤ length es → (0 < n → gap n ≡ 0) → gap n ≡ 0
  first_none zero l h = refl
  first_none (suc n) l h = h (omega arith)

  pub are_lines : (n : ℕ) → n ≤ length es → NoGap n → AreLines n
  unfolding begins since
  are_lines zero l tight = record { many = refl; are = λ k low. absurd (omega arith) }
  are_lines (suc n) l tight = by (are_lines n (omega arith)) (event n).new refl
    where
      by : (NoGap n → AreLines n) → (b : Bool) → (event n).new ≡ b → AreLines (suc n)
      by rest true new = anew n l new
      by rest false old =
          let same : m (suc n) ≡ m n = rw old refl in
          line_more n l old
          (first_none n (omega arith) (λ some. let (j, e) = before n some in subst (λ (x : ℕ). gap x ≡ 0) e (tight j (omega (arith, same, e, begins_some n some)) (omega (arith, e)))))
          (rest (λ k low high. tight k (omega (arith, same)) (omega arith)))
        where
          before : (n : ℕ) → 0 < n → (j : ℕ) × (suc j ≡ n)
          before zero some = absurd (omega arith)
          before (suc j) some = (j, refl)

  -- ---- and where one is lost, one saw nothing

  -- each event since the last restart has something to say of p
  module _ (See : Seen → Type 0) (blind : See unseen-one → ⊥) where
    abbrev AllSee : ℕ → Type 0
    AllSee n = (k : ℕ) → k < length (stretch_at n) → See (seen_at (stretch_at n) k)

    -- those before a line
    see_before : (n : ℕ) → n < length es → (event n).new ≡ false → AllSee (suc n) → AllSee n
    see_before n l old all k low =
        let more = replicate (gap n) unseen-one ++ seen_of (event n) ∷ [] in
        subst See (ap (λ (s : List Seen). seen_at s k) (goes_on n l old) ∙ get_or-append (stretch_at n) more unseen-one k low)
        (all k (omega (arith, ap (λ (s : List Seen). length s) (goes_on n l old), length-append (stretch_at n) more)))

    none_lost : (n : ℕ) → n < length es → (event n).new ≡ false → AllSee (suc n) → gap n ≡ 0
    none_lost n l old all = by (gap n) refl
      where
        by : (g : ℕ) → gap n ≡ g → g ≡ 0
        by zero e = refl
        by (suc g) e =
            let more = unseen-one ∷ (replicate g unseen-one ++ seen_of (event n) ∷ []) in
            let is : stretch_at (suc n) ≡ stretch_at n ++ more = goes_on n l old ∙ rw e refl in
            let at = length (stretch_at n) in
            absurd (blind (subst See (ap (λ (s : List Seen). seen_at s at) is ∙ get_or-append_seam (stretch_at n) unseen-one (replicate g unseen-one ++ seen_of (event n) ∷ []) unseen-one)
            (all at (omega (arith, ap (λ (s : List Seen). length s) is, length-append (stretch_at n) more)))))

    pub no_gap : (n : ℕ) → n ≤ length es → AllSee n → NoGap n
    unfolding begins
    no_gap zero l all = λ k low high. absurd (omega arith)
    no_gap (suc n) l all = by (no_gap n (omega arith)) (event n).new refl
      where
        by : (AllSee n → NoGap n) → (b : Bool) → (event n).new ≡ b → NoGap (suc n)
        by rest true new k low high = absurd (let same : m (suc n) ≡ n = rw new refl in omega (arith, same))
        by rest false old k low high =
            let same : m (suc n) ≡ m n = rw old refl in
            ⊎_elim
            (λ (b : suc k < n). rest (see_before n l old all) k (omega (arith, same)) b)
            (λ (e : suc k ≡ n). rw e (none_lost n l old all))
            (below_cases high)
