-- What users of numbers ask: numbers without a gap change no lamp, and a gap of k is the same as k lines that see nothing.
use Rattle.std.specs.Prelude.{ℕ, zero, suc, ◌+◌, ◌-◌, ◌^◌, ◌<◌, ◌≡◌, refl, Bool, true, false, List, [], ◌∷◌, ◌++◌, map, replicate}
use Rattle.std.proofs.Common.{arith, sym, ap, ap₂, subst, ◌∙◌, append-nil, pow_pos}
use Rattle.std.proofs.lemmas.Bool.{false≢true}
use Rattle.meaning.specs.Event as meaning
use Rattle.words.specs.Laws.{bit_zero}
use Rattle.model.specs.LiveSet.{live_set}
use Rattle.model.specs.Monitor as model
use Rattle.plant.specs.declared.Plant.{Plant}
use Rattle.syntax.specs.declared.Rule.{Rule}
use Rattle.event_log.specs.declared.Event.{Event}
use Rattle.event_log.specs.declared.Num.TheVariants.{Expected, Given}
use Rattle.event_log.specs.Log.{nothing}
use Rattle.checks.specs.Input.{Input}
use Rattle.event_log.specs.Legal.{event_of}
use Rattle.event_numbers.specs.Numbers.{number_of, unseen}
use Rattle.monitor.specs.declared.Watched.{Watched}
use Rattle.watching.specs.Filled.{seen_from, expected_from, filled_from, filled, filled_append, expected_append}
use Rattle.watching.specs.Watching as watching
use Rattle.watching.specs.Watching.{Taken, TakenFrom, AllTaken, after, shows}
use Rattle.watching.proofs.Watching.{after_model}

-- ---- no gap

-- the same event with no number
abbrev pub plain : Event → Event
plain e = record { num = Expected; see = e.see; val = e.val; new = e.new }

-- behind the first event, each has the number expected
abbrev pub NoGap : ℕ → List Event → Type 0
NoGap expected [] = Unit {0}
NoGap expected (e ∷ es) = (number_of e.num expected ≡ expected) × NoGap (expected + 1) es

abbrev pub InARow : List Event → Type 0
InARow [] = Unit {0}
InARow (e ∷ es) = NoGap (number_of e.num 0 + 1) es

-- then nothing is put in
row_filled : (n : ℕ) (es : List Event) → NoGap n es → filled_from true n es ≡ map event_of es
row_filled n [] row = refl
row_filled n (e ∷ es) (r, rs) =
    ap₂ (λ (k : ℕ) (l : List meaning.Event). (replicate k unseen ++ event_of e ∷ []) ++ l) (gap_none (number_of e.num n) r)
    (ap (λ (k : ℕ). filled_from true (k + 1) es) r ∙ row_filled (n + 1) es rs)
  where
    gap_none : (k : ℕ) → k ≡ n → k - n ≡ 0
    gap_none k e = omega (arith, e)

pub in_a_row : (es : List Event) → InARow es → filled es ≡ map event_of es
in_a_row [] row = refl
in_a_row (e ∷ es) row = ap (λ (l : List meaning.Event). event_of e ∷ l) (row_filled (number_of e.num 0 + 1) es row)

-- events without numbers are in a row
plain_gap : (n : ℕ) (es : List Event) → NoGap n (map plain es)
plain_gap n [] = tt
plain_gap n (e ∷ es) = (refl, plain_gap (n + 1) es)

plain_row : (es : List Event) → InARow (map plain es)
plain_row [] = tt
plain_row (e ∷ es) = plain_gap 1 es

-- and see the same
plain_same : (es : List Event) → map event_of (map plain es) ≡ map event_of es
plain_same [] = refl
plain_same (e ∷ es) = ap (λ (l : List meaning.Event). event_of e ∷ l) (plain_same es)

-- ---- a gap

-- lines that see nothing take the numbers one by one
blank_filled : (k n : ℕ) (es : List Event) → filled_from true n (replicate k nothing ++ es) ≡ replicate k unseen ++ filled_from true (n + k) es
blank_filled zero n es = ap (λ (j : ℕ). filled_from true j es) (omega arith)
blank_filled (suc k) n es =
    ap₂ (λ (j : ℕ) (l : List meaning.Event). (replicate j unseen ++ unseen ∷ []) ++ l) (gap_none n)
    (blank_filled k (n + 1) es ∙ ap (λ (j : ℕ). replicate k unseen ++ filled_from true j es) (omega arith))
  where
    gap_none : (n : ℕ) → n - n ≡ 0
    gap_none n = omega arith

blank_expected : (k n : ℕ) (es : List Event) → expected_from n (replicate k nothing ++ es) ≡ expected_from (n + k) es
blank_expected zero n es = ap (λ (j : ℕ). expected_from j es) (omega arith)
blank_expected (suc k) n es = blank_expected k (n + 1) es ∙ ap (λ (j : ℕ). expected_from j es) (omega arith)

-- that an event came stays so
came : (es : List Event) → seen_from true es ≡ true
came [] = refl
came (e ∷ es) = refl

module _ (p : Plant) (fair label next : List ℕ) (rule : Rule) where
  abbrev AllFrom : Bool → ℕ → List Event → Type 0
  AllFrom = TakenFrom p fair label next rule

  -- events are accepted exactly if the first ones are, and the others behind them
  split : (s : Bool) (x : ℕ) (es fs : List Event) → AllFrom s x (es ++ fs) → AllFrom s x es × AllFrom (seen_from s es) (expected_from x es) fs
  split s x [] fs all = (tt, all)
  split s x (e ∷ es) fs (t, ts) =
      let (a, b) = split true (number_of e.num x + 1) es fs ts in ((t, a), subst (λ (c : Bool). AllFrom c (expected_from (number_of e.num x + 1) es) fs) (came es) b)

  join : (s : Bool) (x : ℕ) (es fs : List Event) → AllFrom s x es → AllFrom (seen_from s es) (expected_from x es) fs → AllFrom s x (es ++ fs)
  join s x [] fs all rest = rest
  join s x (e ∷ es) fs (t, ts) rest = (t, join true (number_of e.num x + 1) es fs ts (subst (λ (c : Bool). AllFrom c (expected_from (number_of e.num x + 1) es) fs) (sym (came es)) rest))

  -- as long as numbers are left, lines that see nothing are
  blank_taken : (x : ℕ) → x < 2 ^ 32 → Taken p fair label next rule true x nothing
  blank_taken x low = (
    record { sees = pow_pos p.props; gives = λ q i. absurd (false≢true (sym (bit_zero q) ∙ i)) },
    record { some_left = low; number = low; behind = λ s. (omega arith, omega arith) },
  )

  blanks_taken : (k x : ℕ) (fs : List Event) → x + k < 2 ^ 32 → AllFrom true (x + k) fs → AllFrom true x (replicate k nothing ++ fs)
  blanks_taken zero x fs low all = subst (λ (j : ℕ). AllFrom true j fs) (omega arith) all
  blanks_taken (suc k) x fs low all = (blank_taken x (omega (arith, low)), blanks_taken k (x + 1) fs (omega (arith, low)) (subst (λ (j : ℕ). AllFrom true j fs) (omega arith) all))

module _ (p : Plant) (fair label next : List ℕ) (rule : Rule) (given : Input p fair label next rule) where
  abbrev watched : List Event → Watched
  watched = after p fair label next rule

  abbrev run_of_lem : List meaning.Event → model.Monitor
  run_of_lem es = model.run_of (watching.T p fair label next rule) (watching.f p fair label next rule) (live_set (watching.T p fair label next rule) (watching.f p fair label next rule)) es

  -- NUMBERS IN A ROW change nothing: accepted events show what the same events show without numbers
  pub row_shows : (es : List Event) → InARow es → AllTaken p fair label next rule es → AllTaken p fair label next rule (map plain es) → (watched es).answer ≡ (watched (map plain es)).answer
  row_shows es row taken taken' =
      ap (λ (w : Watched). w.answer) (after_model p fair label next rule given es taken)
      ∙ ap (λ (l : List meaning.Event). (shows 0 (run_of_lem l)).answer) (in_a_row es row ∙ sym (in_a_row (map plain es) (plain_row es) ∙ plain_same es))
      ∙ sym (ap (λ (w : Watched). w.answer) (after_model p fair label next rule given (map plain es) taken'))

  -- A GAP OF k is the same as k lines that see nothing: behind accepted events, an event whose number is k beyond the one expected gives the very monitor and lamp
  -- that it gives behind k such lines
  module _ (es : List Event) (some : seen_from false es ≡ true) (k : ℕ) (e : Event) (beyond : e.num ≡ Given (expected_from 0 es + k)) where
    abbrev n : ℕ
    n = expected_from 0 es

    abbrev blanks : List Event
    blanks = replicate k nothing

    number_is : (x : ℕ) → number_of e.num x ≡ n + k
    number_is x = rw beyond refl

    -- the event, behind a gap of so many
    behind : (i j : ℕ) → i ≡ j → (replicate i unseen ++ event_of e ∷ []) ++ [] ≡ replicate j unseen ++ event_of e ∷ []
    behind i j is = append-nil (replicate i unseen ++ event_of e ∷ []) ∙ ap (λ (g : ℕ). replicate g unseen ++ event_of e ∷ []) is

    gap_filled : filled (es ++ e ∷ []) ≡ filled (es ++ (blanks ++ e ∷ []))
    gap_filled =
        filled_append false 0 es (e ∷ []) ∙ ap (λ (l : List meaning.Event). filled es ++ l) (subst (λ (s : Bool). filled_from s n (e ∷ []) ≡ filled_from s n (blanks ++ e ∷ [])) (sym some) same)
        ∙ sym (filled_append false 0 es (blanks ++ e ∷ []))
      where
        same : filled_from true n (e ∷ []) ≡ filled_from true n (blanks ++ e ∷ [])
        same =
            behind (number_of e.num n - n) k (omega (arith, number_is n))
            ∙ sym (blank_filled k n (e ∷ []) ∙ ap (λ (l : List meaning.Event). replicate k unseen ++ l) (behind (number_of e.num (n + k) - (n + k)) 0 (omega (arith, number_is (n + k)))))

    gap_expected : expected_from 0 (es ++ e ∷ []) ≡ expected_from 0 (es ++ (blanks ++ e ∷ []))
    gap_expected =
        expected_append 0 es (e ∷ []) ∙ ap (λ (j : ℕ). j + 1) (number_is n ∙ sym (number_is (n + k))) ∙ sym (blank_expected k n (e ∷ []))
        ∙ sym (expected_append 0 es (blanks ++ e ∷ []))

    gap_taken : AllTaken p fair label next rule (es ++ e ∷ []) → AllTaken p fair label next rule (es ++ (blanks ++ e ∷ []))
    gap_taken all =
        let (before, last) = split p fair label next rule false 0 es (e ∷ []) all in
        let t = last.0 in
        let low : n + k < 2 ^ 32 = omega (arith, number_is n, t.1.number) in
        join p fair label next rule false 0 es (blanks ++ e ∷ []) before
        (subst (λ (s : Bool). TakenFrom p fair label next rule s n (blanks ++ e ∷ [])) (sym some)
        (blanks_taken p fair label next rule k n (e ∷ []) low ((t.0, record { some_left = low; number = rw (number_is (n + k)) low; behind = λ s. (omega (arith, number_is (n + k)), omega (arith, number_is (n + k))) }), tt)))

    pub gap_same : AllTaken p fair label next rule (es ++ e ∷ []) → watched (es ++ e ∷ []) ≡ watched (es ++ (blanks ++ e ∷ []))
    gap_same all =
        after_model p fair label next rule given (es ++ e ∷ []) all ∙ ap₂ (λ (j : ℕ) (l : List meaning.Event). shows j (run_of_lem l)) gap_expected gap_filled
        ∙ sym (after_model p fair label next rule given (es ++ (blanks ++ e ∷ [])) (gap_taken all))
