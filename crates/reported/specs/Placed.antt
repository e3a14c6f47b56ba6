-- The positions of a log's events are those that they have where the lost ones are counted too, and the mark is the last restart's: so a run agrees with the events, each at
-- its position, exactly if it agrees with the whole list.
use mathlib.Core.Logic.Iff
use Prim.Native.Nat.{ℕ, zero, suc, ◌+◌, ◌-◌, ◌≤◌, ◌<◌}
use Rattle.std.proofs.Common.{arith, sym, subst, ◌∙◌, ⊎_elim, append_assoc, append-nil, length-append, take-suc}
use Rattle.std.specs.Prelude.{◌≡◌, ◌↔◌, Bool, true, false, List, [], ◌∷◌, ◌++◌, take, replicate}
use Rattle.std.proofs.Math.Path.{refl, ap}
use Rattle.std.proofs.Math.Bool.{cond}
use Rattle.std.proofs.lemmas.Bool.{false≢true}
use Rattle.std.proofs.Math.ListN.{length, get_or}
use Rattle.std.proofs.Math.Seq.{take-length}
use Rattle.meaning.specs.Run.{Plant, Lasso, state_at, label_of}
use Rattle.meaning.specs.Event as meaning
use Rattle.meaning.specs.Event.{Seen, Agrees, AgreesWith, History, grow, since}
use Rattle.meaning.proofs.Sense.{since_grow, since_more}
use Rattle.words.specs.Laws.{bit_zero}
use Rattle.words.specs.Tests.{below_cases}
use Rattle.theory.specs.Opening.{agrees_more}
use Rattle.event_log.specs.declared.Num.{Num}
use Rattle.event_log.specs.declared.Num.TheVariants.{Expected, Given}
use Rattle.event_log.specs.declared.Event.{Event}
use Rattle.event_log.specs.Lead.{is_given, given_of}
use Rattle.event_log.specs.Legal.{seen_of, event_of}
use Rattle.event_log.specs.Log.{nothing}
use Rattle.event_log.specs.Promises.{AllWritable}
use Rattle.event_numbers.specs.Numbers.{number_of, missing_of, unseen}
use Rattle.watching.specs.Filled.{expected_from, seen_from, filled, expected_at, number_at, InTurnAt, expected_append}
use Rattle.watching.proofs.Filled.{filled_more}
use Rattle.shown.specs.Positions.{position_of, position_at, mark_of}
use Rattle.shown.specs.Shown.{AgreesAll}

-- ---- one event more

-- what saw nothing fits each label
blind : (l : ℕ) → Agrees meaning.nothing l
blind l p so = absurd (false≢true (sym (bit_zero p) ∙ so))

-- a restart moves the mark, and no other event does
grown : (h : History) (s : Seen) (b : Bool)
    → ((grow h (record { seen = s; new = b })).events ≡ h.events ++ s ∷ []) × ((grow h (record { seen = s; new = b })).mark ≡ cond b (length h.events) h.mark)
unfolding grow
grown h s true = (refl, refl)
grown h s false = (refl, refl)

module _ (T : Plant) (L : Lasso) where
  -- k events that were not received add k positions, and nothing else
  record Waits (xs ys : List meaning.Event) (k : ℕ) : Type 0 where
    pub long : length (since ys).events ≡ length (since xs).events + k
    pub mark : (since ys).mark ≡ (since xs).mark
    pub agree : AgreesWith T L (since ys).events ↔ AgreesWith T L (since xs).events

  waits : (xs : List meaning.Event) (k : ℕ) → Waits xs (xs ++ replicate k unseen) k
  waits xs zero = subst (λ (ys : List meaning.Event). Waits xs ys 0) (sym (append-nil xs)) (record { long = omega arith; mark = refl; agree = Iff.rfl })
  waits xs (suc k) = subst (λ (ys : List meaning.Event). Waits xs ys (suc k)) (append_assoc xs (unseen ∷ []) (replicate k unseen)) (behind (waits (xs ++ unseen ∷ []) k))
    where
      one : since (xs ++ unseen ∷ []) ≡ meaning.more (since xs) meaning.nothing
      one = since_more xs unseen refl

      longer : length (since (xs ++ unseen ∷ [])).events ≡ length (since xs).events + 1
      longer = ap (λ (h : History). length h.events) one ∙ length-append (since xs).events (meaning.nothing ∷ [])

      still : AgreesWith T L (since (xs ++ unseen ∷ [])).events ↔ AgreesWith T L (since xs).events
      still =
          subst (λ (h : History). AgreesWith T L h.events ↔ AgreesWith T L (since xs).events) (sym one)
          (λ a. ((agrees_more T L (since xs).events meaning.nothing).0 a).0, λ a. (agrees_more T L (since xs).events meaning.nothing).1 (a, blind _))

      behind : Waits (xs ++ unseen ∷ []) ((xs ++ unseen ∷ []) ++ replicate k unseen) k → Waits xs ((xs ++ unseen ∷ []) ++ replicate k unseen) (suc k)
      behind w = record { long = omega (arith, w.long, longer); mark = w.mark ∙ ap (λ (h : History). h.mark) one; agree = Iff.trans w.agree still }

-- ---- numbers

given_number : (n : Num) → given_of n ≡ number_of n 0
given_number Expected = refl
given_number (Given n) = refl

seen_some : (es : List Event) (m : ℕ) → suc m ≤ length es → seen_from false (take (suc m) es) ≡ true
seen_some [] m l = absurd (omega arith)
seen_some (e ∷ es) m l = refl

none_missing : (c : Bool) (x : ℕ) → missing_of c x x ≡ 0
none_missing true x = omega arith
none_missing false x = refl

-- ---- a log whose events are all numbered, or none is

module _ (T : Plant) (L : Lasso) (w : ℕ) (es : List Event) (event : ℕ → Event) (same : (k : ℕ) → event k ≡ get_or es k nothing) (writable : AllWritable w es) where
  -- what the first n events tell
  abbrev h : ℕ → History
  h n = since (filled (take n es))

  -- the first one's number
  abbrev base : ℕ
  base = given_of (event 0).num

  -- how many are missing before event n
  abbrev gap : ℕ → ℕ
  gap n = missing_of (seen_from false (take n es)) (expected_at es n) (number_at es n)

  record Placed (n : ℕ) : Type 0 where
    pub many : 0 < n → length (h n).events + base ≡ expected_at es n
    pub plain : is_given (event 0).num ≡ false → length (h n).events ≡ n
    pub mark : (h n).mark ≡ mark_of event n
    pub agree : AgreesWith T L (h n).events ↔ AgreesAll T L event n

  num_is : (n : ℕ) → (get_or es n nothing).num ≡ (event n).num
  num_is n = ap (λ (e : Event). e.num) (sym (same n))

  alike : (n : ℕ) → n < length es → is_given (event n).num ≡ is_given (event 0).num
  alike n l =
      ap is_given (sym (num_is n)) ∙ (writable n l).0 ∙ sym (writable 0 (omega arith)).0 ∙ ap is_given (num_is 0)

  no_gap : (n : ℕ) → (event n).num ≡ Expected → gap n ≡ 0
  no_gap n e =
      let x : number_at es n ≡ expected_at es n = ap (λ (k : Num). number_of k (expected_at es n)) (num_is n ∙ e) in
      ap (missing_of (seen_from false (take n es)) (expected_at es n)) x ∙ none_missing (seen_from false (take n es)) (expected_at es n)

  -- its number is as far behind the first as its position
  numbered : (n : ℕ) → n < length es → InTurnAt es n → Placed n → length (h n).events + gap n + base ≡ number_at es n
  unfolding since
  numbered zero l t p =
      let a : length (h 0).events ≡ 0 = refl in
      let b : gap 0 ≡ 0 = refl in
      let g : base ≡ number_at es 0 = ap given_of (sym (num_is 0)) ∙ given_number (get_or es 0 nothing).num in
      omega (arith, a, b, g)
  numbered (suc m) l t p =
      let s = seen_some es m (omega arith) in
      let g : gap (suc m) ≡ number_at es (suc m) - expected_at es (suc m) = ap (λ (c : Bool). missing_of c (expected_at es (suc m)) (number_at es (suc m))) s in
      omega (arith, g, (t.behind s).0, p.many (omega arith))

  at_position : (n : ℕ) → n < length es → InTurnAt es n → Placed n → length (h n).events + gap n ≡ position_at event n
  at_position n l t p = by (event n).num refl
    where
      by : (k : Num) → (event n).num ≡ k → length (h n).events + gap n ≡ position_of (event 0).num k n
      by Expected e = omega (arith, p.plain (sym (alike n l) ∙ ap is_given e), no_gap n e)
      by (Given m) e =
          let q : number_at es n ≡ m = ap (λ (k : Num). number_of k (expected_at es n)) (num_is n ∙ e) in
          omega (arith, numbered n l t p, q)

  expects : (k : Num) → is_given k ≡ false → k ≡ Expected
  expects Expected e = refl
  expects (Given n) e = absurd (false≢true (sym e))

  more : (n : ℕ) → n < length es → InTurnAt es n → Placed n → Placed (suc n)
  unfolding mark_of
  more n l t p = record {
    many = λ _. omega (arith, long, numbered n l t p, next_number);
    plain = λ z. omega (arith, long, p.plain z, no_gap n (expects (event n).num (alike n l ∙ z)));
    mark = ap (λ (x : History). x.mark) told ∙ (grown (since waited) (seen_of e) e.new).1
        ∙ ap (λ (b : Bool). cond b (length (since waited).events) (since waited).mark) (ap (λ (x : Event). x.new) (sym (same n)))
        ∙ ap (λ (k : ℕ). cond (event n).new k (since waited).mark) at ∙ ap (λ (k : ℕ). cond (event n).new (position_at event n) k) (w'.mark ∙ p.mark);
    agree = (to, from);
  }
    where
      e : Event
      e = get_or es n nothing

      before : List meaning.Event
      before = filled (take n es)

      waited : List meaning.Event
      waited = before ++ replicate (gap n) unseen

      w' : Waits T L before waited (gap n)
      w' = waits T L before (gap n)

      told : h (suc n) ≡ grow (since waited) (event_of e)
      told =
          ap since (ap filled (take-suc es n nothing l) ∙ filled_more (take n es) e ∙ sym (append_assoc before (replicate (gap n) unseen) (event_of e ∷ [])))
          ∙ since_grow waited (event_of e)

      events_are : (h (suc n)).events ≡ (since waited).events ++ seen_of e ∷ []
      events_are = ap (λ (x : History). x.events) told ∙ (grown (since waited) (seen_of e) e.new).0

      long : length (h (suc n)).events ≡ length (h n).events + gap n + 1
      long = omega (arith, ap length events_are ∙ length-append (since waited).events (seen_of e ∷ []), w'.long)

      at : length (since waited).events ≡ position_at event n
      at = w'.long ∙ at_position n l t p

      next_number : expected_at es (suc n) ≡ number_at es n + 1
      next_number = ap (expected_from 0) (take-suc es n nothing l) ∙ expected_append 0 (take n es) (e ∷ [])

      Fits : ℕ → Type 0
      Fits i = Agrees (seen_of (event i)) (label_of T (state_at L (position_at event i)))

      here : Agrees (seen_of e) (label_of T (state_at L (length (since waited).events))) → Fits n
      here c =
          subst (λ (x : Event). Agrees (seen_of x) (label_of T (state_at L (position_at event n)))) (sym (same n))
          (subst (λ (k : ℕ). Agrees (seen_of e) (label_of T (state_at L k))) at c)

      there : Fits n → Agrees (seen_of e) (label_of T (state_at L (length (since waited).events)))
      there c =
          subst (λ (k : ℕ). Agrees (seen_of e) (label_of T (state_at L k))) (sym at)
          (subst (λ (x : Event). Agrees (seen_of x) (label_of T (state_at L (position_at event n)))) (same n) c)

      to : AgreesWith T L (h (suc n)).events → AgreesAll T L event (suc n)
      to a i lt =
          let (b, c) = (agrees_more T L (since waited).events (seen_of e)).0 (subst (AgreesWith T L) events_are a) in
          ⊎_elim (λ (k : i < n). p.agree.0 (w'.agree.0 b) i k) (λ (q : i ≡ n). subst Fits (sym q) (here c)) (below_cases lt)

      from : AgreesAll T L event (suc n) → AgreesWith T L (h (suc n)).events
      from a =
          subst (AgreesWith T L) (sym events_are)
          ((agrees_more T L (since waited).events (seen_of e)).1 (w'.agree.1 (p.agree.1 (λ i k. a i (omega arith))), there (a n (omega arith))))

  placed : (n : ℕ) → n ≤ length es → ((k : ℕ) → k < n → InTurnAt es k) → Placed n
  unfolding since mark_of
  placed zero l turns = record {
    many = λ some. absurd (omega arith);
    plain = λ z. refl;
    mark = refl;
    agree = (λ a i lt. absurd (omega arith), λ a i lt. absurd (omega arith));
  }
  placed (suc n) l turns = more n (omega arith) (turns n (omega arith)) (placed n (omega arith) (λ k lt. turns k (omega arith)))

  module _ (turns : (k : ℕ) → k < length es → InTurnAt es k) where
    all : Placed (length es)
    all = placed (length es) (omega arith) turns

    pub mark_is : (since (filled es)).mark ≡ mark_of event (length es)
    mark_is = ap (λ (l : List Event). (since (filled l)).mark) (sym (take-length es)) ∙ all.mark

    pub agrees_exactly : AgreesWith T L (since (filled es)).events ↔ AgreesAll T L event (length es)
    agrees_exactly = subst (λ (l : List Event). AgreesWith T L (since (filled l)).events ↔ AgreesAll T L event (length es)) (take-length es) all.agree
