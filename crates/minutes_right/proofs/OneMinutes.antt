-- The minutes leave no choice: of a table, a rule and events there is one sheet, one first event that is refused, and so one answer that DayMinutes allows.
use Rattle.std.specs.Prelude.{ℕ, zero, suc, ◌+◌, ◌≤◌, ◌<◌, ◌≡◌, refl, Bool, true, false, cond, List, [], ◌∷◌, ◌++◌, map, length, get_or, take, drop, replicate, Ok}
use Rattle.std.proofs.Common.{zero-le, arith, sym, ap, ap₂, subst, ◌∙◌, ⊎_elim, take-append-drop, ext_get_or, take-suc, take-take}
use Rattle.std.proofs.Math.Bool.{So}
use Rattle.std.proofs.lemmas.List.{map-append, length-map}
use Rattle.std.proofs.Math.ListN.{get_or-map}
use Rattle.text.specs.Cases.{below_or_beyond}
use Rattle.meaning.specs.Formula.{Formula}
use Rattle.meaning.specs.Run.{Plant}
use Rattle.meaning.specs.Event as meaning
use Rattle.answers.specs.declared.Kind.{Kind}
use Rattle.answers.specs.declared.Kind.TheVariants.{IllegalEvent, Stretches, Number as NumberKind}
use Rattle.answers.proofs.Promises.{one_verdict}
use Rattle.event_log.specs.declared.Event.{Event}
use Rattle.event_log.specs.Legal.{event_of}
use Rattle.event_log.specs.Log.{nothing}
use Rattle.event_numbers.specs.Numbers.{number_of, missing_of, unseen, brings}
use Rattle.watching.specs.Filled.{seen_from, expected_from, filled_from, filled, InTurnAt, filled_append}
use Rattle.watching.proofs.Filled.{filled_more}
use Rattle.front_door.specs.FrontDoor.{LegalAt, TakenAt}
use Rattle.front_door.proofs.OneOutput.{verdict_one}
use Rattle.stretches.specs.declared.DaySheet.{DaySheet}
use Rattle.stretches.specs.Sheet.{sheet_of}
use Rattle.stretches.specs.Afresh.{Shown, before, stretches_from, line_of, lines_of}
use Rattle.minutes.specs.declared.Minutes.{Minutes}
use Rattle.minutes_right.specs.DayMinutes.{unlit, ShownDay, SheetAfter, UpTo, stopped_by, Day, at_end_lem, at_event, at_number, at_stretch}

-- ---- how many stretches there are, by the restarts alone

abbrev news : List meaning.Event → List Bool
news es = map (λ (e : meaning.Event). e.new) es

abbrev trues : List Bool → ℕ
trues [] = 0
trues (b ∷ bs) = cond b 1 0 + trues bs

-- the first begins one, whether it is a restart or not
abbrev many : List Bool → ℕ
many [] = 0
many (b ∷ bs) = suc (trues bs)

before_lines : (x : Shown) (gs : List (List Shown)) → 0 < length (map line_of gs) → length (map line_of (before x gs)) ≡ length (map line_of gs)
before_lines x [] some = absurd (omega arith)
before_lines x (g ∷ gs) some = refl

lines_from : (x : Shown) (xs : List Shown) → length (map line_of (stretches_from x xs)) ≡ suc (trues (map (λ (y : Shown). y.new) xs))
unfolding stretches_from
lines_from x [] = refl
lines_from x (y ∷ ys) = by y.new (lines_from y ys)
  where
    by : (b : Bool) → length (map line_of (stretches_from y ys)) ≡ suc (trues (map (λ (z : Shown). z.new) ys))
        → length (map line_of (cond b ((x ∷ []) ∷ stretches_from y ys) (before x (stretches_from y ys)))) ≡ suc (cond b 1 0 + trues (map (λ (z : Shown). z.new) ys))
    by true h = omega (arith, h)
    by false h = omega (arith, h, before_lines x (stretches_from y ys) (omega (arith, h)))

lines_many : (xs : List Shown) → length (lines_of xs) ≡ many (map (λ (x : Shown). x.new) xs)
lines_many [] = refl
lines_many (x ∷ xs) = lines_from x xs

-- ---- more events are no fewer stretches, and a restart is one more

trues_append : (xs ys : List Bool) → trues (xs ++ ys) ≡ trues xs + trues ys
trues_append [] ys = omega arith
trues_append (x ∷ xs) ys = omega (arith, trues_append xs ys)

many_append : (xs ys : List Bool) → many xs ≤ many (xs ++ ys)
many_append [] ys = zero-le
many_append (x ∷ xs) ys = omega (arith, trues_append xs ys)

many_some : (xs ys : List Bool) → 0 < many xs → many (xs ++ ys) ≡ many xs + trues ys
many_some [] ys some = absurd (omega arith)
many_some (x ∷ xs) ys some = omega (arith, trues_append xs ys)

-- the stretches of the first k events
abbrev up_to : List Event → ℕ → ℕ
up_to es k = many (news (filled (take k es)))

more_events : (es : List Event) (k m : ℕ) → k ≤ m → up_to es k ≤ up_to es m
more_events es k m le =
    let first = take k es in
    let rest = drop k (take m es) in
    let split : take m es ≡ first ++ rest = sym (ap (λ (l : List Event). l ++ rest) (sym (take-take k m es le)) ∙ take-append-drop k (take m es)) in
    let behind = filled_from (seen_from false first) (expected_from 0 first) rest in
    let is : news (filled (take m es)) ≡ news (filled first) ++ news behind =
    ap news (ap filled split ∙ filled_append false 0 first rest) ∙ map-append (λ (e : meaning.Event). e.new) (filled first) behind in
    subst (λ (bs : List Bool). many (news (filled first)) ≤ many bs) (sym is) (many_append (news (filled first)) (news behind))

-- events that were not received are no restarts
quiet : (j : ℕ) (e : meaning.Event) → trues (news (replicate j unseen ++ e ∷ [])) ≡ cond e.new 1 0
quiet zero e = omega arith
quiet (suc j) e = omega (arith, quiet j e)

restart_adds : (es : List Event) (k : ℕ) → k < length es → So (get_or es k nothing).new → 0 < up_to es k → up_to es (suc k) ≡ up_to es k + 1
restart_adds es k low new some =
    let first = take k es in
    let e = get_or es k nothing in
    let gap = missing_of (seen_from false first) (expected_from 0 first) (number_of e.num (expected_from 0 first)) in
    let is : news (filled (take (suc k) es)) ≡ news (filled first) ++ news (brings (seen_from false first) (expected_from 0 first) e) =
    ap news (ap filled (take-suc es k nothing low) ∙ filled_more first e) ∙ map-append (λ (e : meaning.Event). e.new) (filled first) (brings (seen_from false first) (expected_from 0 first) e) in
    let one : ◌≡◌ {A = ℕ} (cond e.new 1 0) 1 = ap (λ (b : Bool). cond {A = ℕ} b 1 0) new in
    ap many is ∙ many_some (news (filled first)) (news (brings (seen_from false first) (expected_from 0 first) e)) some ∙ ap (λ (n : ℕ). up_to es k + n) (quiet gap (event_of e) ∙ one)

module _ (t : Plant) (f : Formula) where
  -- ---- what was shown, and the sheet

  shown_one : (es : List Event) (xs ys : List Shown) → ShownDay t f es xs → ShownDay t f es ys → xs ≡ ys
  shown_one es xs ys a b = ext_get_or unlit xs ys long same
    where
      long : length xs ≡ length ys
      long = sym (length-map xs (λ (x : Shown). x.number)) ∙ ap length (a.numbers ∙ sym b.numbers) ∙ length-map ys (λ (x : Shown). x.number)

      same : (j : ℕ) → j < length xs → get_or xs j unlit ≡ get_or ys j unlit
      same j low =
          let number : (get_or xs j unlit).number ≡ (get_or ys j unlit).number =
          sym (get_or-map (λ (x : Shown). x.number) xs j unlit) ∙ ap (λ (l : List ℕ). get_or l j 0) (a.numbers ∙ sym b.numbers) ∙ get_or-map (λ (x : Shown). x.number) ys j unlit in
          let new : (get_or xs j unlit).new ≡ (get_or ys j unlit).new =
          sym (get_or-map (λ (x : Shown). x.new) xs j unlit) ∙ ap (λ (l : List Bool). get_or l j false) (a.restarts ∙ sym b.restarts) ∙ get_or-map (λ (x : Shown). x.new) ys j unlit in
          let verdict = one_verdict (get_or xs j unlit).verdict (get_or ys j unlit).verdict
          (verdict_one t f (get_or xs j unlit).verdict (get_or ys j unlit).verdict (a.right j low) (b.right j (subst (λ (n : ℕ). j < n) long low))) in
          λ i. record { number = number i; new = new i; verdict = verdict i }

  pub sheet_one : (es : List Event) (r s : DaySheet) → SheetAfter t f es r → SheetAfter t f es s → r ≡ s
  sheet_one es r s a b = a.is ∙ ap (λ (xs : List Shown). sheet_of (lines_of xs)) (shown_one es a.shown b.shown a.day b.day) ∙ sym b.is

  count_is : (es : List Event) (k : ℕ) (s : DaySheet) → UpTo t f es k s → s.count ≡ up_to es k
  count_is es k s u = let a = u.sheet in ap (λ (d : DaySheet). d.count) a.is ∙ lines_many a.shown ∙ ap many a.day.restarts

  few_is : (es : List Event) (k : ℕ) (s : DaySheet) → UpTo t f es k s → up_to es k ≤ 64
  few_is es k s u = let a = u.sheet in subst (λ (n : ℕ). n ≤ 64) (lines_many a.shown ∙ ap many a.day.restarts) a.few

  -- ---- where a day ends

  -- why event k is refused, by its kind
  data Stops (es : List Event) (k : ℕ) (s : DaySheet) : Kind → Type 0 where
    illegal : (LegalAt t es k → ⊥) → Stops es k s IllegalEvent
    stray : LegalAt t es k → (InTurnAt es k → ⊥) → Stops es k s NumberKind
    full : TakenAt t es k → s.count ≡ 64 → So (get_or es k nothing).new → Stops es k s Stretches

  -- then no day goes on behind it
  no_later : (es : List Event) (k : ℕ) (s : DaySheet) (kind : Kind) → k < length es → UpTo t f es k s → Stops es k s kind → (m : ℕ) (r : DaySheet) → k < m → UpTo t f es m r → ⊥
  no_later es k s kind low u (illegal bad) m r l v = bad (v.taken k l).0
  no_later es k s kind low u (stray fine bad) m r l v = bad (v.taken k l).1
  no_later es k s kind low u (full fine is new) m r l v =
      let here = count_is es k s u in
      let more = restart_adds es k low new (omega (arith, here, is)) in
      omega (arith, here, is, more, more_events es (suc k) m l, few_is es m r v)

  kind_one : (es : List Event) (k : ℕ) (r s : DaySheet) (a b : Kind) → Stops es k r a → Stops es k s b → a ≡ b
  kind_one es k r s a b (illegal bad) (illegal bad') = refl
  kind_one es k r s a b (illegal bad) (stray fine bad') = absurd (bad fine)
  kind_one es k r s a b (illegal bad) (full fine is new) = absurd (bad fine.0)
  kind_one es k r s a b (stray fine bad) (illegal bad') = absurd (bad' fine)
  kind_one es k r s a b (stray fine bad) (stray fine' bad') = refl
  kind_one es k r s a b (stray fine bad) (full fine' is new) = absurd (bad fine'.1)
  kind_one es k r s a b (full fine is new) (illegal bad) = absurd (bad fine.0)
  kind_one es k r s a b (full fine is new) (stray fine' bad) = absurd (bad fine.1)
  kind_one es k r s a b (full fine is new) (full fine' is' new') = refl

  data Ends (es : List Event) : Minutes → Type 0 where
    ends : (s : DaySheet) → UpTo t f es (length es) s → Ends es (record { outcome = Ok tt; sheet = s })
    halts : (kind : Kind) (k : ℕ) (s : DaySheet) → k < length es → UpTo t f es k s → Stops es k s kind → Ends es (stopped_by kind t es k s)

  ends_so : {es : List Event} {m : Minutes} → Day t f es m → Ends es m
  ends_so (at_end_lem s u) = ends s u
  ends_so (at_event k s low u bad) = halts IllegalEvent k s low u (illegal bad)
  ends_so (at_number k s low u fine bad) = halts NumberKind k s low u (stray fine bad)
  ends_so (at_stretch k s low u fine is new) = halts Stretches k s low u (full fine is new)

  one_end : {es : List Event} {a b : Minutes} → Ends es a → Ends es b → a ≡ b
  one_end {es} (ends r u) (ends s v) = ap (λ (d : DaySheet). record { outcome = Ok tt; sheet = d }) (sheet_one (take (length es) es) r s u.sheet v.sheet)
  one_end {es} (ends r u) (halts kind k s low v why) = absurd (no_later es k s kind low v why (length es) r low u)
  one_end {es} (halts kind k r low u why) (ends s v) = absurd (no_later es k r kind low u why (length es) s low v)
  one_end {es} (halts a k r low u why) (halts b m s low' v why') = by same u why
    where
      same : k ≡ m
      same =
          ⊎_elim (λ (l : k < m). absurd (no_later es k r a low u why m s l v))
          (λ (l : m ≤ k). ⊎_elim (λ (g : m < k). absurd (no_later es m s b low' v why' k r g u)) (λ (g : k ≤ m). omega arith) (below_or_beyond m k))
          (below_or_beyond k m)

      by : k ≡ m → UpTo t f es k r → Stops es k r a → stopped_by a t es k r ≡ stopped_by b t es m s
      by e u why =
          ap (λ (n : ℕ). stopped_by a t es n r) e
          ∙ ap₂ (λ (x : Kind) (d : DaySheet). stopped_by x t es m d) (kind_one es m r s a b (subst (λ (n : ℕ). Stops es n r a) e why) why')
          (sheet_one (take m es) r s (subst (λ (n : ℕ). SheetAfter t f (take n es) r) e u.sheet) v.sheet)

  -- NO CHOICE
  pub one_day : {es : List Event} {a b : Minutes} → Day t f es a → Day t f es b → a ≡ b
  one_day x y = one_end (ends_so x) (ends_so y)
