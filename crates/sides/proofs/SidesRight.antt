-- With what an accepted rule says, the sides are those of the model.
use Prim.Native.Nat.{ℕ, zero, suc, ◌+◌, ◌^◌, ◌≤◌, ◌<◌}
use Rattle.std.proofs.Math.Numerals.{add-one}
use Rattle.std.proofs.Common.{arith, lt_of_lt_of_le, ◌∙◌, lt-ltb, le-ltb}
use Rattle.std.proofs.Math.Decide.{dec_lt}
use Rattle.std.specs.Prelude.{◌≡◌, Bool, ◌&&◌, ltb}
use Rattle.std.proofs.Math.Path.{refl, sym, ap, ap₂}
use Rattle.std.proofs.Math.Bool.{true, false, So, cond}
use mathlib.Core.List.{List, [], ◌∷◌, ◌++◌, foldl, foldl-append}
use Rattle.std.specs.Int.Bits.{bit_and}
use Rattle.std.proofs.Math.ListN.{get_or, replicate}
use Rattle.meaning.specs.Bit.{bit}
use Rattle.meaning.specs.Formula.{Formula, parts}
use Rattle.meaning.specs.Run as run
use Rattle.meaning.specs.Event as meaning
use Rattle.meaning.specs.Limits.{AcceptedTable, Small}
use Rattle.words.specs.Truth.{not_so, and_says}
use Rattle.words.specs.Word.{only_of}
use Rattle.words.specs.Below.{words_below}
use Rattle.words.specs.Laws.{bit_zero, bit_and_lem, same_bits}
use Rattle.words.specs.Within.{and_same}
use Rattle.words.specs.Lists.{words_at, words_ext, length_words}
use Rattle.labels.specs.Labels.{agreeing_of}
use Rattle.moves.specs.Image.{image_of}
use Rattle.theory.proofs.Alive.{valuations_few}
use Rattle.model.specs.Sets.{PairSet}
use Rattle.model.specs.Moves.{from, to}
use Rattle.model.specs.Monitor as model
use Rattle.model.specs.Values.{holding_bit}
use Rattle.model.proofs.Rule.{both_set, step_sets}
use Rattle.pairs.specs.Sets.{inside, join_of, inside_words}
use Rattle.model.specs.Code.{moved_image}
use Rattle.leads.specs.Halves.{from_in, to_in}
use Rattle.leads.specs.HalvesRight.{image_halves}
use Rattle.syntax.specs.declared.Rule.{Rule}
use Rattle.event_log.specs.declared.Event.{Event}
use Rattle.event_log.specs.Log.{nothing}
use Rattle.truth.specs.declared.tables.Tables.{Tables}
use Rattle.truth.specs.Tables.{tables_of}
use Rattle.truth.specs.RightTables.{RightTables}
use Rattle.ways.specs.declared.Ways.{Ways}
use Rattle.ways.specs.Ways.{ways_from, ways_of}
use Rattle.sides.specs.declared.Monitor.{Monitor}
use Rattle.event_log.specs.Legal.{event_of}
use Rattle.sides.specs.Held.{model_of, monitor_of}
use Rattle.event_numbers.specs.Numbers.{number_of, missing_of, first_none, unseen, brings}
use Rattle.sides.specs.Sides.{sides_of, value_in, split_in, split_of, cut_in, cut_of, opened_by, kept_of, moved_by, moved_in, reached_by, restarted_by, restarted_in, advanced_by, advanced_in, caught_up_by, caught_up_in, came_by, came_in, expecting, taken_in}

-- words that are 0 from n on may be made by a loop to 64
words_wide : (n : ℕ) (f g : ℕ → ℕ) → n ≤ 64 → ((v : ℕ) → v < n → f v ≡ g v) → ((v : ℕ) → n ≤ v → g v ≡ 0) → words_below n f ≡ words_below 64 g
words_wide n f g few same beyond =
    words_ext (words_below n f) (words_below 64 g) (length_words n f) (length_words 64 g) (λ v l. words_at n f v l ∙ go v l (dec_lt v n) ∙ sym (words_at 64 g v l))
  where
    go : (v : ℕ) → v < 64 → Dec (v < n) → only_of (ltb v n) (f v) ≡ only_of (ltb v 64) (g v)
    go v l (yes h) = rw (lt-ltb v n h, lt-ltb v 64 l) (same v h)
    go v l (no h) = rw (le-ltb v n (omega arith), lt-ltb v 64 l) (sym (beyond v (omega arith)))

-- of the live states that agree and are led to, those with a value; the cut to those that agree may come again
split_word : (l a r h y : ℕ) → ((s : ℕ) → So (bit l s) → bit h s ≡ bit y s) → bit_and (bit_and l a) (bit_and r h) ≡ bit_and (bit_and (bit_and (bit_and l a) r) a) y
split_word l a r h y same = same_bits _ _ (λ s. simp bit_and_lem (go (bit l s) (bit a s) (bit r s) (bit h s) (bit y s) (same s)))
  where
    go : (l a r h y : Bool) → (So l → h ≡ y) → ((l && a) && (r && h)) ≡ ((((l && a) && r) && a) && y)
    go true true true h y e = e refl
    go true true false h y e = refl
    go true false r h y e = refl
    go false a r h y e = refl

module _ (T : run.Plant) (f : Formula) (A : AcceptedTable T) (small : Small f) (live : List ℕ) (z : PairSet T f live) where
  none_beyond : (x y v : ℕ) → 2 ^ parts f ≤ v → bit_and (bit_and (get_or live v 0) x) y ≡ 0
  none_beyond x y v h = rw (same_bits (get_or live v 0) 0 (λ s. not_so (bit (get_or live v 0) s) (λ i. (let l = (z.range s v i).1 in omega arith)) ∙ sym (bit_zero s))) refl

  module _ (t : Tables) (R : RightTables T f t) where
    -- where the rule has the value b, at a live pair
    value_bit : (b : Bool) (v : ℕ) → v < 2 ^ parts f → (s : ℕ) → So (inside live s v) → bit (model.holding T f b v) s ≡ bit (value_in t.holds b v) s
    value_bit b v l s i =
        holding_bit T f A v (get_or t.holds v 0) (R.holds v (lt_of_lt_of_le l (valuations_few f small))) (R.words v) b s (z.range s v i).0

    opens_at_lem : (b : Bool) (v : ℕ) → v < 2 ^ parts f → model.opens_at T f live b v ≡ split_in live T.start t.holds b v
    unfolding model.opens_at
    opens_at_lem b v l = and_same (bit_and (get_or live v 0) T.start) (model.holding T f b v) (value_in t.holds b v)
        (λ s i. value_bit b v l s ((and_says (inside live s v) (bit T.start s)).0 (rw bit_and_lem at i)).0)

    pub opens_right : (b : Bool) → words_below (2 ^ parts f) (model.opens_at T f live b) ≡ split_of live T.start t.holds b
    unfolding split_of
    opens_right b = words_wide (2 ^ parts f) (model.opens_at T f live b) (split_in live T.start t.holds b) (valuations_few f small) (opens_at_lem b) (λ v h. none_beyond _ _ v h)

    -- where a set leads, split anew
    pub split_right : (b : Bool) (led : ℕ → ℕ) (agree : ℕ)
        → words_below (2 ^ parts f) (λ v. bit_and (bit_and (get_or live v 0) agree) (bit_and (led v) (model.holding T f b v)))
        ≡ split_of (words_below (2 ^ parts f) (λ v. bit_and (bit_and (get_or live v 0) agree) (led v))) agree t.holds b
    unfolding split_of
    split_right b led agree = words_wide (2 ^ parts f) _ (split_in reached agree t.holds b) (valuations_few f small)
        (λ v l. split_word (get_or live v 0) agree (led v) (model.holding T f b v) (value_in t.holds b v) (value_bit b v l) ∙ sym (ap (cut v) (reached_at_lem v l)))
        (λ v h. ap (cut v) (beyond v h))
      where
        one : ℕ → ℕ
        one v = bit_and (bit_and (get_or live v 0) agree) (led v)

        reached : List ℕ
        reached = words_below (2 ^ parts f) one

        cut : ℕ → ℕ → ℕ
        cut v x = bit_and (bit_and x agree) (value_in t.holds b v)

        reached_at_lem : (v : ℕ) → v < 2 ^ parts f → get_or reached v 0 ≡ one v
        reached_at_lem v l = words_at (2 ^ parts f) one v (lt_of_lt_of_le l (valuations_few f small)) ∙ rw (lt-ltb v (2 ^ parts f) l) refl

        beyond : (v : ℕ) → 2 ^ parts f ≤ v → get_or reached v 0 ≡ 0
        beyond v h = same_bits (get_or reached v 0) 0 (λ s. inside_words (2 ^ parts f) one (valuations_few f small) s v ∙ rw (le-ltb v (2 ^ parts f) h) (sym (bit_zero s)))

    pub image_right : (held : List ℕ) → PairSet T f held → (agree : ℕ)
        → image_of T.next held (from T f) (to T f) (2 ^ parts f) live agree
        ≡ image_of T.next held (from_in (ways_from t).leave) (to_in (ways_from t).enter) (ways_from t).count live agree
    image_right held h agree = rw R.count (sym (image_halves T f A small t.low t.high t.nexts t.operand R.low R.high R.nexts R.operand held h live agree))

  -- the live pairs of `held` with states of `agree`
  cut_right : (source : ℕ → ℕ) (held : List ℕ) (agree : ℕ) → ((v : ℕ) → v < 2 ^ parts f → source v ≡ get_or held v 0)
      → words_below (2 ^ parts f) (λ w. bit_and (bit_and (get_or live w 0) agree) (source w)) ≡ cut_of held live agree
  unfolding cut_of
  cut_right source held agree e =
      words_wide (2 ^ parts f) (λ w. bit_and (bit_and (get_or live w 0) agree) (source w)) (cut_in held live agree) (valuations_few f small)
      (λ v l. ap (bit_and (bit_and (get_or live v 0) agree)) (e v l)) (λ v h. none_beyond _ _ v h)

module _ (T : run.Plant) (f : Formula) (A : AcceptedTable T) (small : Small f) (rule : Rule) (R : RightTables T f (tables_of T.label rule)) (live : List ℕ) (z : PairSet T f live) where
  -- what the rule says
  abbrev w : Ways
  w = ways_of T.label rule

  -- a monitor opened
  pub opened_right : opened_by T.start w.holds live ≡ monitor_of 0 (model.opening T f live)
  unfolding opened_by model.opening ways_of
  opened_right = ap₂ (sides_of 0 false) (sym (opens true)) (sym (opens false))
    where
      opens : (b : Bool) → words_below (2 ^ parts f) (model.opens_at T f live b) ≡ split_of live T.start (tables_of T.label rule).holds b
      opens = opens_right T f A small live z (tables_of T.label rule) R

  -- and advanced
  module _ (m : Monitor) (held : (b : Bool) → PairSet T f (model.side (model_of m) b)) (e : Event) where
    abbrev agree : ℕ
    agree = agreeing_of T.label e.see e.val

    abbrev after : Bool → List ℕ
    after b = model.kept_of T f live (model_of m) (event_of e) b

    -- no event came
    first_side : m.seen ≡ false → (b : Bool) → after b ≡ cut_of (model.side (model_of m) b) live agree
    unfolding model.kept_of model.source_at
    first_side seen b = rw seen (cut_right T f A small live z (λ v. get_or (model.side (model_of m) b) v 0) (model.side (model_of m) b) agree (λ v l. refl))

    -- a restart
    new_side : m.seen ≡ true → e.new ≡ true → (b : Bool) → after b ≡ split_of (reached_by T.next w.leave w.enter w.count live m agree) agree w.holds b
    unfolding model.kept_of model.source_at image_of ways_of
    new_side seen new b = rw (seen, new) (
        split_right T f A small live z t R b (model.led_at T f both) agree
        ∙ ap (λ (x : List ℕ). split_of x agree t.holds b) (image_right T f A small live z t R both (both_set T f A small live z (model_of m) held) agree)
        )
      where
        t : Tables
        t = tables_of T.label rule

        both : List ℕ
        both = join_of m.keeps.words m.breaks.words

    -- a move
    next_side : m.seen ≡ true → e.new ≡ false → (b : Bool)
        → after b ≡ image_of T.next (model.side (model_of m) b) (from_in w.leave) (to_in w.enter) w.count live agree
    unfolding ways_of
    next_side seen new b =
        moved_image T f live (model_of m) (event_of e) b seen new ∙ image_right T f A small live z (tables_of T.label rule) R (model.side (model_of m) b) (held b) agree

    abbrev moves : Monitor
    moves = moved_in T.next w live m agree

    abbrev restarts : Monitor
    restarts = restarted_in T.next w live m agree

    pub advanced_right : advanced_in T.label T.next w live m e ≡ monitor_of m.expected (model.step_of T f live (model_of m) (event_of e))
    unfolding advanced_by kept_of moved_by restarted_by model.step_of
    advanced_right = by_seen m.seen refl
      where
        by_new : m.seen ≡ true → (n : Bool) → e.new ≡ n → cond n restarts moves ≡ sides_of m.expected true (after true) (after false)
        by_new seen true new = ap₂ (sides_of m.expected true) (sym (new_side seen new true)) (sym (new_side seen new false))
        by_new seen false new = ap₂ (sides_of m.expected true) (sym (next_side seen new true)) (sym (next_side seen new false))

        by_seen : (s : Bool) → m.seen ≡ s
            → cond s (cond e.new restarts moves) (kept_of m live agree) ≡ sides_of m.expected true (after true) (after false)
        by_seen true seen = by_new seen e.new refl
        by_seen false seen = ap₂ (sides_of m.expected true) (sym (first_side seen true)) (sym (first_side seen false))

  -- ---- events with numbers

  abbrev step : model.Monitor → meaning.Event → model.Monitor
  step = model.step_of T f live

  -- both sets of a monitor are of the table and the rule
  abbrev Sets : model.Monitor → Type 0
  Sets x = (b : Bool) → PairSet T f (model.side x b)

  -- they stay so, and an event that came stays one
  pub sets_on : (es : List meaning.Event) (x : model.Monitor) → Sets x → Sets (foldl step x es)
  sets_on [] x sets = sets
  sets_on (e ∷ es) x sets = sets_on es (step x e) (step_sets T f A small live z x sets e)

  seen_on : (es : List meaning.Event) (x : model.Monitor) → x.seen ≡ true → (foldl step x es).seen ≡ true
  unfolding model.step_of
  seen_on [] x seen = seen
  seen_on (e ∷ es) x seen = seen_on es (step x e) refl

  unseen_more : (k : ℕ) (x : model.Monitor) → foldl step x (replicate (suc k) unseen) ≡ step (foldl step x (replicate k unseen)) unseen
  unseen_more zero x = refl
  unseen_more (suc k) x = unseen_more k (step x unseen)

  -- an unseen event behind another is a move
  unseen_right : (n : ℕ) (x : model.Monitor) → Sets x → x.seen ≡ true → moved_in T.next w live (monitor_of n x) (agreeing_of T.label 0 0) ≡ monitor_of n (step x unseen)
  unfolding advanced_by
  unseen_right n x sets seen =
      sym (ap (λ (s : Bool). cond s (moved_in T.next w live (monitor_of n x) (agreeing_of T.label 0 0)) (kept_of (monitor_of n x) live (agreeing_of T.label 0 0))) seen)
      ∙ advanced_right (monitor_of n x) sets nothing

  module _ (m : Monitor) (held : Sets (model_of m)) where
    caught_right : m.seen ≡ true → (k : ℕ) → caught_up_in T.label T.next w live m k ≡ monitor_of m.expected (foldl step (model_of m) (replicate k unseen))
    unfolding caught_up_by
    caught_right seen zero = refl
    caught_right seen (suc k) =
        let gone = replicate k unseen in
        ap (λ (x : Monitor). moved_in T.next w live x (agreeing_of T.label 0 0)) (caught_right seen k)
        ∙ unseen_right m.expected (foldl step (model_of m) gone) (sets_on gone (model_of m) held) (seen_on gone (model_of m) seen)
        ∙ ap (monitor_of m.expected) (sym (unseen_more k (model_of m)))

    came_right : (e : Event) (k : ℕ) → (m.seen ≡ false → k ≡ 0)
        → came_in T.label T.next w live m k e ≡ monitor_of m.expected (foldl step (model_of m) (replicate k unseen ++ event_of e ∷ []))
    unfolding caught_up_by
    came_right e k none = by_seen m.seen refl
      where
        by_seen : (s : Bool) → m.seen ≡ s → came_in T.label T.next w live m k e ≡ monitor_of m.expected (foldl step (model_of m) (replicate k unseen ++ event_of e ∷ []))
        by_seen false seen = rw (none seen) (advanced_right m held e)
        by_seen true seen =
            let gone = replicate k unseen in
            ap (λ (x : Monitor). advanced_in T.label T.next w live x e) (caught_right seen k)
            ∙ advanced_right (monitor_of m.expected (foldl step (model_of m) gone)) (sets_on gone (model_of m) held) e
            ∙ ap (monitor_of m.expected) (sym (foldl-append step (model_of m) gone (event_of e ∷ [])))

  -- an event taken is all that it brings
  pub taken_right : (m : Monitor) → Sets (model_of m) → (e : Event)
      → taken_in T.label T.next w live m e ≡ monitor_of (number_of e.num m.expected + 1) (foldl step (model_of m) (brings m.seen m.expected e))
  taken_right m held e = let n = number_of e.num m.expected in came_right (expecting (n + 1) m) held e (missing_of m.seen m.expected n) (first_none m.seen m.expected n)

-- ---- for code: the two sides after a restart, the monitor advanced, in each of the three cases, and with a number

pub restarted_whole : (next leave enter holds : List ℕ) (count : ℕ) (live : List ℕ) (m : Monitor) (agree : ℕ) {both reached keeps breaks : List ℕ}
    → both ≡ join_of m.keeps.words m.breaks.words → reached ≡ image_of next both (from_in leave) (to_in enter) count live agree
    → keeps ≡ split_of reached agree holds true → breaks ≡ split_of reached agree holds false
    → sides_of m.expected true keeps breaks ≡ restarted_by next leave enter holds count live m agree
unfolding restarted_by
restarted_whole next leave enter holds count live m agree eb er ek el = rw (ek, el, er, eb)

module _ (label next leave enter holds : List ℕ) (count : ℕ) (live : List ℕ) (m : Monitor) (e : Event) where
  abbrev advanced : Monitor
  advanced = advanced_by label next leave enter holds count live m e

  module _ {agree : ℕ} {n : Monitor} (a : agree ≡ agreeing_of label e.see e.val) where
    pub advanced_new : m.seen ≡ true → e.new ≡ true → n ≡ restarted_by next leave enter holds count live m agree → n ≡ advanced
    unfolding advanced_by
    advanced_new seen new en = en ∙ rw (seen, new, a)

    pub advanced_next : m.seen ≡ true → e.new ≡ false → n ≡ moved_by next leave enter count live m agree → n ≡ advanced
    unfolding advanced_by
    advanced_next seen new en = en ∙ rw (seen, new, a)

    pub advanced_first : m.seen ≡ false → n ≡ kept_of m live agree → n ≡ advanced
    unfolding advanced_by
    advanced_first seen en = en ∙ rw (seen, a)

module _ (label next leave enter : List ℕ) (count : ℕ) (live : List ℕ) (m : Monitor) where
  -- behind k events that are missing
  abbrev caught : ℕ → Monitor
  caught k = caught_up_by label next leave enter count live m k

  pub caught_more : (k : ℕ) {x now : Monitor} {agree : ℕ} → now ≡ caught k → agree ≡ agreeing_of label 0 0 → x ≡ moved_by next leave enter count live now agree → x ≡ caught (k + 1)
  unfolding caught_up_by
  caught_more k is all moves = rw add-one (moves ∙ rw (is, all) refl)

  caught_seen : m.seen ≡ true → (k : ℕ) → (caught k).seen ≡ true
  unfolding caught_up_by moved_by
  caught_seen seen zero = seen
  caught_seen seen (suc k) = refl

  module _ (holds : List ℕ) (e : Event) (k : ℕ) where
    -- nothing is missing, or some are caught up with
    pub came_at_once : {x : Monitor} → k ≡ 0 → x ≡ advanced_by label next leave enter holds count live m e → x ≡ came_by label next leave enter holds count live m k e
    unfolding caught_up_by
    came_at_once none is = is ∙ rw none refl

    pub came_behind : {now x : Monitor} → now ≡ caught k → x ≡ advanced_by label next leave enter holds count live now e → x ≡ came_by label next leave enter holds count live m k e
    came_behind is goes = rw is at goes

    module _ {agree : ℕ} {x : Monitor} (a : agree ≡ agreeing_of label e.see e.val) where
      pub came_new : m.seen ≡ true → e.new ≡ true → x ≡ restarted_by next leave enter holds count live (caught k) agree → x ≡ came_by label next leave enter holds count live m k e
      came_new seen new is = advanced_new label next leave enter holds count live (caught k) e a (caught_seen seen k) new is

      pub came_next : m.seen ≡ true → e.new ≡ false → x ≡ moved_by next leave enter count live (caught k) agree → x ≡ came_by label next leave enter holds count live m k e
      came_next seen new is = advanced_next label next leave enter holds count live (caught k) e a (caught_seen seen k) new is

      pub came_first : k ≡ 0 → m.seen ≡ false → x ≡ kept_of m live agree → x ≡ came_by label next leave enter holds count live m k e
      came_first none seen is = came_at_once none (advanced_first label next leave enter holds count live m e a seen is)
