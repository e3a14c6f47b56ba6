-- What the checks of the two calls give the code behind them.
use mathlib.Core.Logic.Iff
use Rattle.std.specs.Prelude.{ℕ, ◌+◌, ◌-◌, ◌^◌, ◌≤◌, ◌<◌, ◌≡◌, Bool, ◌&&◌, ◌||◌, ltb, Ok, Err}
use native.Mathlib.Omega.{arith}
use Rattle.std.proofs.Math.Path.{refl, sym, ap, ap₂}
use Rattle.std.proofs.Common.{◌∙◌, inl, inr, ⊎_elim}
use Rattle.std.proofs.Math.Bool.{true, false, So, cond}
use mathlib.Core.List.{List, []}
use borrow.Author.Tests.{lt-ltb, le-ltb, le-leb, lt-leb, ltb-true, leb-true, eq-eqb, ne_eqb}
use Rattle.std.proofs.Math.Dec.{leb}
use Rattle.std.proofs.Math.ListN.{length}
use Rattle.meaning.specs.Run as run
use Rattle.meaning.specs.Formula.{Formula}
use Rattle.words.specs.Truth.{and_says, or_says, says_and, says_same}
use Rattle.words.specs.Lists.{entry_inside}
use Rattle.pairs.specs.declared.Pairs.{Pairs}
use Rattle.pairs.specs.Sets.{inside, join_of, inside_join, length_join}
use Rattle.model.specs.Monitor as model
use Rattle.model.specs.Sets.{PairSet}
use Rattle.model.specs.Checks.{pairs_ok, pairs_says}
use Rattle.answers.specs.declared.Kind.TheVariants.{Value, Room, LogText, LogLength}
use Rattle.answers.specs.declared.Refusal.{Refusal}
use Rattle.answers.specs.Results.{Answer}
use Rattle.answers.specs.declared.Lamp.{Lamp}
use Rattle.answers.specs.Results.{Outcome}
use Rattle.answers.specs.Paper.{refused_at}
use Rattle.answers.specs.Chain.{and_then, unless, chain_accepts, unless_accepts}
use Rattle.plant.specs.declared.Plant.{Plant}
use Rattle.syntax.specs.declared.Rule.{Rule}
use Rattle.text.specs.Cases.{below_or_beyond}
use Rattle.text.specs.Number.{width_of}
use Rattle.sides.specs.declared.Monitor.{Monitor}
use Rattle.sides.specs.Held.{model_of}
use Rattle.monitor.specs.Calls.{lit, table, formula, checked_of, monitor_fits, look_call, step_call}
use Rattle.course.specs.Course.{Fitting}
use Rattle.course.specs.Laid.{laid}
use Rattle.radio.specs.declared.Radio.{Radio}
use Rattle.radio.specs.declared.Went.{Went}
use Rattle.radio.specs.Radio.{hear_all}
use Rattle.radio.specs.Kept.{heard_by, radio_of, kept_ok, Fit, Listened}
use Rattle.radio.specs.Laws.{ok_kept}
use Rattle.controller.specs.declared.LogAnswer.{LogAnswer}
use Rattle.controller.specs.declared.LogAnswer.TheVariants as Logs
use Rattle.scraps.specs.Calls.{longest, lines_in, part_fits, room_outcome, heard_answer, Took, took_by, end_outcome, held_outcome, kept_outcome, take_outcome, take_call, finish_call}

-- ---- two sets of pairs at once

join_ok : (T : run.Plant) (f : Formula) (a b : List ℕ) → length a ≡ 64 → length b ≡ 64 → pairs_ok T f (join_of a b) ≡ (pairs_ok T f a && pairs_ok T f b)
join_ok T f a b la lb = says_same (Iff.trans (pairs_says T f (join_of a b)) (there, back)) (says_and (pairs_says T f a) (pairs_says T f b))
  where
    in_join : (s v : ℕ) → v < 64 → So (inside a s v || inside b s v) → So (inside (join_of a b) s v)
    in_join s v l h = inside_join a b s v ∙ (and_says (ltb v 64) (inside a s v || inside b s v)).1 (lt-ltb v 64 l, h)

    there : PairSet T f (join_of a b) → PairSet T f a × PairSet T f b
    there z = (
      record { long = la; range = λ s v i. z.range s v (in_join s v (omega (arith, entry_inside a v s i, la)) ((or_says (inside a s v) (inside b s v)).1 (inl i))) },
      record { long = lb; range = λ s v i. z.range s v (in_join s v (omega (arith, entry_inside b v s i, lb)) ((or_says (inside a s v) (inside b s v)).1 (inr i))) },
    )

    back : PairSet T f a × PairSet T f b → PairSet T f (join_of a b)
    back (x, y) = record {
      long = length_join a b;
      range = λ s v i.
          ⊎_elim (λ h. x.range s v h) (λ h. y.range s v h)
          ((or_says (inside a s v) (inside b s v)).0 ((and_says (ltb v 64) (inside a s v || inside b s v)).0 (sym (inside_join a b s v) ∙ i)).1);
    }

turned : (k l r : Bool) → ((k && l) && r) ≡ (l && (k && r))
turned true true r = refl
turned true false r = refl
turned false true r = refl
turned false false r = refl

-- ---- 1, 2 and 9

module _ (p : Plant) (fair label next : List ℕ) (rule : Rule) (live : Pairs) (m : Monitor) (lk : length m.keeps.words ≡ 64) (ll : length live.words ≡ 64) {all : Pairs}
    (joined : all.words ≡ join_of m.keeps.words live.words) where
  abbrev asked : Monitor
  asked = record { seen = m.seen; keeps = all; breaks = m.breaks; expected = m.expected }

  held_same : checked_of p fair label next rule (monitor_fits p fair label next rule asked) ≡ held_outcome p fair label next rule live m
  unfolding held_outcome
  held_same =
      let T = table p fair label next rule in
      let f = formula p fair label next rule in
      let rest = pairs_ok T f m.breaks.words && leb m.expected (2 ^ 32) in
      ap (checked_of p fair label next rule)
      (ap (λ (w : List ℕ). pairs_ok T f w && rest) joined ∙ ap (λ (b : Bool). b && rest) (join_ok T f m.keeps.words live.words lk ll)
      ∙ turned (pairs_ok T f m.keeps.words) (pairs_ok T f live.words) rest)

  refusal_of : Answer → Outcome
  refusal_of (Ok l) = Ok tt
  refusal_of (Err r) = Err r

  lit_is : (o : Outcome) → refusal_of (lit o (model_of asked)) ≡ o
  unfolding refusal_of
  lit_is (Ok _) = refl
  lit_is (Err r) = refl

  told : {a : Answer} → a ≡ look_call p fair label next rule asked → refusal_of a ≡ held_outcome p fair label next rule live m
  unfolding look_call
  told e = ap refusal_of e ∙ lit_is (checked_of p fair label next rule (monitor_fits p fair label next rule asked)) ∙ held_same

  pub held_refused : {a : Answer} {x : Refusal} → a ≡ look_call p fair label next rule asked → a ≡ Err x → Err x ≡ held_outcome p fair label next rule live m
  unfolding refusal_of
  held_refused e f = ap refusal_of (sym f) ∙ told e

  pub held_shown : {a : Answer} {l : Lamp} → a ≡ look_call p fair label next rule asked → a ≡ Ok l → (Ok tt) ≡ held_outcome p fair label next rule live m
  unfolding refusal_of
  held_shown e f = ap refusal_of (sym f) ∙ told e

-- ---- 9 for what is kept

leb_moves : (a b n : ℕ) → b ≤ n → leb a (n - b) ≡ leb (a + b) n
leb_moves a b n h =
    ⊎_elim (λ (l : n < a + b). rw (lt-leb (a + b) n l, lt-leb a (n - b) (omega arith)) refl) (λ (l : a + b ≤ n). rw (le-leb (a + b) n l, le-leb a (n - b) (omega arith)) refl) (below_or_beyond n (a + b))

module _ (props : ℕ) (r : Radio) where
  pub part_test : {b : Bool} → r.len < 40 → b ≡ kept_ok (width_of props) r → (leb r.start (4294967295 - r.len) && b) ≡ part_fits props r
  unfolding part_fits
  part_test {b} l e = ap₂ (λ (x y : Bool). x && y) (leb_moves r.start r.len longest (omega arith)) e ∙ sym (ap (λ (t : Bool). t && (leb (r.start + r.len) longest && kept_ok (width_of props) r)) (lt-ltb r.len 40 l))

  pub part_none : 40 ≤ r.len → false ≡ part_fits props r
  unfolding part_fits
  part_none l = rw (le-ltb r.len 40 l) refl

-- ---- 11 and 24

module _ (scrap : List ℕ) (room taken : ℕ) {n : ℕ} (lines : n ≡ lines_in scrap) where
  pub room_short : {x : Refusal} → room < n → x ≡ refused_at Room 0 → Err x ≡ room_outcome scrap room taken
  unfolding room_outcome
  room_short l e = rw (← lines, lt-leb n room l, e) refl

  pub room_long : {x : Refusal} → n ≤ room → taken ≤ 4294967295 → 4294967295 - taken < length scrap → x ≡ refused_at LogLength 0 → Err x ≡ room_outcome scrap room taken
  unfolding room_outcome
  room_long l t m e = rw (← lines, le-leb n room l, lt-leb (taken + length scrap) longest (omega arith), e) refl

  pub room_fits : n ≤ room → taken ≤ 4294967295 → length scrap ≤ 4294967295 - taken → (Ok tt) ≡ room_outcome scrap room taken
  unfolding room_outcome
  room_fits l t m = rw (← lines, le-leb n room l, le-leb (taken + length scrap) longest (omega arith)) refl

-- ---- all of them

module _ (p : Plant) (fair label next : List ℕ) (rule : Rule) (live : Pairs) (r : Radio) where
  module _ {o : Outcome} (e : o ≡ held_outcome p fair label next rule live r.monitor) where
    pub kept_held : {x : Refusal} → o ≡ Err x → Err x ≡ kept_outcome p fair label next rule live r
    unfolding kept_outcome
    kept_held f = ap (λ (o : Outcome). and_then o (and_then (unless (part_fits p.props r) Value) r.standing)) (sym f ∙ e)

    module _ {t : Bool} (u : t ≡ part_fits p.props r) (f : o ≡ Ok tt) where
      by_part : {b : Bool} → t ≡ b → and_then (unless b Value) r.standing ≡ kept_outcome p fair label next rule live r
      unfolding kept_outcome
      by_part g = ap₂ (λ (o : Outcome) (b : Bool). and_then o (and_then (unless b Value) r.standing)) (sym f ∙ e) (sym g ∙ u)

      pub kept_stands : t ≡ true → r.standing ≡ kept_outcome p fair label next rule live r
      kept_stands g = by_part g

      pub kept_not : {x : Refusal} → t ≡ false → x ≡ refused_at Value 0 → Err x ≡ kept_outcome p fair label next rule live r
      kept_not g place = ap Err place ∙ by_part g

  -- accepted: the table, the rule, the live set and the radio are what the loop asks for
  module _ (ok : kept_outcome p fair label next rule live r ≡ Ok tt) where
    parts : (held_outcome p fair label next rule live r.monitor ≡ Ok tt) × (So (part_fits p.props r) × (r.standing ≡ Ok tt))
    unfolding kept_outcome
    parts =
        let (a, b) = (chain_accepts (held_outcome p fair label next rule live r.monitor) _).0 ok in
        let (c, d) = (chain_accepts (unless (part_fits p.props r) Value) r.standing).0 b in
        (a, ((unless_accepts (part_fits p.props r) Value).0 c, d))

    fits : (r.len < 40) × ((r.start + r.len ≤ 4294967295) × (kept_ok (width_of p.props) r ≡ true))
    unfolding part_fits
    fits =
        let (a, b) = (and_says (ltb r.len 40) (leb (r.start + r.len) longest && kept_ok (width_of p.props) r)).0 parts.1.0 in
        let (c, d) = (and_says (leb (r.start + r.len) longest) (kept_ok (width_of p.props) r)).0 b in
        (ltb-true r.len 40 a, (leb-true (r.start + r.len) longest c, d))

    pub few_taken : r.start + r.len ≤ 4294967295
    few_taken = fits.1.0

    pub fitting : Fitting p fair label next rule live r.monitor
    unfolding held_outcome
    fitting =
        let T = table p fair label next rule in
        let f = formula p fair label next rule in
        let m = r.monitor in
        let (input, sets) = (chain_accepts _ (unless (pairs_ok T f live.words && monitor_fits p fair label next rule m) Value)).0 parts.0 in
        let (l, rest) = (and_says (pairs_ok T f live.words) (monitor_fits p fair label next rule m)).0 ((unless_accepts _ Value).0 sets) in
        let (k, others) = (and_says (pairs_ok T f m.keeps.words) (pairs_ok T f m.breaks.words && leb m.expected (2 ^ 32))).0 rest in
        let (b, low) = (and_says (pairs_ok T f m.breaks.words) (leb m.expected (2 ^ 32))).0 others in
        record {
          input = input;
          lives = (pairs_says T f live.words).0 l;
          held = record { sets = side ((pairs_says T f m.keeps.words).0 k) ((pairs_says T f m.breaks.words).0 b); low = leb-true m.expected (2 ^ 32) low };
        }
      where
        side : PairSet (table p fair label next rule) (formula p fair label next rule) r.monitor.keeps.words → PairSet (table p fair label next rule) (formula p fair label next rule) r.monitor.breaks.words
            → (b : Bool) → PairSet (table p fair label next rule) (formula p fair label next rule) (model.side (model_of r.monitor) b)
        side k b true = k
        side k b false = b

    pub fit : length r.part ≡ 40 → (scrap : List ℕ) (room : ℕ) → room_outcome scrap room (r.start + r.len) ≡ Ok tt → Fit (width_of p.props) r (length scrap)
    unfolding room_outcome
    fit full scrap room e =
        let (a, b) = (chain_accepts (unless (leb (lines_in scrap) room) Room) (unless (leb (r.start + r.len + length scrap) longest) LogLength)).0 e in
        let few = leb-true (r.start + r.len + length scrap) longest ((unless_accepts _ LogLength).0 b) in
        record { room = omega (arith, fits.0); long = full; keep = ok_kept (width_of p.props) r fits.1.1; low = omega arith }

  -- the checks of a scrap
  module _ (scrap : List ℕ) (room : ℕ) where
    pub take_refused : {o : Outcome} {x : Refusal} → o ≡ kept_outcome p fair label next rule live r → o ≡ Err x → Err x ≡ take_outcome p fair label next rule live r scrap room
    unfolding take_outcome
    take_refused e f = ap (λ (o : Outcome). and_then o (room_outcome scrap room (r.start + r.len))) (sym f ∙ e)

    pub take_passes : {o z : Outcome} → o ≡ kept_outcome p fair label next rule live r → o ≡ Ok tt → z ≡ room_outcome scrap room (r.start + r.len) → z ≡ take_outcome p fair label next rule live r scrap room
    unfolding take_outcome
    take_passes e f g = g ∙ ap (λ (o : Outcome). and_then o (room_outcome scrap room (r.start + r.len))) (sym f ∙ e)

    pub take_parts : take_outcome p fair label next rule live r scrap room ≡ Ok tt → (kept_outcome p fair label next rule live r ≡ Ok tt) × (room_outcome scrap room (r.start + r.len) ≡ Ok tt)
    unfolding take_outcome
    take_parts e = (chain_accepts (kept_outcome p fair label next rule live r) (room_outcome scrap room (r.start + r.len))).0 e

    -- what is answered
    pub took_none : {o : Outcome} {x : Refusal} → o ≡ take_outcome p fair label next rule live r scrap room → o ≡ Err x
        → record { taken = record { answer = Logs.Refused x; radio = r }; verdicts = [] } ≡ take_call p fair label next rule live r scrap room
    unfolding take_call
    took_none e f = ap (λ (o : Outcome). took_by o r (hear_all (width_of p.props) (step_call p fair label next rule live) (heard_by r []) scrap)) (sym f ∙ e)

    pub took_some : {o : Outcome} → o ≡ take_outcome p fair label next rule live r scrap room → o ≡ Ok tt → {before now : List ℕ} {w : Went}
        → Listened (hear_all (width_of p.props) (step_call p fair label next rule live) (heard_by r []) scrap) before now w → {a : LogAnswer} → a ≡ heard_answer w.radio.standing w.done
        → (record { answer = a; radio = w.radio } ≡ (take_call p fair label next rule live r scrap room).taken) × (now ≡ laid (take_call p fair label next rule live r scrap room).verdicts before)
    unfolding take_call radio_of
    took_some {o} e f {before} {now} {w} h {a} is =
        let heard = hear_all (width_of p.props) (step_call p fair label next rule live) (heard_by r []) scrap in
        let by : took_by (Ok tt) r heard ≡ took_by (take_outcome p fair label next rule live r scrap room) r heard = ap (λ (o : Outcome). took_by o r heard) (sym f ∙ e) in
        (ap (λ (a : LogAnswer). record { answer = a; radio = w.radio }) is ∙ ap₂ (λ (x : Radio) (n : ℕ). record { answer = heard_answer x.standing n; radio = x }) h.radio h.done ∙ ap (λ (t : Took). t.taken) by, h.bytes ∙ ap (λ (t : Took). laid t.verdicts before) by)

  -- the end
  pub end_refused : {o : Outcome} {x : Refusal} → o ≡ kept_outcome p fair label next rule live r → o ≡ Err x → Err x ≡ finish_call p fair label next rule live r
  unfolding finish_call
  end_refused e f = ap (λ (o : Outcome). and_then o (end_outcome r)) (sym f ∙ e)

  pub end_whole : {o : Outcome} → o ≡ kept_outcome p fair label next rule live r → o ≡ Ok tt → r.len ≡ 0 → (Ok tt) ≡ finish_call p fair label next rule live r
  unfolding finish_call
  end_whole e f g = sym (ap (λ (t : Bool). cond t (Ok tt) (Err (refused_at LogText (r.start + r.len)))) (eq-eqb r.len 0 g)) ∙ ap (λ (o : Outcome). and_then o (end_outcome r)) (sym f ∙ e)

  pub end_part : {o : Outcome} {x : Refusal} → o ≡ kept_outcome p fair label next rule live r → o ≡ Ok tt → (r.len ≡ 0 → ⊥) → x ≡ refused_at LogText (r.start + r.len) → Err x ≡ finish_call p fair label next rule live r
  unfolding finish_call
  end_part e f g place = ap Err place ∙ sym (ap (λ (t : Bool). cond t (Ok tt) (Err (refused_at LogText (r.start + r.len)))) (ne_eqb r.len 0 g)) ∙ ap (λ (o : Outcome). and_then o (end_outcome r)) (sym f ∙ e)
