-- No scrap is refused for itself where its buffer has room for its verdicts, the log is not too long, and the table, the rule, the live set and the monitor fit. So a radio stays sound.
use Prim.{tt}
use Prim.Native.Nat.{ℕ, ◌+◌, ◌^◌, ◌≤◌, zero-le}
use Rattle.std.proofs.Common.{arith, sym, ◌∙◌}
use Rattle.std.specs.Prelude.{◌≡◌, Bool, true, false, cond, ◌&&◌, ltb, eqb, Ok, Err}
use Rattle.std.proofs.Math.Path.{refl, ap, ap₂, subst}
use mathlib.Core.List.{List, [], ◌∷◌, ◌++◌}
use borrow.Author.Tests.{lt-ltb, le-leb}
use Rattle.std.proofs.Math.Dec.{leb}
use Rattle.std.proofs.Math.ListN.{length, length-append}
use Rattle.words.specs.Truth.{and_says}
use Rattle.pairs.specs.declared.Pairs.{Pairs}
use Rattle.model.specs.Sets.{PairSet}
use Rattle.model.specs.Checks.{pairs_ok, pairs_says}
use Rattle.answers.specs.declared.Kind.TheVariants.{Value, LogText}
use Rattle.answers.specs.Results.{Answer}
use Rattle.answers.specs.Results.{Outcome}
use Rattle.answers.specs.Chain.{refused_none, and_then, unless, chain_accepts, unless_accepts}
use Rattle.answers.specs.Paper.{refused_at}
use Rattle.plant.specs.declared.Plant.{Plant}
use Rattle.syntax.specs.declared.Rule.{Rule}
use Rattle.text.specs.Number.{width_of, width_between}
use Rattle.event_log.specs.declared.Event.{Event}
use Rattle.event_log.specs.Line.{line_fixed}
use Rattle.event_log.specs.Read.{is_numbered, bytes_in, event_at}
use Rattle.checks.specs.Checks.{input_outcome}
use Rattle.checks.specs.Input.{input_accepted}
use Rattle.sides.specs.declared.Monitor.{Monitor}
use Rattle.monitor.specs.declared.Watched.{Watched}
use Rattle.monitor.specs.Calls.{table, formula, monitor_fits, step_call}
use Rattle.watching.specs.Watching.{T, f, Held}
use Rattle.radio.specs.declared.Radio.{Radio}
use Rattle.radio.specs.Radio.{Heard, good_of, begins, stopped, kept, answered, byte_heard, hear, hear_all}
use Rattle.radio.specs.Kept.{part_of, ear_of, radio_of, heard_by, kept_ok}
use Rattle.radio.specs.Laws.{padded_none}
use Rattle.radio.proofs.Turning.{line_few}
use Rattle.radio.proofs.Ending.{all_fine}
use Rattle.scraps.specs.Calls.{longest, lines_in, part_fits, room_outcome, took_by, held_outcome, kept_outcome, take_outcome, take_call, finish_call}
use Rattle.cuttings.specs.Cut.{Sound, sound_all}
use Rattle.cuttings.specs.Scraps.{Scrap, ear_back, Fine, radio_after, AllFine, text}
use Rattle.scraps_right.specs.Claims.{fresh, Roomy}
use Rattle.scraps_right.specs.Texts.{end_of}

and_accepted : (o : Outcome) → and_then o (Ok tt) ≡ o
and_accepted (Ok _) = refl
and_accepted (Err r) = refl

-- ---- how many bytes came

-- where nothing was refused, the bytes kept end where the log does
module _ (w : ℕ) (step : Monitor → Event → Watched) where
  Exact : ℕ → Heard → Type 0
  Exact n h = h.ear.standing ≡ Ok tt → h.ear.start + length h.ear.part ≡ n

  exact_answered : (n : ℕ) (h : Heard) (q : List ℕ) → h.ear.start + length q ≡ n → (s : Watched) (a : Answer) → Exact n (answered h q s a)
  unfolding Exact
  exact_answered n h q long s (Ok l) = λ _. omega (arith, long)
  exact_answered n h q long s (Err r) = λ e. refused_none e

  exact_byte : (n : ℕ) (h : Heard) → Exact n h → (b : ℕ) → Exact (n + 1) (hear w step h b)
  unfolding hear Exact
  exact_byte n h exact b = by h.ear.standing refl
    where
      q : List ℕ
      q = h.ear.part ++ b ∷ []

      s : Watched
      s = step h.ear.monitor (event_at w (h.ear.part ++ b ∷ []) 0)

      long : h.ear.standing ≡ Ok tt → h.ear.start + length (h.ear.part ++ b ∷ []) ≡ n + 1
      long e = omega (arith, exact e, length-append h.ear.part (b ∷ []))

      pick : h.ear.standing ≡ Ok tt → (t u : Bool) → Exact (n + 1) (cond t (cond u (kept h q) (answered h q s s.answer)) (stopped h (refused_at LogText (h.ear.start + length h.ear.part))))
      pick e true true = λ _. long e
      pick e true false = exact_answered (n + 1) h q (long e) s s.answer
      pick e false u = λ f. refused_none f

      by : (o : Outcome) → h.ear.standing ≡ o → Exact (n + 1) (byte_heard w step o h b)
      by (Ok _) e = pick e (begins w h.ear.form q) (ltb (length q) (bytes_in w q))
      by (Err r) e = λ f. refused_none (sym e ∙ f)

  exact_all : (s : List ℕ) (n : ℕ) (h : Heard) → Exact n h → Exact (n + length s) (hear_all w step h s)
  unfolding Exact
  exact_all [] n h exact = λ e. omega (arith, exact e)
  exact_all (b ∷ s) n h exact = λ e. omega (arith, exact_all s (n + 1) (hear w step h b) (exact_byte n h exact b) e)

  pub exact_fresh : (s : List ℕ) (m : Monitor) → (hear_all w step (heard_by (fresh m) []) s).ear.standing ≡ Ok tt
      → (hear_all w step (heard_by (fresh m) []) s).ear.start + length (hear_all w step (heard_by (fresh m) []) s).ear.part ≡ length s
  unfolding Exact
  exact_fresh s m e = omega (arith, exact_all s 0 (heard_by (fresh m) []) (λ _. refl) e)

module _ (p : Plant) (fair label next : List ℕ) (rule : Rule) (live : Pairs) where
  abbrev w : ℕ
  w = width_of p.props

  abbrev step : Monitor → Event → Watched
  step = step_call p fair label next rule live

  -- what is kept can be read back and begins a line, behind at most n bytes, and the monitor is of the table and the rule
  pub record Good (n : ℕ) (r : Radio) : Type 0 where
    pub sound : Sound (width_of p.props) (step_call p fair label next rule live) n (ear_of r)
    pub clean : r ≡ radio_of (ear_of r)
    pub held : Held p fair label next rule r.monitor

  pub good_fresh : (m : Monitor) → Held p fair label next rule m → Good 0 (fresh m)
  unfolding radio_of
  good_fresh m held = record {
    sound = record { keep = record { short = (line_fixed (is_numbered []) w).some; begun = zero-le }; low = zero-le };
    clean = ap (λ (part : List ℕ). record { part = part; len = 0; start = 0; form = (fresh m).form; standing = Ok tt; monitor = m }) (sym padded_none);
    held = held;
  }

  -- ---- the checks pass

  module _ {n : ℕ} {r : Radio} (good : Good n r) where
    pub many_kept : r.len ≡ length (part_of r)
    unfolding radio_of
    many_kept = ap (λ (x : Radio). x.len) good.clean

    part_fine : n ≤ longest → part_fits p.props r ≡ true
    unfolding part_fits kept_ok
    part_fine few =
        let keep = good.sound.keep in
        (and_says (ltb r.len 40) (leb (r.start + r.len) longest && kept_ok w r)).1 (
          lt-ltb r.len 40 (omega (arith, many_kept, keep.short, line_few w (part_of r) (width_between p.props).1)),
          (and_says (leb (r.start + r.len) longest) (kept_ok w r)).1 (
            le-leb (r.start + r.len) longest (omega (arith, many_kept, good.sound.low)),
            (and_says (ltb (length (part_of r)) (bytes_in w (part_of r))) (leb (length (part_of r)) (good_of w r.form (part_of r)))).1
                (lt-ltb _ _ keep.short, le-leb _ _ keep.begun),
          ),
        )

    module _ (input : input_outcome p fair label next rule ≡ Ok tt) (lives : PairSet (T p fair label next rule) (f p fair label next rule) live.words) where
      held_fine : held_outcome p fair label next rule live r.monitor ≡ Ok tt
      unfolding held_outcome
      held_fine =
          let t = table p fair label next rule in
          let g = formula p fair label next rule in
          let m = r.monitor in
          (chain_accepts (input_outcome p fair label next rule) (unless (pairs_ok t g live.words && monitor_fits p fair label next rule m) Value)).1 (
            input,
            (unless_accepts (pairs_ok t g live.words && monitor_fits p fair label next rule m) Value).1
                ((and_says (pairs_ok t g live.words) (monitor_fits p fair label next rule m)).1 (
                  (pairs_says t g live.words).1 lives,
                  (and_says (pairs_ok t g m.keeps.words) (pairs_ok t g m.breaks.words && leb m.expected (2 ^ 32))).1 (
                    (pairs_says t g m.keeps.words).1 (good.held.sets true),
                    (and_says (pairs_ok t g m.breaks.words) (leb m.expected (2 ^ 32))).1
                        ((pairs_says t g m.breaks.words).1 (good.held.sets false), le-leb m.expected (2 ^ 32) good.held.low),
                  ),
                )),
          )

      pub kept_fine : n ≤ longest → kept_outcome p fair label next rule live r ≡ r.standing
      unfolding kept_outcome
      kept_fine few = ap₂ (λ (o : Outcome) (b : Bool). and_then o (and_then (unless b Value) r.standing)) held_fine (part_fine few)

      -- a scrap is not refused for itself
      pub take_fine : (s : Scrap) → n + length s.bytes ≤ longest → lines_in s.bytes ≤ s.room → Fine p fair label next rule live r s
      unfolding take_outcome room_outcome Fine
      take_fine s few room =
          rw (kept_fine (omega arith), le-leb (lines_in s.bytes) s.room room, le-leb (r.start + r.len + length s.bytes) longest (omega (arith, many_kept, good.sound.low)))
          (and_accepted r.standing)

      -- and the end says what stands, and what is kept
      pub end_fine : n ≤ longest → finish_call p fair label next rule live r ≡ and_then r.standing (end_of (ear_of r))
      unfolding finish_call
      end_fine few = ap₂ (λ (o : Outcome) (k : ℕ). and_then o (cond (eqb k 0) (Ok tt) (Err (refused_at LogText (r.start + k))))) (kept_fine few) many_kept

  -- ---- scrap after scrap

  module _ (full : length rule.nodes ≡ 32) (input : input_outcome p fair label next rule ≡ Ok tt) (lives : PairSet (T p fair label next rule) (f p fair label next rule) live.words) where
    next_good : {n : ℕ} {r : Radio} → Good n r → (s : Scrap) → Fine p fair label next rule live r s → Good (n + length s.bytes) (take_call p fair label next rule live r s.bytes s.room).taken.radio
    unfolding take_call radio_of Fine
    next_good {n} {r} good s fine = go (take_outcome p fair label next rule live r s.bytes s.room)
      where
        h : Heard
        h = hear_all w step (heard_by r []) s.bytes

        go : (o : Outcome) → Good (n + length s.bytes) (took_by o r (hear_all w step (heard_by r []) s.bytes)).taken.radio
        go (Ok _) =
            let sound = sound_all w step s.bytes n (heard_by r []) good.sound in
            let back : ear_of (radio_of h.ear) ≡ h.ear = ear_back w step (width_between p.props).1 (n + length s.bytes) h.ear sound in
            record {
              sound = subst (Sound w step (n + length s.bytes)) (sym back) sound;
              clean = ap radio_of (sym back);
              held = all_fine p fair label next rule ((input_accepted p fair label next rule full).0 input) live lives w s.bytes (heard_by r []) good.held;
            }
        go (Err x) = record { sound = record { keep = good.sound.keep; low = omega (arith, good.sound.low) }; clean = good.clean; held = good.held }

    pub all_good : (ss : List Scrap) {n : ℕ} {r : Radio} → Good n r → Roomy ss → n + length (text ss) ≤ longest
        → AllFine p fair label next rule live r ss × Good (n + length (text ss)) (radio_after p fair label next rule live r ss)
    unfolding AllFine radio_after text
    all_good [] {n} {r} good room few = (tt, subst (λ (k : ℕ). Good k r) (omega arith) good)
    all_good (s ∷ ss) {n} {r} good room few =
        let rest = text ss in
        let long = length-append s.bytes rest in
        let fine = take_fine good input lives s (omega (arith, long)) room.0 in
        let (others, last) = all_good ss (next_good good s fine) room.1 (omega (arith, long)) in
        ((fine, others), subst (λ (k : ℕ). Good k (radio_after p fair label next rule live (take_call p fair label next rule live r s.bytes s.room).taken.radio ss)) (omega (arith, long)) last)
