-- No verdict is lost: an event is answered by the LF that ends its line, so a scrap gives no more verdicts than it has LFs.
use Prim.Native.Nat.{ℕ, ◌+◌, ◌≤◌, ◌<◌, zero-le}
use native.Mathlib.Omega.{arith}
use Rattle.std.specs.Prelude.{◌≡◌, refl, Bool, true, false, cond, ltb, leb, length, drop, get_or, Ok, Err}
use Rattle.std.proofs.Common.{sym, ap, subst, ◌∙◌, ⊎_elim, lt-ltb, leb-true, length-append, drop_at}
use Rattle.std.proofs.lemmas.Bool.{false≢true}
use mathlib.Core.List.{List, [], ◌∷◌, ◌++◌, append_assoc}
use Rattle.std.proofs.Math.Dec.{eqb}
use Rattle.words.specs.Word.{digit}
use Rattle.words.specs.Folds.{count_first}
use Rattle.pairs.specs.declared.Pairs.{Pairs}
use Rattle.answers.specs.declared.Kind.TheVariants.{LogText, Room, LogLength}
use Rattle.answers.specs.Results.{Answer}
use Rattle.answers.specs.Results.{Outcome}
use Rattle.answers.specs.Chain.{unless, chain_accepts, unless_accepts}
use Rattle.answers.specs.Paper.{number_of, refused_at}
use Rattle.plant.specs.declared.Plant.{Plant}
use Rattle.syntax.specs.declared.Rule.{Rule}
use Rattle.text.specs.Cases.{below_or_beyond}
use Rattle.text.specs.Slot.{Slot, exactly, word, admits, matched}
use Rattle.text.specs.Matched.{matched_slots, matched_both, first_admits}
use Rattle.text.specs.Number.{width_of, hex_slots, count_slots, next_of, last_of}
use Rattle.text.specs.Form.{led, both, seen}
use Rattle.text.specs.Hex.{hex}
use Rattle.text.specs.Count.{counted}
use Rattle.text.specs.Promises.{fit_of}
use Rattle.event_log.specs.declared.Event.{Event}
use Rattle.event_log.specs.Lead.{num_slots, leading}
use Rattle.event_log.specs.Line.{see_key, val_key, new_key, line, line_fixed}
use Rattle.event_log.specs.Read.{is_numbered, bytes_in, event_at}
use Rattle.sides.specs.declared.Monitor.{Monitor}
use Rattle.monitor.specs.declared.Watched.{Watched}
use Rattle.monitor.specs.Calls.{step_call}
use Rattle.course.specs.Laid.{laid_over}
use Rattle.radio.specs.declared.Form.{Form}
use Rattle.radio.specs.declared.Radio.{Radio}
use Rattle.radio.specs.Radio.{Heard, agrees, good_of, begins, stopped, kept, answered, byte_heard, hear, hear_all}
use Rattle.radio.specs.Kept.{heard_by}
use Rattle.scraps.specs.Calls.{longest, lines_in, room_outcome, took_by, take_outcome, take_call}
use Rattle.scraps.specs.Laws.{take_parts}
use Rattle.scraps_right.specs.Claims.{AllWritten}

-- ---- a line's last byte

-- slots whose last one is for an LF
abbrev Closed : List Slot → Type 0
Closed ts = (us : List Slot) × (ts ≡ us ++ exactly 10 ∷ [])

behind : (xs ts : List Slot) → Closed ts → Closed (xs ++ ts)
behind xs ts (us, e) = (xs ++ us, ap (λ (l : List Slot). xs ++ l) e ∙ sym (append_assoc xs us (exactly 10 ∷ [])))

flag_closed : (b : Bool) → Closed (count_slots 10 (digit b))
unfolding count_slots next_of last_of
flag_closed true = (_ ∷ [], refl)
flag_closed false = (_ ∷ [], refl)

line_closed : (numbered : Bool) (w : ℕ) (e : Event) → Closed ((line numbered w).slots e)
unfolding leading seen both led hex counted
line_closed numbered w e =
    let new = word new_key ++ count_slots 10 (digit e.new) in
    let val = (word val_key ++ hex_slots w e.val) ++ new in
    behind (num_slots e.num) _ (behind (word see_key ++ hex_slots w e.see) val (behind (word val_key ++ hex_slots w e.val) new (behind (word new_key) (count_slots 10 (digit e.new)) (flag_closed e.new))))

-- the byte that makes a line whole is an LF
ends_line : (w : ℕ) (form : Form) (part : List ℕ) (b : ℕ) → length (part ++ b ∷ []) ≤ good_of w form (part ++ b ∷ []) → bytes_in w (part ++ b ∷ []) ≤ length (part ++ b ∷ []) → eqb b 10 ≡ true
unfolding good_of admits
ends_line w form part b begun full = by (agrees form (is_numbered (part ++ b ∷ []))) begun
  where
    q : List ℕ
    q = part ++ b ∷ []

    long : length (part ++ b ∷ []) ≡ length part + 1
    long = length-append part (b ∷ [])

    by : (t : Bool) → length (part ++ b ∷ []) ≤ cond t (fit_of (line (is_numbered (part ++ b ∷ [])) w) (part ++ b ∷ [])) 0 → eqb b 10 ≡ true
    by false l = absurd (omega (arith, long))
    by true l =
        let F = line (is_numbered q) w in
        let fixed = line_fixed (is_numbered q) w in
        let many : length (F.slots (F.guess q)) ≡ bytes_in w q = fixed.bytes (F.guess q) (fixed.reads.fine q) in
        let (us, e) = line_closed (is_numbered q) w (F.guess q) in
        let all : matched q (us ++ exactly 10 ∷ []) ≡ length (us ++ exactly 10 ∷ []) =
        subst (λ (ts : List Slot). matched q ts ≡ length ts) e (omega (arith, many, matched_slots q (F.slots (F.guess q)))) in
        let last : matched (drop (length us) q) (exactly 10 ∷ []) ≡ 1 = (matched_both q us (exactly 10 ∷ []) all).1 in
        let before : length part ≡ length us = omega (arith, long, many, ap length e, length-append us (exactly 10 ∷ []), matched_slots q (F.slots (F.guess q))) in
        let rest : drop (length us) q ≡ b ∷ [] = drop_at part (b ∷ []) (length us) before in
        (first_admits (b ∷ []) (exactly 10) [] (omega (arith, subst (λ (s : List ℕ). matched s (exactly 10 ∷ []) ≡ 1) rest last))).1

-- ---- as many verdicts as LFs

module _ (w : ℕ) (step : Monitor → Event → Watched) where
  by_answer : (h : Heard) (q : List ℕ) (s : Watched) (a : Answer) → length (answered h q s a).verdicts ≤ length h.verdicts + 1
  by_answer h q s (Ok l) = omega (arith, length-append h.verdicts (number_of l.verdict ∷ []))
  by_answer h q s (Err r) = omega arith

  byte_few : (h : Heard) (b : ℕ) → length (hear w step h b).verdicts ≤ length h.verdicts + digit (eqb b 10)
  unfolding hear
  byte_few h b = by h.ear.standing
    where
      q : List ℕ
      q = h.ear.part ++ b ∷ []

      s : Watched
      s = step h.ear.monitor (event_at w (h.ear.part ++ b ∷ []) 0)

      pick : (t u : Bool) → begins w h.ear.form q ≡ t → ltb (length q) (bytes_in w q) ≡ u
          → length (cond t (cond u (kept h q) (answered h q s s.answer)) (stopped h (refused_at LogText (h.ear.start + length h.ear.part)))).verdicts ≤ length h.verdicts + digit (eqb b 10)
      pick true true e g = omega arith
      pick false u e g = omega arith
      pick true false e g =
          let full : bytes_in w q ≤ length q = ⊎_elim (λ (l : length q < bytes_in w q). absurd (false≢true (sym g ∙ lt-ltb (length q) (bytes_in w q) l))) (λ (l : bytes_in w q ≤ length q). l) (below_or_beyond (length q) (bytes_in w q)) in
          rw (ends_line w h.ear.form h.ear.part b (leb-true (length q) (good_of w h.ear.form q) e) full) (by_answer h q s s.answer)

      by : (o : Outcome) → length (byte_heard w step o h b).verdicts ≤ length h.verdicts + digit (eqb b 10)
      by (Ok _) = pick (begins w h.ear.form q) (ltb (length q) (bytes_in w q)) refl refl
      by (Err r) = omega arith

  all_few : (s : List ℕ) (h : Heard) → length (hear_all w step h s).verdicts ≤ length h.verdicts + lines_in s
  unfolding lines_in
  all_few [] h = omega arith
  all_few (b ∷ s) h = omega (arith, all_few s (hear w step h b), byte_few h b, count_first (length s) (λ i. eqb (get_or (b ∷ s) i 0) 10))

-- ---- THE BUFFER holds them all

pub few_verdicts : (p : Plant) (fair label next : List ℕ) (rule : Rule) (live : Pairs) (r : Radio) (scrap : List ℕ) (room : ℕ) → length (take_call p fair label next rule live r scrap room).verdicts ≤ room
unfolding take_call room_outcome
few_verdicts p fair label next rule live r scrap room = by (take_outcome p fair label next rule live r scrap room) refl
  where
    by : (o : Outcome) → take_outcome p fair label next rule live r scrap room ≡ o → length (took_by o r (hear_all (width_of p.props) (step_call p fair label next rule live) (heard_by r []) scrap)).verdicts ≤ room
    by (Err x) e = zero-le
    by (Ok _) e =
        let (a, b) = (chain_accepts (unless (leb (lines_in scrap) room) Room) (unless (leb (r.start + r.len + length scrap) longest) LogLength)).0 (take_parts p fair label next rule live r scrap room e).1 in
        omega (arith, leb-true (lines_in scrap) room ((unless_accepts _ Room).0 a), all_few (width_of p.props) (step_call p fair label next rule live) scrap (heard_by r []))

pub all_written : AllWritten
all_written p fair label next rule live r scrap before =
    laid_over (take_call p fair label next rule live r scrap (length before)).verdicts before (few_verdicts p fair label next rule live r scrap (length before))
