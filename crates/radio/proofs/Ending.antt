-- The end of a line as the code does it; and by what a rule says, which was worked out, a scrap is heard as by the calls.
use Prim.Native.Nat.{ℕ, ◌+◌}
use Rattle.std.proofs.Common.{arith, sym, ap₂, ◌∙◌}
use Rattle.std.specs.Prelude.{◌≡◌, refl, Bool, true, false, cond, ltb, length, take, replicate, Ok, Err}
use Rattle.std.proofs.Math.Path.{ap, subst}
use mathlib.Core.List.{List, [], ◌∷◌, ◌++◌}
use Rattle.pairs.specs.declared.Pairs.{Pairs}
use Rattle.model.specs.Sets.{PairSet}
use Rattle.answers.specs.declared.Kind.TheVariants.{LogText}
use Rattle.answers.specs.declared.Lamp.{Lamp}
use Rattle.answers.specs.declared.Refusal.{Refusal}
use Rattle.answers.specs.Results.{Answer}
use Rattle.answers.specs.Results.{Outcome}
use Rattle.answers.specs.Paper.{number_of, refused_at}
use Rattle.plant.specs.declared.Plant.{Plant}
use Rattle.syntax.specs.declared.Rule.{Rule}
use Rattle.text.specs.Number.{width_of}
use Rattle.event_log.specs.declared.Event.{Event}
use Rattle.event_log.specs.Read.{is_numbered, bytes_in, event_at}
use Rattle.checks.specs.Input.{Input, input_accepted}
use Rattle.ways.specs.declared.Ways.{Ways}
use Rattle.ways.specs.Ways.{ways_of}
use Rattle.sides.specs.declared.Monitor.{Monitor}
use Rattle.sides.specs.Held.{model_of, lamp_in}
use Rattle.event_numbers.specs.Numbers.{event_outcome}
use Rattle.sides.specs.Sides.{taken_in}
use Rattle.monitor.specs.declared.Watched.{Watched}
use Rattle.monitor.specs.Calls.{step_call}
use Rattle.watching.specs.Watching.{T, f, Held, stays_held}
use Rattle.course.specs.Course.{turn_of, turn, Fitting}
use Rattle.course.proofs.CourseRight.{turn_is}
use Rattle.radio.specs.declared.Form.{Form}
use Rattle.std.specs.Prelude.{None, Some}
use Rattle.radio.specs.declared.Radio.{Radio}
use Rattle.radio.specs.declared.Went.{Went}
use Rattle.radio.specs.declared.ends.Turned.{Turned}
use Rattle.radio.specs.Radio.{Ear, Heard, form_of, begins, stopped, kept, answered, byte_heard, hear, hear_all}
use Rattle.radio.specs.Kept.{padded, part_of, ear_of, radio_of, heard_by, Fit, stopped_radio, ways_by, turn_by, answered_turn, ended_turn, Listened}
use Rattle.radio.specs.Laws.{padded_long, padded_back}
use Rattle.radio.proofs.Turning.{part_long}

-- ---- the event of a whole line

module _ (p : Plant) (label next leave enter holds : List ℕ) (count : ℕ) (live : List ℕ) (r : Radio) (q : List ℕ) {e : Event} (line : e ≡ event_at (width_of p.props) q 0)
    {o : Outcome} (told : o ≡ event_outcome e p.props r.monitor.seen r.monitor.expected) where
  abbrev w : ℕ
  w = width_of p.props

  abbrev step : Monitor → Event → Watched
  step = turn_by p label next leave enter holds count live

  abbrev new : Event → Monitor
  new e = taken_in label next (ways_by leave enter holds count) live r.monitor e

  abbrev by : Outcome → Event → Turned
  by o e = answered_turn w step r q (turn_of o r.monitor (new e)) (turn_of o r.monitor (new e)).answer

  ends_by : {x : Outcome} → o ≡ x → by x e ≡ ended_turn w step r q
  unfolding ended_turn
  ends_by is = ap (λ (x : Outcome). by x e) (sym is ∙ told) ∙ ap (λ (e : Event). by (event_outcome e p.props r.monitor.seen r.monitor.expected) e) line

  pub end_refused : {x y : Refusal} → o ≡ Err x → y ≡ refused_at x.kind r.start → {z : Radio} → z ≡ stopped_radio r y
      → record { radio = z; lit = None } ≡ ended_turn (width_of p.props) (turn_by p label next leave enter holds count live) r q
  end_refused is place stops = ap (λ (z : Radio). record { radio = z; lit = None }) (stops ∙ ap (stopped_radio r) place) ∙ ends_by is

  pub end_taken : o ≡ Ok tt → {now : Monitor} → now ≡ taken_in label next (ways_by leave enter holds count) live r.monitor e → {shown : Lamp} → shown ≡ lamp_in (model_of now)
      → {v : ℕ} → v ≡ number_of shown.verdict → {form : Form} → form ≡ form_of (is_numbered q)
      → record { radio = record { part = replicate 40 0; len = 0; start = r.start + length q; form = form; standing = Ok tt; monitor = now }; lit = Some v }
      ≡ ended_turn (width_of p.props) (turn_by p label next leave enter holds count live) r q
  end_taken is {now} moves {shown} shows {v} value {form} formed =
      ap₂ (λ (f : Form) (v : ℕ). behind f v now) formed (value ∙ ap (λ (l : Lamp). number_of l.verdict) shows)
      ∙ ap (λ (m : Monitor). behind (form_of (is_numbered q)) (number_of (lamp_in (model_of m)).verdict) m) moves ∙ ends_by is
    where
      behind : Form → ℕ → Monitor → Turned
      behind form v m = record { radio = record { part = replicate 40 0; len = 0; start = r.start + length q; form = form; standing = Ok tt; monitor = m }; lit = Some v }

-- ---- as by the calls

module _ (p : Plant) (fair label next : List ℕ) (rule : Rule) (given : Input p fair label next rule) (live : Pairs)
    (fits : PairSet (T p fair label next rule) (f p fair label next rule) live.words) (w : ℕ) where
  abbrev calls : Monitor → Event → Watched
  calls = step_call p fair label next rule live

  abbrev turns : Monitor → Event → Watched
  turns = turn p label next (ways_of label rule) live

  abbrev Fine : Heard → Type 0
  Fine h = Held p fair label next rule h.ear.monitor

  -- the monitor stays one of the table and the rule
  answered_fine : (h : Heard) → Fine h → (q : List ℕ) (s : Watched) → Held p fair label next rule s.monitor → (a : Answer) → Fine (answered h q s a)
  answered_fine h fine q s held (Ok l) = held
  answered_fine h fine q s held (Err x) = fine

  byte_fine : (h : Heard) → Fine h → (b : ℕ) → Fine (hear w calls h b)
  unfolding hear
  byte_fine h fine b = by h.ear.standing
    where
      q : List ℕ
      q = h.ear.part ++ b ∷ []

      s : Watched
      s = calls h.ear.monitor (event_at w (h.ear.part ++ b ∷ []) 0)

      pick : (t u : Bool) → Fine (cond t (cond u (kept h q) (answered h q s s.answer)) (stopped h (refused_at LogText (h.ear.start + length h.ear.part))))
      pick true true = fine
      pick true false = answered_fine h fine q s (stays_held p fair label next rule given live fits h.ear.monitor fine (event_at w q 0)) s.answer
      pick false u = fine

      by : (o : Outcome) → Fine (byte_heard w calls o h b)
      by (Ok _) = pick (begins w h.ear.form q) (ltb (length q) (bytes_in w q))
      by (Err x) = fine

  byte_called : (h : Heard) → Fine h → (b : ℕ) → hear w turns h b ≡ hear w calls h b
  unfolding hear
  byte_called h fine b = by h.ear.standing
    where
      q : List ℕ
      q = h.ear.part ++ b ∷ []

      by : (o : Outcome) → byte_heard w turns o h b ≡ byte_heard w calls o h b
      by (Ok _) =
          ap (λ (s : Watched). cond (begins w h.ear.form q) (cond (ltb (length q) (bytes_in w q)) (kept h q) (answered h q s s.answer)) (stopped h (refused_at LogText (h.ear.start + length h.ear.part))))
          (turn_is p fair label next rule given live fits h.ear.monitor fine (event_at w q 0))
      by (Err x) = refl

  pub all_called : (s : List ℕ) (h : Heard) → Held p fair label next rule h.ear.monitor → hear_all w (turn p label next (ways_of label rule) live) h s ≡ hear_all w (step_call p fair label next rule live) h s
  all_called [] h fine = refl
  all_called (b ∷ s) h fine = ap (λ (g : Heard). hear_all w turns g s) (byte_called h fine b) ∙ all_called s (hear w calls h b) (byte_fine h fine b)

  pub all_fine : (s : List ℕ) (h : Heard) → Held p fair label next rule h.ear.monitor → Held p fair label next rule (hear_all w (step_call p fair label next rule live) h s).ear.monitor
  all_fine [] h fine = fine
  all_fine (b ∷ s) h fine = all_fine s (hear w calls h b) (byte_fine h fine b)

-- ---- the radio with zeros behind the bytes kept

module _ (w : ℕ) {r c : Radio} {n : ℕ} (fit : Fit w r n) (is : c ≡ radio_of (ear_of r)) where
  clean_part : take (length (part_of r)) (padded (part_of r)) ≡ part_of r
  clean_part = padded_back (part_of r) (omega (arith, part_long w fit, fit.room))

  pub clean_ear : ear_of c ≡ ear_of r
  unfolding radio_of
  clean_ear = ap ear_of is ∙ ap (λ (p : List ℕ). record { part = p; start = r.start; form = r.form; standing = r.standing; monitor = r.monitor }) clean_part

  pub clean_clean : c ≡ radio_of (ear_of c)
  clean_clean = is ∙ ap radio_of (sym clean_ear)

  pub clean_fit : Fit w c n
  unfolding radio_of
  clean_fit = subst (λ (x : Radio). Fit w x n) (sym is) (record {
    room = omega (arith, part_long w fit, fit.room);
    long = padded_long (part_of r);
    keep = rw clean_part fit.keep;
    low = omega (arith, part_long w fit, fit.low);
  })

-- ---- for code: by what the rule says, which was worked out

module _ (p : Plant) (fair label next : List ℕ) (rule : Rule) (full : length rule.nodes ≡ 32) {live : Pairs} (r : Radio) (g : Fitting p fair label next rule live r.monitor) where
  pub listened : {ways : Ways} → ways ≡ ways_of label rule → (width : ℕ) (c : Radio) → ear_of c ≡ ear_of r → (scrap : List ℕ) {before now : List ℕ} {x : Went}
      → Listened (hear_all width (turn p label next ways live) (heard_by c []) scrap) before now x → Listened (hear_all width (step_call p fair label next rule live) (heard_by r []) scrap) before now x
  listened {ways} e width c same scrap {before} {now} {x} h =
      subst (λ (h : Heard). Listened h before now x)
      (ap₂ (λ (ways : Ways) (ear : Ear). hear_all width (turn p label next ways live) (record { ear = ear; verdicts = [] }) scrap) e same
      ∙ all_called p fair label next rule ((input_accepted p fair label next rule full).0 g.input) live g.lives width scrap (heard_by r []) g.held) h
