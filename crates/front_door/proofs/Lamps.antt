-- The lamps of a log, from the opening on: the calls take each event that is legal and has a number in turn, and show a right lamp, up to the first that is not.
use Prim.Native.Nat.{ℕ, zero, suc, ◌+◌, ◌≤◌, ◌<◌}
use Rattle.std.proofs.Common.{arith, sym, ap₂, subst, ◌∙◌, ⊎_elim, length-append, take-suc}
use Rattle.std.specs.Prelude.{◌≡◌, Bool, true, cond, length, take, Ok, Err}
use Rattle.std.proofs.Math.Path.{refl, ap}
use Rattle.std.proofs.Math.Bool.{false}
use Rattle.std.proofs.lemmas.Bool.{false≢true}
use mathlib.Core.List.{List, [], ◌∷◌, ◌++◌, foldl-append}
use Rattle.std.proofs.Math.ListN.{get_or, get_or-append}
use Rattle.std.proofs.lemmas.List.{get_or_at}
use Rattle.words.specs.Tests.{below_cases}
use Rattle.text.specs.Number.{width_of}
use Rattle.text.specs.FirstLine.{first_of}
use Rattle.meaning.specs.Says.{Says}
use Rattle.meaning.specs.Formula.{Formula}
use Rattle.meaning.specs.Run as run
use Rattle.meaning.specs.Event.{since}
use Rattle.meaning.specs.Limits.{Legal}
use Rattle.pairs.specs.declared.Pairs.{Pairs}
use Rattle.model.specs.LiveSet.{live_set}
use Rattle.model.specs.Sets.{PairSet}
use Rattle.model.specs.Monitor as model
use Rattle.answers.specs.declared.Kind.TheVariants.{IllegalEvent, Number as NumberKind}
use Rattle.answers.specs.declared.Refusal.{Refusal}
use Rattle.answers.specs.declared.Lamp.{Lamp}
use Rattle.answers.specs.Results.{Outcome}
use Rattle.answers.specs.Paper.{refused_at}
use Rattle.plant.specs.declared.Plant.{Plant}
use Rattle.syntax.specs.declared.Rule.{Rule}
use Rattle.event_log.specs.declared.Event.{Event}
use Rattle.event_log.specs.Legal.{seen_of, legal_of, legal_exactly}
use Rattle.event_log.specs.Line.{line_bytes}
use Rattle.event_log.specs.Log.{nothing, gives}
use Rattle.event_log.specs.Read.{bytes_in, log_read, whole_lines, event_at}
use Rattle.checks.specs.Input.{Input}
use Rattle.live.specs.Promises.{prepare_accepted}
use Rattle.sides.specs.declared.Monitor.{Monitor}
use Rattle.sides.specs.Held.{model_of, lamp_in}
use Rattle.event_numbers.specs.Numbers.{number_of, in_turn, in_turn_says, event_outcome}
use Rattle.monitor.specs.declared.Watched.{Watched}
use Rattle.monitor.specs.Calls as monitor
use Rattle.monitor.specs.Calls.{open_call, step_call}
use Rattle.watching.specs.Watching as watching
use Rattle.watching.specs.Filled.{expected_from, seen_from, filled, expected_at, number_at, InTurnAt}
use Rattle.watching.specs.Watching.{TakenFrom, AllTaken, after, run_seen, shows, brought, checks_pass, live_fits, open_held, full}
use Rattle.watching.proofs.Watching.{after_model}
use Rattle.course.specs.Course.{Course, takes, number_in, go_on, course_to}
use Rattle.course.proofs.CourseRight.{held_at}
use Rattle.report.specs.Text.{start_text}
use Rattle.lamp_lines.specs.Lines.{dark, lines_text, lines_same}
use Rattle.transcript.specs.Said as said
use Rattle.promises.specs.Demand.{Lit, lamp_right}
use Rattle.front_door.specs.FrontDoor.{LegalAt, TakenAt, RightAfter, Ends, at_end_lem, at_event, at_number, line_of, Shows}

-- a log of w digits is accepted, and says these events
pub record Taken (w : ℕ) (log : List ℕ) (es : List Event) : Type 0 where
  pub accepts : (log_read w log).outcome ≡ Ok tt
  pub events : (k : ℕ) → event_at w log k ≡ get_or es k nothing
  pub many : whole_lines w log ≡ length es
  pub wide : bytes_in w log ≡ line_bytes (first_of gives es) w

module _ (p : Plant) (fair label next : List ℕ) (rule : Rule) (input : Input p fair label next rule) where
  abbrev pub T : run.Plant
  T = watching.T p fair label next rule

  abbrev pub f : Formula
  f = watching.f p fair label next rule

  -- the first n events are accepted
  abbrev pub TakenTo : List Event → ℕ → Type 0
  TakenTo es n = (k : ℕ) → k < n → TakenAt T es k

  -- each lamp is right for the events up to its own
  abbrev pub Lamps : List Event → List Lamp → Type 0
  Lamps es lamps = (n : ℕ) → n < length lamps → RightAfter T f (take (suc n) es) (get_or lamps n dark)

  -- and has its event's number
  abbrev pub Numbers : List Event → List ℕ → Type 0
  Numbers es named = (n : ℕ) → n < length named → get_or named n 0 ≡ number_at es n

  -- the calls with the live set that `prepare` gives
  abbrev pub known : Pairs
  known = watching.live p fair label next rule

  fits : PairSet T f known.words
  fits = live_fits p fair label next rule input

  abbrev pub calls : Monitor → Event → Watched
  calls = step_call p fair label next rule known

  abbrev pub opened : Watched
  opened = open_call p fair label next rule known

  -- the model after some events
  abbrev seen : List Event → model.Monitor
  seen es = model.run_of T f (live_set T f) (filled es)

  abbrev pub watched : List Event → Watched
  watched = after p fair label next rule

  -- the course where no event was refused, and where one was
  abbrev pub standing : List Event → ℕ → List Lamp → List ℕ → Course
  standing es n lamps named = record { went = record { outcome = Ok tt; done = n; monitor = (watched (take n es)).monitor }; lamps = lamps; numbers = named }

  abbrev pub halted : Refusal → ℕ → Monitor → List Lamp → List ℕ → Course
  halted r k m lamps named = record { went = record { outcome = Err r; done = k; monitor = m }; lamps = lamps; numbers = named }

  one_more : (es : List Event) (n : ℕ) → n < length es → watched (take (suc n) es) ≡ calls (watched (take n es)).monitor (get_or es n nothing)
  unfolding after
  one_more es n l = rw (take-suc es n nothing l) (foldl-append _ _ (take n es) (get_or es n nothing ∷ []))

  -- event by event, from any number on
  all_from : (s : Bool) (x : ℕ) (es : List Event) (n : ℕ) → ((k : ℕ) → k < n → watching.Taken p fair label next rule (seen_from s (take k es)) (expected_from x (take k es)) (get_or es k nothing)) → n ≤ length es
      → TakenFrom p fair label next rule s x (take n es)
  all_from s x es zero h low = tt
  all_from s x [] (suc n) h low = absurd (omega arith)
  all_from s x (e ∷ es) (suc n) h low = (
    h 0 (omega arith),
    all_from true (number_of e.num x + 1) es n
        (λ k l. subst (λ (b : Bool). watching.Taken p fair label next rule b (expected_from (number_of e.num x + 1) (take k es)) (get_or es k nothing)) (sym (came (take k es))) (h (suc k) (omega arith))) (omega arith),
  )
    where
      came : (es : List Event) → seen_from true es ≡ true
      came [] = refl
      came (e ∷ es) = refl

  pub all_taken_to : (es : List Event) (n : ℕ) → TakenTo es n → n ≤ length es → AllTaken p fair label next rule (take n es)
  all_taken_to es n taken h = all_from false 0 es n taken h

  -- why event k is refused
  pub data Stop (es : List Event) (k : ℕ) : Refusal → Type 0 where
    illegal : (LegalAt T es k → ⊥) → Stop es k (refused_at IllegalEvent 0)
    stray : LegalAt T es k → (InTurnAt es k → ⊥) → Stop es k (refused_at NumberKind 0)

  -- what the check of an event gives
  data Checked (es : List Event) (n : ℕ) : Outcome → Type 0 where
    passes : TakenAt T es n → Checked es n (Ok tt)
    fails : (r : Refusal) → Stop es n r → Checked es n (Err r)

  checked : (es : List Event) (n : ℕ) → Checked es n (event_outcome (get_or es n nothing) p.props (seen_from false (take n es)) (expected_at es n))
  unfolding event_outcome
  checked es n = by (legal_of e p.props) refl (in_turn (seen_from false (take n es)) (expected_at es n) (number_at es n)) refl
    where
      e : Event
      e = get_or es n nothing

      turn : Says (in_turn (seen_from false (take n es)) (expected_at es n) (number_at es n)) (InTurnAt es n)
      turn = in_turn_says (seen_from false (take n es)) (expected_at es n) (number_at es n)

      is_legal_lem : legal_of e p.props ≡ true → Legal T (seen_of e)
      is_legal_lem h = ((legal_exactly T e).0 h).1

      not_legal : legal_of e p.props ≡ false → Legal T (seen_of e) → ⊥
      not_legal h l = false≢true (sym h ∙ (legal_exactly T e).1 (omega (arith, input.table.few_props), l))

      by : (b : Bool) → legal_of e p.props ≡ b → (c : Bool) → in_turn (seen_from false (take n es)) (expected_at es n) (number_at es n) ≡ c
          → Checked es n (cond b (cond c (Ok tt) (Err (refused_at NumberKind 0))) (Err (refused_at IllegalEvent 0)))
      by true l true t = passes (is_legal_lem l, turn.0 t)
      by true l false t = fails _ (stray (is_legal_lem l) (λ h. false≢true (sym t ∙ turn.1 h)))
      by false l c t = fails _ (illegal (not_legal l))

  module _ (es : List Event) where
    -- the lamp behind accepted events
    pub behind_taken : (taken : AllTaken p fair label next rule es) → RightAfter T f es (lamp_in (seen es))
    behind_taken taken = subst (λ (w : Watched). Lit T f (since (filled es)) w.answer) (after_model p fair label next rule input es taken) (lamp_right p fair label next rule input es taken)

  -- behind n events: all of them were accepted, or the one behind the first k was not
  pub data Gone (es : List Event) (n : ℕ) (c : Course) : Type 0 where
    all_taken : (lamps : List Lamp) → length lamps ≡ n → (named : List ℕ) → length named ≡ n → TakenTo es n → Lamps es lamps → Numbers es named → c ≡ standing es n lamps named → Gone es n c
    stopped : (k : ℕ) → k < n → (lamps : List Lamp) → length lamps ≡ k → (named : List ℕ) → length named ≡ k → TakenTo es k → (r : Refusal) → Stop es k r → Lamps es lamps → Numbers es named → (m : Monitor)
        → c ≡ halted r k m lamps named → Gone es n c

  module _ (es : List Event) (n : ℕ) (before : n < length es) (lamps : List Lamp) (many : length lamps ≡ n) (named : List ℕ) (as_many : length named ≡ n)
      (taken : TakenTo es n) (right : Lamps es lamps) (numbers : Numbers es named) where
    abbrev e : Event
    e = get_or es n nothing

    abbrev now : Monitor
    now = (watched (take n es)).monitor

    -- the monitor knows of numbers what the events say
    now_is : watched (take n es) ≡ shows (expected_at es n) (seen (take n es))
    now_is = after_model p fair label next rule input (take n es) (all_taken_to es n taken (omega (arith, before)))

    expects : now.expected ≡ expected_at es n
    expects = ap (λ (w : Watched). w.monitor.expected) now_is

    came : now.seen ≡ seen_from false (take n es)
    came = ap (λ (w : Watched). w.monitor.seen) now_is ∙ run_seen p fair label next rule (live_set T f) (take n es)

    number_is : number_in now e ≡ number_at es n
    number_is = ap (number_of e.num) expects

    abbrev on : Course
    on = takes (standing es n lamps named) (number_in now e) (calls now e) (calls now e).answer

    -- the next event is taken if it is accepted
    goes_on : TakenAt T es n → Gone es (suc n) on
    goes_on t =
        rw (stepped, number_is) (all_taken (lamps ++ lamp ∷ []) long (named ++ number_at es n ∷ []) long' taken' right' numbers'
        (ap (λ (w : Watched). record { went = record { outcome = Ok tt; done = suc n; monitor = w.monitor }; lamps = lamps ++ lamp ∷ []; numbers = named ++ number_at es n ∷ [] }) (sym shown_is)))
      where
        taken' : TakenTo es (suc n)
        taken' k l = ⊎_elim (λ (b : k < n). taken k b) (λ (q : k ≡ n). rw q t) (below_cases l)

        all : AllTaken p fair label next rule (take (suc n) es)
        all = all_taken_to es (suc n) taken' before

        shown_is : watched (take (suc n) es) ≡ shows (expected_from 0 (take (suc n) es)) (seen (take (suc n) es))
        shown_is = after_model p fair label next rule input (take (suc n) es) all

        stepped : calls now e ≡ shows (expected_from 0 (take (suc n) es)) (seen (take (suc n) es))
        stepped = sym (one_more es n before) ∙ shown_is

        lamp : Lamp
        lamp = lamp_in (seen (take (suc n) es))

        long : length (lamps ++ lamp ∷ []) ≡ suc n
        long = omega (arith, length-append lamps (lamp ∷ []), many)

        long' : length (named ++ number_at es n ∷ []) ≡ suc n
        long' = omega (arith, length-append named (number_at es n ∷ []), as_many)

        right' : Lamps es (lamps ++ lamp ∷ [])
        right' k l = ⊎_elim
            (λ (b : k < n). rw (get_or-append lamps (lamp ∷ []) dark k (rw many b)) (right k (rw many b)))
            (λ (q : k ≡ n). rw (q, get_or_at lamps lamp [] dark n many) (behind_taken (take (suc n) es) all))
            (below_cases (rw long at l))

        numbers' : Numbers es (named ++ number_at es n ∷ [])
        numbers' k l = ⊎_elim
            (λ (b : k < n). rw (get_or-append named (number_at es n ∷ []) 0 k (rw as_many b)) (numbers k (rw as_many b)))
            (λ (q : k ≡ n). rw (q, get_or_at named (number_at es n) [] 0 n as_many) refl)
            (below_cases (rw long' at l))

    -- and else refused, and the monitor stays
    stops : watching.Held p fair label next rule now → (r : Refusal) → event_outcome e p.props (seen_from false (take n es)) (expected_at es n) ≡ Err r → Stop es n r → Gone es (suc n) on
    stops held r outcome why = rw refuses (stopped n (omega arith) lamps many named as_many taken r why right numbers now refl)
      where
        refuses : calls now e ≡ record { answer = Err r; monitor = now }
        refuses =
            checks_pass p fair label next rule input known fits now held e
            ∙ ap (λ (o : Outcome). monitor.watched o now (number_in now e + 1) (brought p fair label next rule known.words (model_of now) now.expected e))
            (ap₂ (event_outcome e p.props) came expects ∙ outcome)

  module _ (es : List Event) (event : ℕ → Event) (same : (k : ℕ) → event k ≡ get_or es k nothing) where
    abbrev pub at : ℕ → Course
    at n = course_to calls opened.monitor event n

    pub gone : (n : ℕ) → n ≤ length es → Gone es n (at n)
    unfolding course_to after
    gone zero h = all_taken [] refl [] refl (λ k l. absurd (omega arith)) (λ k l. absurd (omega arith)) (λ k l. absurd (omega arith)) refl
    gone (suc n) h = by (at n) (gone n (omega arith)) (held_at p fair label next rule input known fits opened.monitor (open_held p fair label next rule input known fits) event n)
      where
        by : (c : Course) → Gone es n c → watching.Held p fair label next rule c.went.monitor → Gone es (suc n) (go_on calls c (event n) c.went.outcome)
        by c (stopped k l lamps many named as_many taken r why right numbers m is) held = stopped k (omega arith) lamps many named as_many taken r why right numbers m (rw is refl)
        by c (all_taken lamps many named as_many taken right numbers is) held = rw (is, same n) (test _ refl (checked es n))
          where
            test : (o : Outcome) → event_outcome (get_or es n nothing) p.props (seen_from false (take n es)) (expected_at es n) ≡ o → Checked es n o
                → Gone es (suc n) (on es n h lamps many named as_many taken right numbers)
            test o g (passes t) = goes_on es n h lamps many named as_many taken right numbers t
            test o g (fails r why) = stops es n h lamps many named as_many taken right numbers (subst (λ (x : Course). watching.Held p fair label next rule x.went.monitor) is held) r g why

  -- the lamp before any event
  abbrev first : Lamp
  first = lamp_in (seen [])

  first_lit : RightAfter T f [] first
  first_lit = behind_taken [] tt

  -- the lines by the numbers of the events
  named_lines : (es : List Event) (lamps : List Lamp) (named : List ℕ) → length named ≡ length lamps → Numbers es named → lines_text (λ k. get_or named k 0) lamps ≡ lines_text (number_at es) lamps
  named_lines es lamps named long numbers = lines_same (length lamps) (λ k. get_or named k 0) (number_at es) lamps (λ k l. numbers k (rw long l))

  -- why the output ends where it does
  end_of : (es : List Event) (k : ℕ) → k < length es → TakenTo es k → (r : Refusal) → Stop es k r → (end : List ℕ) → end ≡ said.stop_text (Err r) (line_of T es k) → Ends T es k end
  end_of es k before taken r (illegal bad) end e = rw e (at_event k before taken bad)
  end_of es k before taken r (stray fine bad) end e = rw e (at_number k before taken fine bad)

  -- what is shown behind all events
  shown : (es : List Event) (output : List ℕ) (c : Course) → Gone es (length es) c
      → output ≡ start_text first ++ said.behind_text (line_bytes (first_of gives es) (width_of p.props)) c → Shows T f es output
  shown es output c (all_taken lamps many named as_many taken right numbers is) e = record {
    start = first;
    lamps = lamps;
    end = [];
    is = e ∙ rw (is, named_lines es lamps named (as_many ∙ sym many) numbers) refl;
    start_right = first_lit;
    line_right = right;
    ends = subst (λ (n : ℕ). Ends T es n []) (sym many) (at_end_lem taken);
  }
  shown es output c (stopped k before lamps many named as_many taken r why right numbers m is) e = record {
    start = first;
    lamps = lamps;
    end = said.stop_text (Err r) (line_of T es k);
    is = e ∙ rw (is, named_lines es lamps named (as_many ∙ sym many) numbers) refl;
    start_right = first_lit;
    line_right = right;
    ends = subst (λ (n : ℕ). Ends T es n (said.stop_text (Err r) (line_of T es k))) (sym many) (end_of es k before taken r why _ refl);
  }

  -- what the program writes for an accepted table and rule, and a log that is accepted
  pub played : {log : List ℕ} {es : List Event} → Taken (width_of p.props) log es → Shows T f es (said.played_text p fair label next rule log)
  unfolding said.played_text after
  played {log} {es} taken =
      shown es (said.played_text p fair label next rule log) (at es (event_at (width_of p.props) log) taken.events (length es)) (gone es (event_at (width_of p.props) log) taken.events (length es) (omega arith))
      (rw ((prepare_accepted p fair label next rule (full p fair label next rule input)).1 input, opens, taken.many, taken.wide) refl)
    where
      opens : opened.answer ≡ Ok first
      opens = ap (λ (w : Watched). w.answer) (after_model p fair label next rule input [] tt)
