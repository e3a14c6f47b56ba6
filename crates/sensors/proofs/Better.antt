-- The claims of Sensors proved: what a better sensor sees is finer with the unseen events put in too, the calls show what the runs say, and fewer runs agree.
use Rattle.std.specs.Prelude.{ℕ, zero, suc, ◌+◌, ◌^◌, ◌≤◌, ◌<◌, ◌≡◌, refl, Bool, true, false, length, get_or, take, replicate, Ok}
use Rattle.std.proofs.Common.{arith, sym, ap, subst, ◌∙◌}
use mathlib.Core.List.Forall₂
use mathlib.Core.List.{List, [], ◌∷◌, ◌++◌, map}
use Rattle.std.proofs.lemmas.List.{length-map}
use Rattle.std.proofs.Math.ListN.{get_or-map, get_or-append}
use Rattle.meaning.specs.Formula.{Formula}
use Rattle.meaning.specs.Run as run
use Rattle.meaning.specs.Event.{History, since}
use Rattle.theory.specs.Narrow.{Narrower}
use Rattle.model.specs.LiveSet.{live_set}
use Rattle.model.specs.Monitor as model
use Rattle.model.specs.Log.{FinerLog, since_finer}
use Rattle.answers.specs.declared.Verdict.{Verdict}
use Rattle.answers.specs.declared.Verdict.TheVariants.{Inconclusive}
use Rattle.answers.specs.declared.Lamp.{Lamp}
use Rattle.answers.specs.Paper as paper
use Rattle.syntax.specs.declared.Rule.{Rule}
use Rattle.syntax.specs.Value.{formula_of}
use Rattle.event_log.specs.declared.Event.{Event}
use Rattle.event_log.specs.Legal.{event_of}
use Rattle.sides.specs.Held.{lamp_in}
use Rattle.event_numbers.specs.Numbers.{number_of, missing_of, unseen}
use Rattle.monitor.specs.declared.Watched.{Watched}
use Rattle.watching.specs.Filled.{expected_from, seen_from, filled_from, filled}
use Rattle.watching.specs.Watching as watching
use Rattle.watching.specs.Watching.{TakenFrom, AllTaken}
use Rattle.watching.proofs.Watching.{after_model}
use Rattle.controller.specs.declared.LogAnswer.{LogAnswer}
use Rattle.transcript.specs.Said.{bytes}
use Rattle.promises.specs.Demand.{Lit, lamp_right}
use Rattle.front_door.specs.FrontDoor as door
use Rattle.front_door.specs.FrontDoor.{SaysLog, Ends, Shows}
use Rattle.front_door.specs.WholeLog as whole
use Rattle.front_door.specs.WholeLog.{VerdictAfter, Closes, Watches, SaysBare, buffer_of, answer_of}
use Rattle.front_door.proofs.FromLog.{whole_log_right}
use Rattle.sensors.specs.Sensors.{event_at, SeesAll, Better, AcceptedLog, Smaller, Lent, table_of, AcceptedWith, answer_at, BetterSensor, SmallerTable, BetterBytes, SmallerBytes, lamp_at, BetterLines, SmallerLines}
use Rattle.sensors.specs.Fewer.{Fewer, right_narrows, lit_narrows, finer_fewer, smaller_fewer}

-- ---- a better sensor, with the unseen events put in

-- as Better, where the number x is expected
record From (x : ℕ) (es es' : List Event) : Type 0 where
  long : length es ≡ length es'
  numbers : (n : ℕ) → n < length es → number_of (event_at es n).num (expected_from x (take n es)) ≡ number_of (event_at es' n).num (expected_from x (take n es'))
  restarts : (n : ℕ) → n < length es → (event_at es n).new ≡ (event_at es' n).new
  sees : (n : ℕ) → n < length es → SeesAll (event_at es n) (event_at es' n)

append₂ : {a b c d : List _} → FinerLog a b → FinerLog c d → FinerLog (a ++ c) (b ++ d)
append₂ Forall₂.nil k = k
append₂ (Forall₂.cons h t) k = Forall₂.cons h (append₂ t k)

-- as many unseen events on both sides
unseen₂ : (k : ℕ) → FinerLog (replicate k unseen) (replicate k unseen)
unseen₂ zero = Forall₂.nil
unseen₂ (suc k) = Forall₂.cons (refl, λ q so. (so, refl)) (unseen₂ k)

finer_from : (k : ℕ) (s : Bool) (x : ℕ) (es es' : List Event) → From x es es' → FinerLog (filled_from s x (take k es)) (filled_from s x (take k es'))
finer_from zero s x es es' b = Forall₂.nil
finer_from (suc k) s x [] [] b = Forall₂.nil
finer_from (suc k) s x [] (e' ∷ es') b = absurd (omega (arith, b.long))
finer_from (suc k) s x (e ∷ es) [] b = absurd (omega (arith, b.long))
finer_from (suc k) s x (e ∷ es) (e' ∷ es') b =
    subst (λ (m : ℕ). FinerLog (filled_from s x (e ∷ take k es)) ((replicate (missing_of s x m) unseen ++ event_of e' ∷ []) ++ filled_from true (m + 1) (take k es'))) same
    (append₂ (append₂ (unseen₂ (missing_of s x (number_of e.num x))) (Forall₂.cons (b.restarts 0 (omega arith), b.sees 0 (omega arith)) Forall₂.nil))
    (finer_from k true (number_of e.num x + 1) es es' rest))
  where
    same : number_of e.num x ≡ number_of e'.num x
    same = b.numbers 0 (omega arith)

    rest : From (number_of e.num x + 1) es es'
    rest = record {
      long = omega (arith, b.long);
      numbers = λ n low.
          subst (λ (m : ℕ). number_of (event_at es n).num (expected_from (number_of e.num x + 1) (take n es)) ≡ number_of (event_at es' n).num (expected_from (m + 1) (take n es'))) (sym same)
          (b.numbers (suc n) (omega arith));
      restarts = λ n low. b.restarts (suc n) (omega arith);
      sees = λ n low. b.sees (suc n) (omega arith);
    }

-- what the first k events of two such logs tell
told : (es es' : List Event) → Better es es' → (k : ℕ) → FinerLog (filled (take k es)) (filled (take k es'))
told es es' b k = finer_from k false 0 es es' (record { long = b.long; numbers = b.numbers; restarts = b.restarts; sees = b.sees })

-- so fewer runs agree, on any table
better_fewer : (t : run.Plant) (es es' : List Event) → Better es es' → (k : ℕ) → Fewer t t (since (filled (take k es))) (since (filled (take k es')))
better_fewer t es es' b k = finer_fewer t (since (filled (take k es))) (since (filled (take k es'))) (since_finer (filled (take k es)) (filled (take k es')) (told es es' b k))

-- ---- a smaller table accepts the same log

smaller_accepts : (t t' : run.Plant) → Smaller t t' → (es : List Event) → AcceptedLog t es → AcceptedLog t' es
smaller_accepts t t' k es taken n low =
    let (legal, turn) = taken n low in (record { sees = subst (λ (q : ℕ). (event_at es n).see < 2 ^ q) k.props legal.sees; gives = legal.gives }, turn)

-- ---- the calls

-- event by event, from any number on
taken_from : (x : Lent) (rule : Rule) (s : Bool) (m : ℕ) (es : List Event) (k : ℕ)
    → ((n : ℕ) → n < k → watching.Taken x.counts x.fair x.label x.next rule (seen_from s (take n es)) (expected_from m (take n es)) (event_at es n)) → k ≤ length es
    → TakenFrom x.counts x.fair x.label x.next rule s m (take k es)
taken_from x rule s m es zero h low = tt
taken_from x rule s m [] (suc k) h low = absurd (omega arith)
taken_from x rule s m (e ∷ es) (suc k) h low = (
  h 0 (omega arith),
  taken_from x rule true (number_of e.num m + 1) es k
      (λ n l. subst (λ (b : Bool). watching.Taken x.counts x.fair x.label x.next rule b (expected_from (number_of e.num m + 1) (take n es)) (event_at es n)) (sym (came (take n es))) (h (suc n) (omega arith)))
      (omega arith),
)
  where
    came : (es : List Event) → seen_from true es ≡ true
    came [] = refl
    came (e ∷ es) = refl

module _ (x : Lent) (rule : Rule) (input : AcceptedWith x rule) (es : List Event) (taken : AcceptedLog (table_of x) es) (n : ℕ) (low : n < length es) where
  abbrev f : Formula
  f = formula_of rule

  abbrev told_by_lem : History
  told_by_lem = since (filled (take (suc n) es))

  all : AllTaken x.counts x.fair x.label x.next rule (take (suc n) es)
  all = taken_from x rule false 0 es (suc n) (λ k l. taken k (omega (arith, low))) low

  -- the lamp that is shown
  abbrev lamp : Lamp
  lamp = lamp_in (model.run_of (table_of x) f (live_set (table_of x) f) (filled (take (suc n) es)))

  lamp_shown : answer_at x rule es n ≡ Ok lamp
  lamp_shown = ap (λ (w : Watched). w.answer) (after_model x.counts x.fair x.label x.next rule input (take (suc n) es) all)

  lamp_lit : Lit (table_of x) f told_by_lem (Ok lamp)
  lamp_lit = subst (λ (w : Watched). Lit (table_of x) f told_by_lem w.answer) (after_model x.counts x.fair x.label x.next rule input (take (suc n) es) all)
      (lamp_right x.counts x.fair x.label x.next rule input (take (suc n) es) all)

pub better_sensor : BetterSensor
better_sensor x rule input es es' taken taken' better n low =
    let low' : n < length es' = omega (arith, better.long) in
    record {
      first = lamp x rule input es taken n low;
      second = lamp x rule input es' taken' n low';
      shown = lamp_shown x rule input es taken n low;
      shown' = lamp_shown x rule input es' taken' n low';
      as_much = lit_narrows (table_of x) (table_of x) (told_by_lem x rule input es taken n low) (told_by_lem x rule input es' taken' n low') (better_fewer (table_of x) es es' better (suc n)) (formula_of rule)
          (lamp x rule input es taken n low) (lamp x rule input es' taken' n low') (lamp_lit x rule input es taken n low) (lamp_lit x rule input es' taken' n low');
    }

pub smaller_table : SmallerTable
smaller_table x x' rule input input' smaller es taken n low =
    let taken' : AcceptedLog (table_of x') es = smaller_accepts (table_of x) (table_of x') smaller es taken in
    record {
      first = lamp x rule input es taken n low;
      second = lamp x' rule input' es taken' n low;
      shown = lamp_shown x rule input es taken n low;
      shown' = lamp_shown x' rule input' es taken' n low;
      as_much = lit_narrows (table_of x) (table_of x') (told_by_lem x rule input es taken n low) (told_by_lem x' rule input' es taken' n low)
          (smaller_fewer (table_of x) (table_of x') (since (filled (take (suc n) es))) smaller) (formula_of rule)
          (lamp x rule input es taken n low) (lamp x' rule input' es taken' n low) (lamp_lit x rule input es taken n low) (lamp_lit x' rule input' es taken' n low);
    }

-- ---- the bytes

-- where every event is accepted, there is a verdict for each
all_closed : (t : run.Plant) {es : List Event} {k : ℕ} {a : LogAnswer} → AcceptedLog t es → Closes t es k a → k ≡ length es
all_closed t taken (whole.at_end_lem all) = refl
all_closed t taken (whole.at_event k low before bad) = absurd (bad (taken k low).0)
all_closed t taken (whole.at_number k low before legal bad) = absurd (bad (taken k low).1)

-- byte n is a verdict that is right for the events 0 to n
record ByteAt (t : run.Plant) (f : Formula) (es : List Event) (now : List ℕ) (n : ℕ) : Type 0 where
  verdict : Verdict
  is : get_or now n 0 ≡ paper.number_of verdict
  right : VerdictAfter t f (take (suc n) es) verdict

byte_at : (t : run.Plant) (f : Formula) (es : List Event) (before now : List ℕ) (a : LogAnswer) → Watches t f es before now a → AcceptedLog t es → (n : ℕ) → n < length es → ByteAt t f es now n
byte_at t f es before now a w taken n low = record {
  verdict = get_or w.verdicts n Inconclusive;
  is = ap (λ (s : List ℕ). get_or s n 0) w.is ∙ get_or-append (map paper.number_of w.verdicts) _ 0 n (rw length-map low') ∙ get_or-map paper.number_of w.verdicts n Inconclusive;
  right = w.byte_right n low';
}
  where
    low' : n < length w.verdicts
    low' = rw (all_closed t taken w.closes) low

-- two of them
bytes_narrow : (t t' : run.Plant) (f : Formula) (es es' : List Event) (now now' : List ℕ) (n : ℕ) → ByteAt t f es now n → ByteAt t' f es' now' n
    → Fewer t t' (since (filled (take (suc n) es))) (since (filled (take (suc n) es'))) → Narrower (get_or now n 0) (get_or now' n 0)
bytes_narrow t t' f es es' now now' n b b' fewer =
    rw (b.is, b'.is) (right_narrows t t' (since (filled (take (suc n) es))) (since (filled (take (suc n) es'))) fewer f b.verdict b'.verdict b.right b'.right)

pub better_bytes : BetterBytes
better_bytes table rule log log' before before' t f es es' says accepted rule_says log_says log_says' room room' taken taken' better n low =
    let now : List ℕ = buffer_of table rule log before in
    let now' : List ℕ = buffer_of table rule log' before' in
    let w = whole_log_right table rule log before t f es says accepted rule_says log_says room in
    let w' = whole_log_right table rule log' before' t f es' says accepted rule_says log_says' room' in
    bytes_narrow t t f es es' now now' n (byte_at t f es before now (answer_of table rule log before) w taken n low)
    (byte_at t f es' before' now' (answer_of table rule log' before') w' taken' n (omega (arith, better.long))) (better_fewer t es es' better (suc n))

pub smaller_bytes : SmallerBytes
smaller_bytes table table' rule log before before' t t' f es says accepted says' accepted' smaller rule_says log_says room room' taken n low =
    let now : List ℕ = buffer_of table rule log before in
    let now' : List ℕ = buffer_of table' rule log before' in
    let rule_says' : SaysBare rule t'.props f = subst (λ (q : ℕ). SaysBare rule q f) smaller.props rule_says in
    let log_says' : SaysLog (bytes log) t'.props es = subst (λ (q : ℕ). SaysLog (bytes log) q es) smaller.props log_says in
    let w = whole_log_right table rule log before t f es says accepted rule_says log_says room in
    let w' = whole_log_right table' rule log before' t' f es says' accepted' rule_says' log_says' room' in
    bytes_narrow t t' f es es now now' n (byte_at t f es before now (answer_of table rule log before) w taken n low)
    (byte_at t' f es before' now' (answer_of table' rule log before') w' (smaller_accepts t t' smaller es taken) n low) (smaller_fewer t t' (since (filled (take (suc n) es))) smaller)

-- ---- the lines

all_ended : (t : run.Plant) {es : List Event} {k : ℕ} {end : List ℕ} → AcceptedLog t es → Ends t es k end → k ≡ length es
all_ended t taken (door.at_end_lem all) = refl
all_ended t taken (door.at_event k low before bad) = absurd (bad (taken k low).0)
all_ended t taken (door.at_number k low before legal bad) = absurd (bad (taken k low).1)

line_lit : (t : run.Plant) (f : Formula) (es : List Event) (output : List ℕ) (s : Shows t f es output) → AcceptedLog t es → (n : ℕ) → n < length es
    → Lit t f (since (filled (take (suc n) es))) (Ok (lamp_at s n))
line_lit t f es output s taken n low = s.line_right n (rw (all_ended t taken s.ends) low)

pub better_lines : BetterLines
better_lines plant rule log log' t f es es' s s' taken taken' better n low =
    lit_narrows t t (since (filled (take (suc n) es))) (since (filled (take (suc n) es'))) (better_fewer t es es' better (suc n)) f (lamp_at s n) (lamp_at s' n)
    (line_lit t f es _ s taken n low) (line_lit t f es' _ s' taken' n (omega (arith, better.long)))

pub smaller_lines : SmallerLines
smaller_lines plant plant' rule log t t' f es s s' taken smaller n low =
    lit_narrows t t' (since (filled (take (suc n) es))) (since (filled (take (suc n) es))) (smaller_fewer t t' (since (filled (take (suc n) es))) smaller) f (lamp_at s n) (lamp_at s' n)
    (line_lit t f es _ s taken n low) (line_lit t' f es _ s' (smaller_accepts t t' smaller es taken) n low)
