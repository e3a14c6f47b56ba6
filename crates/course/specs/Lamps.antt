-- How many lamps a course has, and that `left` fits a byte.
use Prim.Native.Nat.{ℕ, zero, suc, ◌+◌, ◌%◌, ◌≤◌, zero-le}
use Rattle.std.proofs.Common.{arith, sym, ap₂, ◌∙◌, length-append}
use Rattle.std.specs.Prelude.{◌≡◌, length, Ok, Err}
use Rattle.std.proofs.Math.Path.{refl}
use mathlib.Core.List.{List, [], ◌∷◌, ◌++◌, map, map-append, foldl}
use Rattle.words.specs.Folds.{count_le}
use Rattle.pairs.specs.declared.Pairs.{Pairs}
use Rattle.pairs.specs.Sets.{left_of}
use Rattle.model.specs.Monitor as model
use Rattle.answers.specs.declared.Lamp.{Lamp}
use Rattle.answers.specs.Results.{Answer}
use Rattle.answers.specs.Results.{Outcome}
use Rattle.plant.specs.declared.Plant.{Plant}
use Rattle.syntax.specs.declared.Rule.{Rule}
use Rattle.event_log.specs.declared.Event.{Event}
use Rattle.sides.specs.declared.Monitor.{Monitor}
use Rattle.sides.specs.Held.{model_of}
use Rattle.event_numbers.specs.Numbers.{brings}
use Rattle.monitor.specs.declared.Watched.{Watched}
use Rattle.monitor.specs.Calls.{watched, table, formula, step_checked, step_call}
use Rattle.course.specs.Course.{Course, takes, number_in, go_on, course_to, left_bytes}

-- the `left` of an answer
abbrev left_in : Answer → ℕ
left_in (Ok l) = l.left
left_in (Err r) = 0

few_left : (o : Outcome) (m : Monitor) (k : ℕ) (n : model.Monitor) → left_in (watched o m k n).answer ≤ 64
unfolding model.left left_of
few_left (Ok _) m k n = count_le 64 _
few_left (Err r) m k n = zero-le

-- of a course behind at most n events
pub record Counted (n : ℕ) (c : Course) : Type 0 where
  pub done : c.went.done ≡ length c.lamps
  pub few : length c.lamps ≤ n
  pub lefts : left_bytes c.lamps ≡ map (λ (l : Lamp). l.left) c.lamps
  pub named : length c.numbers ≡ length c.lamps

module _ (p : Plant) (fair label next : List ℕ) (rule : Rule) (live : Pairs) (m : Monitor) (event : ℕ → Event) where
  abbrev calls : Monitor → Event → Watched
  calls = step_call p fair label next rule live

  step_left : (x : Monitor) (e : Event) → left_in (calls x e).answer ≤ 64
  unfolding step_call
  step_left x e =
      few_left (step_checked p fair label next rule live x e) x (number_in x e + 1)
      (foldl (model.step_of (table p fair label next rule) (formula p fair label next rule) live.words) (model_of x) (brings x.seen x.expected e))

  -- one event more
  took : {n : ℕ} (c : Course) → Counted n c → (k : ℕ) (w : Watched) (a : Answer) → left_in a ≤ 64 → Counted (suc n) (takes c k w a)
  took c h k w (Ok l) low = record {
    done = omega (arith, h.done, length-append c.lamps (l ∷ []));
    few = omega (arith, h.few, length-append c.lamps (l ∷ []));
    lefts = map-append (λ (l : Lamp). l.left % 256) c.lamps (l ∷ [])
        ∙ ap₂ (λ (s : List ℕ) (k : ℕ). s ++ k ∷ []) h.lefts (omega arith) ∙ sym (map-append (λ (l : Lamp). l.left) c.lamps (l ∷ []));
    named = omega (arith, h.named, length-append c.lamps (l ∷ []), length-append c.numbers (k ∷ []));
  }
  took c h k w (Err r) low = record { done = h.done; few = omega (arith, h.few); lefts = h.lefts; named = h.named }

  pub counted : (n : ℕ) → Counted n (course_to calls m event n)
  unfolding course_to
  counted zero = record { done = refl; few = zero-le; lefts = refl; named = refl }
  counted (suc n) = by (course_to calls m event n) (counted n) (course_to calls m event n).went.outcome
    where
      by : (c : Course) → Counted n c → (o : Outcome) → Counted (suc n) (go_on calls c (event n) o)
      by c h (Ok _) =
          took c h (number_in c.went.monitor (event n)) (calls c.went.monitor (event n)) (calls c.went.monitor (event n)).answer (step_left c.went.monitor (event n))
      by c h (Err r) = record { done = h.done; few = omega (arith, h.few); lefts = h.lefts; named = h.named }
