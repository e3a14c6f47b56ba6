-- What the loop over a log has done behind n lines, and that it goes on, stops and ends as the definition says.
use Rattle.std.specs.Prelude.{ℕ, suc, ◌+◌, ◌-◌, ◌%◌, ◌^◌, ◌<◌, ◌≡◌, Bool, true, false, cond, List, [], ◌∷◌, ◌++◌, map, length, set, Ok, Err}
use Rattle.std.proofs.Common.{add-one, arith, ap, subst, ◌∙◌, length-append}
use Rattle.std.proofs.Math.Path.{refl}
use Rattle.std.proofs.Math.Bool.{So}
use Rattle.std.proofs.lemmas.Bool.{false≢true}
use Rattle.std.proofs.lemmas.List.{map-append, length-map}
use Rattle.pairs.specs.declared.Pairs.{Pairs}
use Rattle.answers.specs.declared.Lamp.{Lamp}
use Rattle.answers.specs.declared.Refusal.{Refusal}
use Rattle.answers.specs.Results.{Outcome}
use Rattle.answers.specs.Paper.{number_of}
use Rattle.plant.specs.declared.Plant.{Plant}
use Rattle.event_log.specs.declared.Event.{Event}
use Rattle.event_log.specs.Legal.{legal_of}
use Rattle.text.specs.Number.{width_of}
use Rattle.event_log.specs.Read.{event_at}
use Rattle.ways.specs.declared.Ways.{Ways}
use Rattle.sides.specs.declared.Monitor.{Monitor}
use Rattle.sides.specs.Held.{model_of, lamp_in}
use Rattle.event_numbers.specs.Numbers as numbers
use Rattle.event_numbers.specs.Numbers.{in_turn, in_turn_says, event_outcome}
use Rattle.sides.specs.Sides.{taken_in}
use Rattle.course.specs.Laid.{laid, laid_more, laid_length}
use Rattle.course.specs.Course.{Course, takes, number_in, course_to, turn_of, turn, verdict_bytes, left_bytes, Followed}
use Rattle.course.proofs.CourseRight.{stays}

-- a number that is accepted fits 32 bits
pub accepted_number : (e : Event) (props : ℕ) (seen : Bool) (expected : ℕ) → event_outcome e props seen expected ≡ Ok tt → numbers.number_of e.num expected < 2 ^ 32
unfolding event_outcome
accepted_number e props seen expected g = ((in_turn_says seen expected (numbers.number_of e.num expected)).0 (go _ _ (legal_of e props) (in_turn seen expected (numbers.number_of e.num expected)) g)).number
  where
    accepts : Outcome → Bool
    accepts (Ok _) = true
    accepts (Err r) = false

    go : (r s : Refusal) (b c : Bool) → ◌≡◌ {A = Outcome} (cond b (cond c (Ok tt) (Err r)) (Err s)) (Ok tt) → So c
    go r s true true h = refl
    go r s true false h = absurd (false≢true (ap accepts h))
    go r s false c h = absurd (false≢true (ap accepts h))

-- the course as it stands where no event was refused
abbrev standing : Monitor → List Lamp → List ℕ → Course
standing m ls ns = record { went = record { outcome = Ok tt; done = length ls; monitor = m }; lamps = ls; numbers = ns }

-- one byte more behind those of the lamps
byte_more : (F : Lamp → ℕ) (ls : List Lamp) (old : List ℕ) (shown : Lamp) {n b : ℕ} → length ls ≡ n → b ≡ F shown → set (laid (map F ls) old) n b ≡ laid (map F (ls ++ shown ∷ [])) old
byte_more F ls old shown many e =
    rw (e, map-append) (subst (λ (k : ℕ). set (laid (map F ls) old) k (F shown) ≡ laid (map F ls ++ F shown ∷ []) old) (length-map ls F ∙ many) (laid_more (map F ls) old (F shown)))

-- and one number more behind others
number_more : (ns old : List ℕ) (k : ℕ) {n : ℕ} → length ns ≡ n → set (laid ns old) n k ≡ laid (ns ++ k ∷ []) old
number_more ns old k many = rw (← many) (laid_more ns old k)

module _ (p : Plant) (label next : List ℕ) (w : Ways) (live : Pairs) (m : Monitor) (text verdicts₀ lefts₀ numbers₀ : List ℕ) where
  abbrev event : ℕ → Event
  event = event_at (width_of p.props) text

  abbrev at : ℕ → Course
  at n = course_to (turn p label next w live) m event n

  -- behind n lines, all of which were taken
  pub record Gone (n : ℕ) (now : Monitor) (verdicts lefts numbers : List ℕ) : Type 0 where
    pub lamps : List Lamp
    pub named : List ℕ
    pub is : at n ≡ standing now lamps named
    pub many : length lamps ≡ n
    pub as_many : length named ≡ n
    pub verdicts_are : verdicts ≡ laid (verdict_bytes lamps) verdicts₀
    pub lefts_are : lefts ≡ laid (left_bytes lamps) lefts₀
    pub numbers_are : numbers ≡ laid named numbers₀

  pub starts : Gone 0 m verdicts₀ lefts₀ numbers₀
  unfolding course_to laid
  starts = record { lamps = []; named = []; is = refl; many = refl; as_many = refl; verdicts_are = refl; lefts_are = refl; numbers_are = refl }

  module _ {n : ℕ} {now : Monitor} {verdicts lefts numbers : List ℕ} (g : Gone n now verdicts lefts numbers) {e : Event} (line : e ≡ event n) where
    -- the next line, by whether its event is accepted
    on : (o : Outcome) → event_outcome e p.props now.seen now.expected ≡ o
        → at (suc n) ≡ takes (standing now g.lamps g.named) (number_in now e) (turn_of o now (taken_in label next w live.words now e)) (turn_of o now (taken_in label next w live.words now e)).answer
    unfolding course_to
    on o checked = rw (g.is, ← line, checked) refl

    pub goes_on : {new : Monitor} {shown : Lamp} {k : ℕ} → event_outcome e p.props now.seen now.expected ≡ Ok tt → k ≡ number_in now e → new ≡ taken_in label next w live.words now e
        → shown ≡ lamp_in (model_of new)
        → {verdicts' lefts' numbers' : List ℕ} → verdicts' ≡ set verdicts n (number_of shown.verdict) → lefts' ≡ set lefts n (shown.left % 256) → numbers' ≡ set numbers n k
        → Gone (n + 1) new verdicts' lefts' numbers'
    goes_on {new} {shown} {k} checked number moves shows ev el en = record {
      lamps = g.lamps ++ shown ∷ [];
      named = g.named ++ k ∷ [];
      is = rw add-one (on (Ok tt) checked ∙ rw (← moves, ← shows, ← number) (ap (λ (j : ℕ). record { went = record { outcome = Ok tt; done = j; monitor = new }; lamps = g.lamps ++ shown ∷ []; numbers = g.named ++ k ∷ [] }) grows));
      many = omega (arith, length-append g.lamps (shown ∷ []), g.many);
      as_many = omega (arith, length-append g.named (k ∷ []), g.as_many);
      verdicts_are = ev ∙ rw g.verdicts_are (byte_more (λ (l : Lamp). number_of l.verdict) g.lamps verdicts₀ shown g.many refl);
      lefts_are = el ∙ rw g.lefts_are (byte_more (λ (l : Lamp). l.left % 256) g.lamps lefts₀ shown g.many refl);
      numbers_are = en ∙ rw g.numbers_are (number_more g.named numbers₀ k g.as_many);
    }
      where
        grows : suc (length g.lamps) ≡ length (g.lamps ++ shown ∷ [])
        grows = omega (arith, length-append g.lamps (shown ∷ []))

    -- a refused event ends the course where it stands
    pub stops : (last : ℕ) {r : Refusal} → event_outcome e p.props now.seen now.expected ≡ Err r → n < last
        → Followed (at last) verdicts₀ lefts₀ numbers₀ verdicts lefts numbers (record { outcome = Err r; done = n; monitor = now })
    stops last {r} checked before =
        let stopped = on (Err r) checked in
        let same : at last ≡ at (suc n) = rw (rest) (stays (turn p label next w live) m event (suc n) (last - suc n) (ap (λ (c : Course). c.went.outcome) stopped)) in
        rw (same ∙ stopped) (record { went = rw g.many refl; verdicts_are = g.verdicts_are; lefts_are = g.lefts_are; numbers_are = g.numbers_are })
      where
        rest : last ≡ last - suc n + suc n
        rest = omega arith

  -- the buffers stay as long as they were
  pub verdicts_long : {n : ℕ} {now : Monitor} {verdicts lefts numbers : List ℕ} → Gone n now verdicts lefts numbers → length verdicts ≡ length verdicts₀
  verdicts_long g = rw g.verdicts_are (laid_length _ _)

  pub lefts_long : {n : ℕ} {now : Monitor} {verdicts lefts numbers : List ℕ} → Gone n now verdicts lefts numbers → length lefts ≡ length lefts₀
  lefts_long g = rw g.lefts_are (laid_length _ _)

  pub numbers_long : {n : ℕ} {now : Monitor} {verdicts lefts numbers : List ℕ} → Gone n now verdicts lefts numbers → length numbers ≡ length numbers₀
  numbers_long g = rw g.numbers_are (laid_length _ _)

  pub ends : {n : ℕ} {now : Monitor} {verdicts lefts numbers : List ℕ} → Gone n now verdicts lefts numbers → (last : ℕ) {done : ℕ} → n ≡ done → done ≡ last
      → Followed (at last) verdicts₀ lefts₀ numbers₀ verdicts lefts numbers (record { outcome = Ok tt; done = done; monitor = now })
  ends g last e f = rw (← f, ← e, g.is) (record { went = rw g.many refl; verdicts_are = g.verdicts_are; lefts_are = g.lefts_are; numbers_are = g.numbers_are })
