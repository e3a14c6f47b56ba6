-- More of specs/LookUps. LOOK-UPS AND STEPPING AGREE: the events of an accepted log, looked up one after another in the bytes that `make_machine` wrote, show what the monitor shows.
use Prim.Native.Nat.{ℕ, zero, suc, ◌+◌, ◌≤◌}
use Rattle.std.specs.Prelude.{◌≡◌, Bool, true, false, replicate, Ok}
use Rattle.std.proofs.Math.Path.{refl, ap}
use Rattle.std.proofs.Common.{arith}
use Rattle.std.proofs.Math.Bool.{So}
use mathlib.Core.List.{List, [], ◌∷◌, ◌++◌, map}
use Rattle.meaning.specs.Event as meaning
use Rattle.plant.specs.declared.Plant.{Plant}
use Rattle.syntax.specs.declared.Rule.{Rule}
use Rattle.event_log.specs.declared.Event.{Event}
use Rattle.event_log.specs.Legal.{legal_of, event_of}
use Rattle.event_log.specs.Log.{nothing}
use Rattle.checks.specs.Input.{Input}
use Rattle.event_numbers.specs.Numbers.{number_of, missing_of, unseen}
use Rattle.watching.specs.Filled.{filled_from, filled}
use Rattle.watching.specs.Watching.{after, AllTaken}
use Rattle.machines.specs.Machine.{Machine}
use Rattle.fixed_machine.specs.declared.Size.{Size}
use Rattle.fixed_machine.specs.Machined.{Machined}
use Rattle.machine_promises.specs.Agrees.{AllLegal, taken_legal}
use Rattle.machine_promises.specs.LookUps.{ShowsAs, bytes_of, looked_through, lost_put_in, put_in_from}
use Rattle.machine_promises.specs.LookUps as of_lookups

module _ (p : Plant) (fair label next : List ℕ) (rule : Rule) (given : Input p fair label next rule) where
  abbrev Stands : (m : Machine) (bytes : List ℕ) → Type 0
  Stands = of_lookups.Stands p fair label next rule given

  module _ {m : Machine} {bytes : List ℕ} (stands : Stands m bytes) where
    abbrev looks_as : (es gs : List Event) → AllTaken p fair label next rule es → AllLegal p.props gs → map event_of gs ≡ filled es
        → ShowsAs (after p fair label next rule es).answer (looked_through bytes p.props gs)
    looks_as = of_lookups.looks_as p fair label next rule given {m = m} {bytes = bytes} stands

  -- ---- the lost ones put in

  -- an event that sees nothing is legal
  nothing_legal : (props : ℕ) → props ≤ 3 → So (legal_of nothing props)
  unfolding legal_of
  nothing_legal zero l = refl
  nothing_legal (suc zero) l = refl
  nothing_legal (suc (suc zero)) l = refl
  nothing_legal (suc (suc (suc zero))) l = refl
  nothing_legal (suc (suc (suc (suc n)))) l = absurd (omega arith)

  put_legal : p.props ≤ 3 → (es : List Event) (seen : Bool) (expected : ℕ) → AllLegal p.props es → AllLegal p.props (put_in_from seen expected es)
  put_legal three [] seen expected ok = tt
  put_legal three (e ∷ es) seen expected (ok, rest) =
      go (put_in_from true (number_of e.num expected + 1) es) (put_legal three es true (number_of e.num expected + 1) rest) (missing_of seen expected (number_of e.num expected))
    where
      go : (gs : List Event) → AllLegal p.props gs → (k : ℕ) → AllLegal p.props (replicate k nothing ++ e ∷ gs)
      go gs behind zero = (ok, behind)
      go gs behind (suc k) = (nothing_legal p.props three, go gs behind k)

  -- they stand for what the log brings
  put_brings : (es : List Event) (seen : Bool) (expected : ℕ) → map event_of (put_in_from seen expected es) ≡ filled_from seen expected es
  put_brings [] seen expected = refl
  put_brings (e ∷ es) seen expected =
      go (put_in_from true (number_of e.num expected + 1) es) (put_brings es true (number_of e.num expected + 1)) (missing_of seen expected (number_of e.num expected))
    where
      go : (gs : List Event) {hs : List meaning.Event} → map event_of gs ≡ hs → (k : ℕ) → map event_of (replicate k nothing ++ e ∷ gs) ≡ (replicate k unseen ++ event_of e ∷ []) ++ hs
      go gs behind zero = ap (λ (l : List meaning.Event). event_of e ∷ l) behind
      go gs behind (suc k) = ap (λ (l : List meaning.Event). unseen ∷ l) (go gs behind k)

  module _ (work left old new : List ℕ) (size : Size) (answered : Machined p fair label next rule work left old new (Ok size)) where
    abbrev wrote : (m : Machine) × Stands m (bytes_of size new) × (m.rows ≡ size.rows)
    wrote = of_lookups.wrote p fair label next rule given work left old new size answered

    -- LOOK-UPS ANSWER AS STEPPING DOES, on each log that is accepted, and so after each event of it; an event that is lost is looked up as one that sees nothing
    pub look_ups_agree : (es : List Event) → AllTaken p fair label next rule es → ShowsAs (after p fair label next rule es).answer (looked_through (bytes_of size new) p.props (lost_put_in es))
    look_ups_agree es taken =
        let (m, stands, _) = wrote in
        looks_as stands es (lost_put_in es) taken (put_legal stands.three es false 0 (taken_legal p fair label next rule given stands.three es false 0 taken)) (put_brings es false 0)
