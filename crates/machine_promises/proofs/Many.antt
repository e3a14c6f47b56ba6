-- More of specs/Many. MANY EVENTS IN ONE CALL SHOW WHAT STEPPING SHOWS: of the bytes that `make_machine` wrote, `look_through` writes for each event what the box shows behind it.
use Prim.Native.Nat.{ℕ, zero, suc, ◌+◌, ◌-◌, ◌/◌, ◌≤◌, ◌<◌}
use Rattle.std.specs.Prelude.{◌≡◌, Bool, get_or, Result, Ok}
use Rattle.std.proofs.Math.Path.{sym, ap, subst}
use Rattle.std.proofs.Common.{◌∙◌}
use Rattle.std.proofs.Math.Bool.{true, false}
use mathlib.Core.List.{List, [], ◌∷◌, ◌++◌, foldl-append}
use native.Mathlib.Omega.{arith}
use borrow.Author.Tests.{le-leb}
use Rattle.std.proofs.Math.ListN.{length}
use Rattle.words.specs.Below.{list_below}
use Rattle.answers.specs.declared.Lamp.{Lamp}
use Rattle.answers.specs.Results.{Answer}
use Rattle.answers.specs.Paper as paper
use Rattle.plant.specs.declared.Plant.{Plant}
use Rattle.syntax.specs.declared.Rule.{Rule}
use Rattle.event_log.specs.declared.Event.{Event}
use Rattle.checks.specs.Input.{Input}
use Rattle.watching.specs.Watching.{after, TakenFrom, AllTaken}
use Rattle.columns.specs.Columns.{count_of}
use Rattle.columns.proofs.Columns.{columns_count}
use Rattle.fixed_machine.specs.declared.Size.{Size}
use Rattle.fixed_machine.specs.Machined.{Machined}
use Rattle.machine_lookup.specs.declared.Stand.{Stand}
use Rattle.answers.specs.declared.Refusal.{Refusal}
use Rattle.machine_lookup.specs.Lookup.{stand_at, looked_up, holds_row}
use Rattle.machine_events.specs.Through as through
use Rattle.machine_events.specs.Through.{event_in, standing, found, go_on, through_to, through_of}
use Rattle.machine_promises.specs.InBytes.{row_held}
use Rattle.machine_promises.specs.LookUps.{look_on, looked_through, ShowsAs, wrote, look_ups_plain}
use Rattle.machine_promises.specs.Many.{bytes_by, events_to, gapless, lamp_of, row_is}
use Rattle.machine_promises.specs.Many as of_many

module _ (p : Plant) (fair label next : List ℕ) (rule : Rule) where
  abbrev taken_front : (es fs : List Event) (seen : Bool) (expected : ℕ) → TakenFrom p fair label next rule seen expected (es ++ fs) → TakenFrom p fair label next rule seen expected es
  taken_front = of_many.taken_front p fair label next rule

  abbrev taken_below : (events : List ℕ) (n k : ℕ) → AllTaken p fair label next rule (events_to events (n + k)) → AllTaken p fair label next rule (events_to events n)
  taken_below = of_many.taken_below p fair label next rule

  abbrev EachShown : (events : List ℕ) (s : through.Shown) → Type 0
  EachShown = of_many.EachShown p fair label next rule

  module _ (given : Input p fair label next rule) (work left old new : List ℕ) (size : Size) (answered : Machined p fair label next rule work left old new (Ok size)) (events : List ℕ) where
    abbrev es : ℕ → List Event
    es = of_many.es p fair label next rule given work left old new size answered events

    abbrev bytes : List ℕ
    bytes = of_many.bytes p fair label next rule given work left old new size answered events

    abbrev lamp_at : ℕ → Lamp
    lamp_at = of_many.lamp_at p fair label next rule given work left old new size answered events

    agree : (n : ℕ) → AllTaken p fair label next rule (es n) → ShowsAs (after p fair label next rule (es n)).answer (looked_through bytes p.props (es n))
    agree n taken = look_ups_plain p fair label next rule given work left old new size answered (es n) taken (gapless events n)

    -- the next event, from the row behind those before it
    looked_next : (n : ℕ) (so_far : AllTaken p fair label next rule (es n)) (taken : AllTaken p fair label next rule (es (suc n)))
        → looked_up bytes p.props (agree n so_far).row (event_in (get_or events n 0))
        ≡ Ok (record { row = (agree (suc n) taken).row; verdict = paper.number_of (agree (suc n) taken).lamp.verdict; left = (agree (suc n) taken).lamp.left })
    unfolding look_on list_below
    looked_next n so_far taken =
        sym (foldl-append (look_on bytes p.props) (stand_at bytes (count_of p.props + 2) 0) (es n) (event_in (get_or events n 0) ∷ [])
        ∙ ap (λ (x : Result Stand Refusal). look_on bytes p.props x (event_in (get_or events n 0))) (agree n so_far).finds)
        ∙ (agree (suc n) taken).finds

    shown_to : (n : ℕ) (taken : AllTaken p fair label next rule (es n)) → through_to bytes p.props 0 events n ≡ standing n (agree n taken).row (bytes_by lamp_at n)
    unfolding through_to bytes_by list_below
    shown_to zero taken = ap (λ (r : ℕ). standing 0 r []) (sym (row_is bytes (count_of p.props + 2) 0 (agree 0 taken).finds))
    shown_to (suc n) taken =
        let so_far = taken_front (es n) (event_in (get_or events n 0) ∷ []) false 0 taken in
        let here = standing n (agree n so_far).row (bytes_by lamp_at n) in
        ap (λ (s : through.Shown). go_on s (λ (r : ℕ). looked_up bytes p.props r (event_in (get_or events n 0))) s.through.outcome) (shown_to n so_far)
        ∙ ap (found here) (looked_next n so_far taken)
        ∙ ap (λ (l : Lamp). standing (suc n) (agree (suc n) taken).row (bytes_by lamp_at n ++ paper.number_of l.verdict ∷ l.left ∷ [])) (sym (ap lamp_of (agree (suc n) taken).shows))

    -- MANY EVENTS AGREE WITH STEPPING: where the box takes them all and there is room, none is refused, and behind each the bytes say what the box shows
    pub many_agree : AllTaken p fair label next rule (es (length events)) → (room : ℕ) → length events ≤ room / 2 → EachShown events (through_of bytes p.props 0 events room)
    unfolding through_of
    many_agree taken room fits =
        let (m, stands, _) = wrote p fair label next rule given work left old new size answered in
        let count = columns_count p.props given.table.some_props stands.three in
        let held : holds_row (length bytes) (count_of p.props + 2) 0 ≡ true = subst (λ (c : ℕ). holds_row (length bytes) (c + 2) 0 ≡ true) count (row_held stands.in_bytes stands.few 0 stands.of.canonical.proper.opening) in
        rw (le-leb 1 p.props given.table.some_props, le-leb p.props 3 stands.three, held, le-leb (length events) (room / 2) fits) (record {
          lamp = lamp_at;
          shows = λ k l. behind k (taken_below events (suc k) (length events - suc k) (subst (λ (n : ℕ). AllTaken p fair label next rule (es n)) (rest k l) taken));
          row = (agree (length events) taken).row;
          finds = shown_to (length events) taken;
        })
      where
        rest : (k : ℕ) → k < length events → length events ≡ suc k + (length events - suc k)
        rest k l = omega arith

        behind : (k : ℕ) → AllTaken p fair label next rule (es (suc k)) → (after p fair label next rule (es (suc k))).answer ≡ Ok (lamp_at k)
        behind k taken = let there = agree (suc k) taken in there.shows ∙ sym (ap (λ (a : Answer). Ok (lamp_of a)) there.shows)
