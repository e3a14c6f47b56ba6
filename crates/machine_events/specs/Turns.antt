-- What the loop has done behind n events, and that it goes on, stops and ends as the definition says.
use Prim.Native.Nat.{ℕ, zero, suc, ◌+◌, ◌-◌, ◌*◌, ◌/◌, ◌≤◌, ◌<◌}
use Rattle.std.proofs.Common.{add-one, arith, sym, ◌∙◌, append_assoc, length-append, length-drop}
use Rattle.std.proofs.Math.Nat.{zero-add, suc-add}
use Rattle.std.specs.Prelude.{◌≡◌, Bool, ◌&&◌, List, [], ◌∷◌, ◌++◌, leb, length, get_or, set, Result, Ok, Err}
use Rattle.std.proofs.Math.Path.{refl, ap}
use Rattle.std.proofs.Math.Bool.{true, false}
use borrow.Author.Tests.{le-leb, lt-leb, le-ltb, lt-ltb}
use Rattle.words.specs.Over.{over, over_set}
use Rattle.answers.specs.declared.Kind.TheVariants.{Counts, Value, Room}
use Rattle.answers.specs.declared.Refusal.{Refusal}
use Rattle.columns.specs.Columns.{count_of}
use Rattle.event_log.specs.declared.Event.{Event}
use Rattle.machine_lookup.specs.declared.Stand.{Stand}
use Rattle.machine_lookup.specs.Lookup.{looked_up}
use Rattle.machine_lookup.specs.Shape.{rows_of, rows_hold, Shaped}
use Rattle.machine_events.specs.declared.Through.{Through}
use Rattle.machine_events.specs.Through.{event_in, Shown, standing, stopped, found, go_on, through_to, through_of, Says}

-- the width of a machine's rows, and their number, as they were worked out
abbrev pub Wide : ℕ → ℕ → ℕ → ℕ → Type 0
Wide bytes props width rows = Shaped bytes props (record { width = width; rows = rows })

-- what was found of a byte's event
pub found_of : (machine : List ℕ) (props : ℕ) (events : List ℕ) (n at : ℕ) {e : Event} {x y : Result Stand Refusal} → e ≡ event_in (get_or events n 0) → x ≡ looked_up machine props at e → x ≡ y
    → looked_up machine props at (event_in (get_or events n 0)) ≡ y
found_of machine props events n at line is known = rw (← line) (sym is ∙ known)

module _ (machine : List ℕ) (props row : ℕ) (events old : List ℕ) where
  abbrev to : ℕ → Shown
  to n = through_to machine props row events n

  abbrev look : ℕ → ℕ → Result Stand Refusal
  look n at = looked_up machine props at (event_in (get_or events n 0))

  -- behind a refusal nothing more happens
  stays : (n k : ℕ) {r : Refusal} → (to n).through.outcome ≡ Err r → to (k + n) ≡ to n
  unfolding through_to
  stays n zero e = rw zero-add refl
  stays n (suc k) e = rw suc-add (ap (λ (s : Shown). go_on s (λ at. look (k + n) at) s.through.outcome) (stays n k e) ∙ ap (go_on (to n) (λ at. look (k + n) at)) e)

  -- behind n events, none of which was refused
  pub record Gone (n at : ℕ) (new : List ℕ) : Type 0 where
    pub so_far : List ℕ
    pub is : to n ≡ standing n at so_far
    pub many : length so_far ≡ n * 2
    pub bytes : new ≡ over so_far old

  pub starts : Gone 0 row old
  unfolding through_to
  starts = record { so_far = []; is = refl; many = refl; bytes = refl }

  -- the buffer stays as long as it was
  pub gone_long : {n at : ℕ} {new : List ℕ} → Gone n at new → n * 2 ≤ length old → length new ≡ length old
  gone_long g room =
      let long : length (over g.so_far old) ≡ length old = simp (length-append, length-drop) (omega (arith, g.many)) in
      ap length g.bytes ∙ long

  module _ {n at : ℕ} {new : List ℕ} (g : Gone n at new) where
    -- the next event, by what is found
    on : (x : Result Stand Refusal) → look n at ≡ x → to (suc n) ≡ found (standing n at g.so_far) x
    unfolding through_to
    on x e = rw g.is (ap (found (standing n at g.so_far)) e)

    pub goes_on : {s : Stand} {mid last : List ℕ} → look n at ≡ Ok s → n * 2 + 1 < length old → mid ≡ set new (n * 2) s.verdict → last ≡ set mid (n * 2 + 1) s.left → Gone (n + 1) s.row last
    goes_on {s} {mid} {last} e room first second = record {
      so_far = g.so_far ++ s.verdict ∷ s.left ∷ [];
      is = rw add-one (on (Ok s) e);
      many = omega (arith, length-append g.so_far (s.verdict ∷ s.left ∷ []), g.many);
      bytes = second ∙ ap (λ (m : List ℕ). set m (n * 2 + 1) s.left) one ∙ two ∙ ap (λ (l : List ℕ). over l old) (append_assoc g.so_far (s.verdict ∷ []) (s.left ∷ []));
    }
      where
        one : mid ≡ over (g.so_far ++ s.verdict ∷ []) old
        one = first ∙ rw (g.bytes, ← g.many) (over_set g.so_far old s.verdict (omega (arith, g.many)))

        longer : length (g.so_far ++ s.verdict ∷ []) ≡ n * 2 + 1
        longer = omega (arith, length-append g.so_far (s.verdict ∷ []), g.many)

        two : set (over (g.so_far ++ s.verdict ∷ []) old) (n * 2 + 1) s.left ≡ over ((g.so_far ++ s.verdict ∷ []) ++ s.left ∷ []) old
        two = rw (← longer) (over_set (g.so_far ++ s.verdict ∷ []) old s.left (omega (arith, longer)))

    -- a refused event ends them where they stand
    pub stops : (last : ℕ) {r : Refusal} → look n at ≡ Err r → n < last → Says (to last) old new (record { outcome = Err r; done = n; row = at })
    stops last {r} e before =
        let stopped = on (Err r) e in
        let same : to last ≡ to (suc n) = rw (rest) (stays (suc n) (last - suc n) (ap (λ (s : Shown). s.through.outcome) stopped)) in
        rw (same ∙ stopped) (record { answer = refl; bytes = g.bytes })
      where
        rest : last ≡ last - suc n + suc n
        rest = omega arith

    pub ends : (last : ℕ) → n ≡ last → Says (to last) old new (record { outcome = Ok tt; done = last; row = at })
    ends last e = rw (← e, g.is) (record { answer = refl; bytes = g.bytes })

-- ---- for code: the checks in their order

module _ (machine : List ℕ) (props row : ℕ) (events old : List ℕ) where
  abbrev all : Shown
  all = through_of machine props row events (length old)

  abbrev Told : Through → List ℕ → Type 0
  Told r new = (r ≡ all.through) × (new ≡ over all.shown old)

  pub no_props : props < 1 → {r : Through} → r ≡ (stopped row Counts).through → Told r old
  unfolding through_of
  no_props l is = rw (lt-leb 1 props l, is) (refl, refl)

  pub many_props : 3 < props → {r : Through} → r ≡ (stopped row Counts).through → Told r old
  unfolding through_of
  many_props l is = rw (lt-leb props 3 l, none (leb 1 props), is) (refl, refl)
    where
      none : (a : Bool) → (a && false) ≡ false
      none true = refl
      none false = refl

  module _ (some : 1 ≤ props) (few : props ≤ 3) where
    abbrev width : ℕ
    width = count_of props + 2

    pub no_row : rows_of (length machine) width ≤ row → {r : Through} → r ≡ (stopped row Value).through → Told r old
    unfolding through_of
    no_row l is = rw (le-leb 1 props some, le-leb props 3 few, rows_hold (length machine) width row, le-ltb row (rows_of (length machine) width) l, is) (refl, refl)

    module _ (held : row < rows_of (length machine) width) where
      pub no_room : length old / 2 < length events → {r : Through} → r ≡ (stopped row Room).through → Told r old
      unfolding through_of
      no_room l is = rw (le-leb 1 props some, le-leb props 3 few, rows_hold (length machine) width row, lt-ltb row (rows_of (length machine) width) held, lt-leb (length events) (length old / 2) l, is) (refl, refl)

      pub with_room : length events ≤ length old / 2 → {new : List ℕ} {r : Through} → Says (through_to machine props row events (length events)) old new r → Told r new
      unfolding through_of
      with_room l {new} {r} s =
          rw (le-leb 1 props some, le-leb props 3 few, rows_hold (length machine) width row, lt-ltb row (rows_of (length machine) width) held, le-leb (length events) (length old / 2) l) (s.answer, s.bytes)
