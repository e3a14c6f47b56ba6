-- More of specs/Promises. What reading a sheet promises. The contract of scan_sheet is an equation, `r ≡ scan_of s`; what that means is said here by specs/Sheet.
use Rattle.std.specs.Prelude.{ℕ, suc, ◌+◌, ◌≡◌, refl, Bool, true, false, cond, List, [], ◌∷◌, ◌++◌, ◌↔◌, length, take, Result, Ok, Err}
use Rattle.std.proofs.Common.{sym, ap, ◌∙◌, append_assoc, append-nil, arith, length-append, take_at}
use Rattle.std.proofs.Math.Decide.{dec_lt}
use Rattle.std.proofs.Math.Seq.{take-length, take-append_seam}
use Rattle.sheet.specs.declared.Lines.{Lines}
use Rattle.sheet.specs.declared.State.{State}
use Rattle.sheet.specs.declared.State.TheVariants.{Before, Name, Value, Stuck}
use Rattle.sheet.specs.Sheet.{number_from, Begins, StopsAt, Malformed, too_long, stops_at}
use Rattle.sheet.specs.Machine.{state_after, stuck, may, filed, scan_from, begin, scan_of}
use Rattle.sheet.specs.Short.{sheet_short}
use Rattle.sheet.specs.Read.{lines_of}
use Rattle.sheet.proofs.Read.{sheet_read}
use Rattle.sheet.specs.Reached.{Reached, before, reached_none, reached_begins}
use Rattle.sheet.proofs.Reached.{reached_more}
use Rattle.sheet.specs.Promises.{Passed, Right, Told, good_bad, looked, not_looked, one_place}

-- a text that is refused from the start, whatever follows, begins no sheet
no_begin : (p : List ℕ) (i : ℕ) → ((s : List ℕ) → begin (p ++ s) ≡ Err i) → Begins p → ⊥
no_begin p i f g = good_bad (lines_of g.values) i (sym (sheet_read (p ++ g.rest) g.values g.sheet) ∙ f g.rest)

-- the text ends where it may not
too_soon : (p : List ℕ) (l : Lines) (st : State) → Passed p l st → may st ≡ false → StopsAt p (length p)
unfolding scan_from
too_soon p l st h e =
    record {
      no_sheet = λ x is. good_bad (lines_of x) (length p) (sym (sheet_read p x is) ∙ ap begin (sym (append-nil p)) ∙ h.goes_on [] ∙ rw e refl);
      within = omega arith;
      begins = rw (take-length p) (reached_begins h.reached);
      stops = λ l. absurd (omega arith);
    }

-- the text ends
at_end_lem : (p : List ℕ) (l : Lines) (st : State) → Passed p l st → Right (p ++ []) (cond (may st) (Ok l) (Err (length p)))
at_end_lem p l st h = rw (append-nil p) (by_state st h.reached h)
  where
    by_state : (st : State) → Reached p l st → Passed p l st → Right p (cond (may st) (Ok l) (Err (length p)))
    by_state (Before k) (before x d) h = record { values = x; sheet = d.sheet; lines = d.lines }
    by_state (Name k i) r h = too_soon p l (Name k i) h refl
    by_state (Value k at n) r h = too_soon p l (Value k at n) h refl
    by_state Stuck r h = too_soon p l Stuck h refl

-- a byte comes that may not
stops_here : (p s : List ℕ) (b : ℕ) (l : Lines) (st : State) → Passed p l st → stuck (state_after st b) ≡ true → StopsAt (p ++ b ∷ s) (length p)
unfolding scan_from
stops_here p s b l st h e =
    record {
      no_sheet = λ x is. good_bad (lines_of x) (length p) (sym (sheet_read (p ++ b ∷ s) x is) ∙ bad s);
      within = omega (arith, length-append p (b ∷ s));
      begins = rw (take-append_seam p (b ∷ s)) (reached_begins h.reached);
      stops = λ g t. no_begin (p ++ b ∷ []) (length p) (λ r. ap begin (append_assoc p (b ∷ []) r) ∙ bad r) (rw front at t);
    }
  where
    bad : (r : List ℕ) → begin (p ++ b ∷ r) ≡ Err (length p)
    bad r = h.goes_on (b ∷ r) ∙ rw e refl

    front : take (suc (length p)) (p ++ b ∷ s) ≡ p ++ b ∷ []
    front =
        let n : length (p ++ b ∷ []) ≡ suc (length p) = omega (arith, length-append p (b ∷ [])) in
        ap (take (suc (length p))) (sym (append_assoc p (b ∷ []) s)) ∙ take_at (p ++ b ∷ []) s (suc (length p)) n

all_right : (p s : List ℕ) (l : Lines) (st : State) → Passed p l st → Right (p ++ s) (scan_from l st (length p) s)
unfolding scan_from
all_right p [] l st h = at_end_lem p l st h
all_right p (b ∷ s) l st h = by_test (stuck (state_after st b)) refl (all_right (p ++ b ∷ []) s (filed l st b) (state_after st b))
  where
    n : length (p ++ b ∷ []) ≡ length p + 1
    n = length-append p (b ∷ [])

    by_test :
        (t : Bool) → stuck (state_after st b) ≡ t
        → (Passed (p ++ b ∷ []) (filed l st b) (state_after st b) → Right ((p ++ b ∷ []) ++ s) (scan_from (filed l st b) (state_after st b) (length (p ++ b ∷ [])) s))
        → Right (p ++ b ∷ s) (cond t (Err (length p)) (scan_from (filed l st b) (state_after st b) (length p + 1) s))
    by_test true e k = stops_here p s b l st h e
    by_test false e k =
        rw (append_assoc p (b ∷ []) s, n) at
        (k (record { reached = reached_more h.reached b e; goes_on = λ r. ap begin (append_assoc p (b ∷ []) r) ∙ h.goes_on (b ∷ r) ∙ rw (e, n) refl }))

begun_right : (s : List ℕ) → Right s (begin s)
unfolding number_from
begun_right s = all_right [] s _ (Before 0) (record { reached = reached_none; goes_on = λ r. refl })

-- a text is accepted exactly if it is a sheet, and its lines are told
pub accepted_exactly : (s : List ℕ) (l : Lines) → (scan_of s ≡ Ok l) ↔ Told s l
accepted_exactly s l = (there, λ t. looked s (sheet_short s t.values t.sheet) ∙ sheet_read s t.values t.sheet ∙ ap Ok (sym t.lines))
  where
    there : scan_of s ≡ Ok l → Told s l
    there e = elim (dec_lt 1024 (length s)) [
      | yes h ↦ good_bad l 1024 (sym e ∙ not_looked s h)
      | no h ↦ rw (sym (looked s (omega arith)) ∙ e) at (begun_right s)
    ]

-- a text is refused exactly if it is none, at the place that the paper says
pub refused_exactly : (s : List ℕ) (i : ℕ) → (scan_of s ≡ Err i) ↔ Malformed s i
refused_exactly s i = (there, back)
  where
    there : scan_of s ≡ Err i → Malformed s i
    there e = elim (dec_lt 1024 (length s)) [
      | yes h ↦ let is : 1024 ≡ i = cc (not_looked s h) in rw (← is) (too_long h)
      | no h ↦ stops_at (omega arith) (rw (sym (looked s (omega arith)) ∙ e) at (begun_right s))
    ]

    by_answer : (a : Result Lines ℕ) (i : ℕ) → Right s a → StopsAt s i → a ≡ Err i
    by_answer (Ok l) i t p = absurd (p.no_sheet t.values t.sheet)
    by_answer (Err j) i q p = ap Err (one_place s j i q p)

    back : {i : ℕ} → Malformed s i → scan_of s ≡ Err i
    back (too_long h) = not_looked s h
    back (stops_at {i} h p) = looked s h ∙ by_answer (begin s) i (begun_right s) p
