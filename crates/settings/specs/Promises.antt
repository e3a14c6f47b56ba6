-- What asking for a setting promises. The contracts of ask and look_up are equations, `r ≡ asked local shared key`, and say which part of which sheet the bytes are (`IsPart`); what
-- that means is said here by specs/Answers.
use Rattle.std.specs.Prelude.{◌≡◌, refl, Bool, true, false, cond, List, [], ℕ, ◌+◌, ◌-◌, ◌<◌, ◌↔◌, eqb, length, Result, Ok, Err}
use Rattle.std.proofs.Common.{sym, ap, ap₂, ◌∙◌, arith, eqb-true, eq-eqb, ne_eqb, le-ltb}
use Rattle.std.proofs.lemmas.Bool.{false≢true}
use Rattle.std.specs.Borrow.{Bor}
use Rattle.sheet.specs.declared.Key.{Key}
use Rattle.sheet.specs.declared.Lines.{Lines}
use Rattle.sheet.specs.Sheet.{Values, IsSheet, value_of, from_of}
use Rattle.sheet.specs.Machine.{scan_of}
use Rattle.sheet.specs.Read.{lines_of}
use Rattle.sheet.proofs.Promises.{accepted_exactly, refused_exactly}
use Rattle.sheet.specs.Where.{length_of, length_told, start_told, value_stands, value_within, empty}
use Rattle.settings.specs.declared.Spot.{Spot}
use Rattle.settings.specs.declared.SheetRefusal.{SheetRefusal}
use Rattle.answers.specs.declared.Kind.TheVariants.{NoKey}
use Rattle.settings.specs.Part.{spot_at, fitting, bytes_at, shifted, IsPart}
use Rattle.settings.specs.Asked.{refusal_of, spot_in, chosen, judged, asked}
use Rattle.settings.specs.Answers.{Answers, local_malformed, shared_malformed, in_local, in_shared, in_neither, spot_of_value}

-- ---- the machine's lines are the sheet's

has_none : (key : Key) (x : Values) → value_of key x ≡ [] → eqb (length_of key (lines_of x)) 0 ≡ true
has_none key x e = eq-eqb _ 0 (length_told key x ∙ ap length e)

has_one : (key : Key) (x : Values) → (value_of key x ≡ [] → ⊥) → eqb (length_of key (lines_of x)) 0 ≡ false
has_one key x h = ne_eqb _ 0 (λ e. h (empty (value_of key x) (sym (length_told key x) ∙ e)))

none_of : (key : Key) (x : Values) → eqb (length_of key (lines_of x)) 0 ≡ true → value_of key x ≡ []
none_of key x e = empty (value_of key x) (sym (length_told key x) ∙ eqb-true _ 0 e)

one_of : (key : Key) (x : Values) → eqb (length_of key (lines_of x)) 0 ≡ false → value_of key x ≡ [] → ⊥
one_of key x e v = false≢true (sym e ∙ has_none key x v)

spot_told : (n : ℕ) (key : Key) (x : Values) → spot_in n key (lines_of x) ≡ spot_of_value n key x
spot_told n key x = ap₂ (λ a b. spot_at n a (a + b)) (start_told key x) (length_told key x)

-- ---- what is asked, both sheets in order

sheet_scan : (s : List ℕ) (x : Values) → IsSheet s x → scan_of s ≡ Ok (lines_of x)
sheet_scan s x is = (accepted_exactly s (lines_of x)).1 (record { values = x; sheet = is; lines = refl })

-- ---- the promises

-- the answer is the one that the request says, and no other
pub asked_exactly : (local shared : List ℕ) (key : Key) (a : Result Spot SheetRefusal) → (asked local shared key ≡ a) ↔ Answers local shared key a
unfolding asked chosen
asked_exactly local shared key a = (λ e. rw (← e) (there (scan_of local) refl (scan_of shared) refl), back)
  where
    found :
        (x y : Values) → IsSheet local x → IsSheet shared y → (t : Bool) → eqb (length_of key (lines_of x)) 0 ≡ t → (u : Bool) → eqb (length_of key (lines_of y)) 0 ≡ u
        → Answers local shared key (cond t (cond u (Err (refusal_of NoKey 0 0)) (Ok (spot_in 2 key (lines_of y)))) (Ok (spot_in 1 key (lines_of x))))
    found x y is it false e u f = rw (spot_told 1 key x) (in_local is it (one_of key x e))
    found x y is it true e false f = rw (spot_told 2 key y) (in_shared is it (none_of key x e) (one_of key y f))
    found x y is it true e true f = in_neither is it (none_of key x e) (none_of key y f)

    there : (s : Result Lines ℕ) → scan_of local ≡ s → (t : Result Lines ℕ) → scan_of shared ≡ t → Answers local shared key (judged s t key)
    there (Err i) e t f = local_malformed ((refused_exactly local i).0 e)
    there (Ok l) e (Err i) f = shared_malformed ((accepted_exactly local l).0 e).sheet ((refused_exactly shared i).0 f)
    there (Ok l) e (Ok m) f =
        let a = (accepted_exactly local l).0 e in
        let b = (accepted_exactly shared m).0 f in
        rw (a.lines, b.lines) (found a.values b.values a.sheet b.sheet _ refl _ refl)

    back : {a : Result Spot SheetRefusal} → Answers local shared key a → asked local shared key ≡ a
    back (local_malformed {i} m) = rw ((refused_exactly local i).1 m) refl
    back (shared_malformed {x} {i} is m) = rw (sheet_scan local x is, (refused_exactly shared i).1 m) refl
    back (in_local {x} {y} is it h) = rw (sheet_scan local x is, sheet_scan shared y it, has_one key x h, spot_told 1 key x) refl
    back (in_shared {x} {y} is it e h) = rw (sheet_scan local x is, sheet_scan shared y it, has_none key x e, has_one key y h, spot_told 2 key y) refl
    back (in_neither {x} {y} is it e f) = rw (sheet_scan local x is, sheet_scan shared y it, has_none key x e, has_none key y f) refl

-- the bytes from .. upto of a sheet are the key's value
module _ (n : ℕ) (s : List ℕ) (key : Key) (x : Values) (is : IsSheet s x) (h : value_of key x ≡ [] → ⊥) where
  some : 0 < length (value_of key x)
  some = by_length (length (value_of key x)) (λ e. h (empty (value_of key x) e))
    where
      by_length : (m : ℕ) → (m ≡ 0 → ⊥) → 0 < m
      by_length m f = omega arith

  fits : fitting (spot_of_value n key x) s ≡ spot_of_value n key x
  fits = rw (le-ltb (length s) (from_of key x + length (value_of key x)) (value_within s x key is some), le-ltb (from_of key x + length (value_of key x)) (from_of key x) (omega arith))

  pub value_bytes : bytes_at (spot_of_value n key x) s ≡ value_of key x
  value_bytes =
      let e : from_of key x + length (value_of key x) - from_of key x ≡ length (value_of key x) = omega arith in
      rw (fits, e) (value_stands s x key is some)

-- the part of look_up: the very bytes of the value, where they stand in the local sheet
pub local_part :
    (local shared r : Bor (List ℕ)) (key : Key) (x : Values) → IsSheet local.now x → (value_of key x ≡ [] → ⊥) → IsPart (spot_of_value 1 key x) local shared r
    → (r.now ≡ value_of key x) × (r.ref_ptr ≡ shifted local.ref_ptr (from_of key x))
local_part local shared r key x is h p = (p.bytes ∙ value_bytes 1 local.now key x is h, rw (fits 1 local.now key x is h) at p.place)

-- or in the shared one
pub shared_part :
    (local shared r : Bor (List ℕ)) (key : Key) (y : Values) → IsSheet shared.now y → (value_of key y ≡ [] → ⊥) → IsPart (spot_of_value 2 key y) local shared r
    → (r.now ≡ value_of key y) × (r.ref_ptr ≡ shifted shared.ref_ptr (from_of key y))
shared_part local shared r key y is h p = (p.bytes ∙ value_bytes 2 shared.now key y is h, rw (fits 2 shared.now key y is h) at p.place)
