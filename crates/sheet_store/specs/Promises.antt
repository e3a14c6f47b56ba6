-- What the store promises. The contracts of add and copy_out are equations, `r ≡ added store sheet` and `copied store edition buffer`; what that means is said here by sheet/specs/Sheet
-- and by the texts that a store holds (`Shelf`, oldest first).
use Rattle.std.specs.Prelude.{ℕ, zero, suc, ◌≤◌, ◌<◌, ◌≡◌, Bool, List, [], ◌∷◌, ◌++◌, ◌↔◌, length, get_or, take, drop, Result, Ok, Err}
use Rattle.std.proofs.Math.Path.{refl, ap}
use Rattle.std.proofs.Common.{arith, get_or-take}
use Rattle.std.proofs.Math.Bool.{true, false, cond}
use Rattle.std.proofs.lemmas.Bool.{false≢true}
use Rattle.std.proofs.Math.Dec.{eqb, ltb}
use Rattle.std.proofs.Math.Seq.{length-take-le}
use borrow.Author.Tests.{lt-ltb, le-ltb, ltb-true, ltb-false}
use Rattle.sheet.specs.declared.Lines.{Lines}
use Rattle.sheet.specs.Sheet.{number_from, number_of, Decimal, Values, Given, left_out, given, IsSheet, Malformed}
use Rattle.sheet.specs.Machine.{scan_of}
use Rattle.sheet.proofs.Promises.{accepted_exactly, refused_exactly}
use Rattle.sheet_store.specs.declared.Kept.{Kept}
use Rattle.sheet_store.specs.declared.Store.{Store}
use Rattle.sheet_store.specs.declared.Added.{Added}
use Rattle.answers.specs.declared.Kind.TheVariants.{Value, NoKey, SheetText, NotNewer}
use Rattle.sheet_store.specs.Store.{number_in, edition_of, blank, some_long, overfull_of, refused_as, held_as, added, keeps, copied}
use Rattle.sheet_store.specs.Shelf.{Shelf, newest_from}

-- the texts with one more, of eight without the oldest
unfoldable pub shelved : List (List ℕ) → List ℕ → List (List ℕ)
shelved ts s = cond (eqb (length ts) 8) (drop 1 ts) ts ++ s ∷ []

-- what adding a text to a store that holds ts answers, in the order of the checks
pub data Adds (st : Store) (ts : List (List ℕ)) (s : List ℕ) : Added → Type 0 where
  no_sheet : {i : ℕ} → Malformed s i → Adds st ts s (refused_as SheetText 1 i st)
  no_edition : {x : Values} → IsSheet s x → x.edition ≡ [] → Adds st ts s (refused_as NoKey 0 0 st)
  not_above : {x : Values} → IsSheet s x → (x.edition ≡ [] → ⊥) → number_of x.edition ≤ newest_from 0 ts → Adds st ts s (refused_as NotNewer 0 0 st)
  taken : {x : Values} {next : Store} → IsSheet s x → newest_from 0 ts < number_of x.edition → Shelf next (shelved ts s) → Adds st ts s (held_as next)

-- ---- the edition's number

pub no_number : (v : List ℕ) → v ≡ [] → number_of v ≡ 0
unfolding number_from
no_number v e = rw e refl

pub number_none : (v : List ℕ) → Given (Decimal 1 65535) v → number_of v ≡ 0 → v ≡ []
number_none v left_out e = refl
number_none v (given d) e = absurd (omega (arith, d.least))

pub edition_is : (s : List ℕ) (x : Values) → IsSheet s x → edition_of s ≡ number_of x.edition
edition_is s x is = ap number_in ((accepted_exactly s _).1 (record { values = x; sheet = is; lines = refl }))

-- a text with an edition's number is a sheet with that edition
pub record Edition (s : List ℕ) : Type 0 where
  pub values : Values
  pub sheet : IsSheet s values
  pub some : values.edition ≡ [] → ⊥
  pub number : edition_of s ≡ number_of values.edition

pub edition_told : (s : List ℕ) → 0 < edition_of s → Edition s
edition_told s = by_scan (scan_of s) refl
  where
    by_scan : (a : Result Lines ℕ) → scan_of s ≡ a → 0 < number_in a → Edition s
    by_scan (Err i) e h = absurd (omega arith)
    by_scan (Ok l) e h =
        let t = (accepted_exactly s l).0 e in
        let n : l.number ≡ number_of t.values.edition = ap (λ x. x.number) t.lines in
        record { values = t.values; sheet = t.sheet; some = λ z. omega (arith, no_number t.values.edition z); number = edition_is s t.values t.sheet }

-- ---- any store that is handed in

-- it counts more than it may: over eight sheets, or over 1,024 bytes of one that it counts
pub data CountsTooMany (st : Store) : Type 0 where
  sheets : 8 < st.count → CountsTooMany st
  bytes : {i : ℕ} → i < st.count → 1024 < (get_or st.sheets i blank).len → CountsTooMany st

long_at : (ks : List Kept) → some_long ks ≡ true → (i : ℕ) × (i < length ks) × (1024 < (get_or ks i blank).len)
unfolding some_long
long_at [] e = absurd (false≢true e)
long_at (t ∷ ts) e = by_test (ltb 1024 t.len) refl e (long_at ts)
  where
    by_test :
        (b : Bool) → ltb 1024 t.len ≡ b → cond b true (some_long ts) ≡ true → (some_long ts ≡ true → (i : ℕ) × (i < length ts) × (1024 < (get_or ts i blank).len))
        → (i : ℕ) × (i < suc (length ts)) × (1024 < (get_or (t ∷ ts) i blank).len)
    by_test true f e g = (0, omega arith, ltb-true 1024 t.len f)
    by_test false f e g = let (i, h, l) = g e in (suc i, omega arith, l)

long_there : (ks : List Kept) (i : ℕ) → i < length ks → 1024 < (get_or ks i blank).len → some_long ks ≡ true
unfolding some_long
long_there [] i h l = absurd (omega arith)
long_there (t ∷ ts) zero h l = rw (lt-ltb 1024 t.len l) refl
long_there (t ∷ ts) (suc i) h l = rw (long_there ts i (omega arith) l) (either (ltb 1024 t.len))
  where
    either : (b : Bool) → cond b true true ≡ true
    either true = refl
    either false = refl

module _ (st : Store) (places : length st.sheets ≡ 8) where
  pub overfull_exactly : (overfull_of st ≡ true) ↔ CountsTooMany st
  unfolding overfull_of
  overfull_exactly = (there (ltb 8 st.count) refl, back)
    where
      there : (b : Bool) → ltb 8 st.count ≡ b → cond b true (some_long (take st.count st.sheets)) ≡ true → CountsTooMany st
      there true f e = sheets (ltb-true 8 st.count f)
      there false f e =
          let (i, h, l) = long_at (take st.count st.sheets) e in
          let n = length-take-le st.count st.sheets (omega (arith, ltb-false 8 st.count f)) in
          bytes {i = i} (omega arith) (rw (get_or-take st.count st.sheets i blank (omega arith)) at l)

      back : CountsTooMany st → cond (ltb 8 st.count) true (some_long (take st.count st.sheets)) ≡ true
      back (sheets h) = rw (lt-ltb 8 st.count h) refl
      back (bytes {i} h l) = by_test (ltb 8 st.count) refl
        where
          by_test : (b : Bool) → ltb 8 st.count ≡ b → cond b true (some_long (take st.count st.sheets)) ≡ true
          by_test true f = refl
          by_test false f =
              let n = length-take-le st.count st.sheets (omega (arith, ltb-false 8 st.count f)) in
              long_there (take st.count st.sheets) i (omega arith) (rw (get_or-take st.count st.sheets i blank h) l)

  -- such a store is refused by 9, before anything else is looked at
  pub nine_first : CountsTooMany st → (s buf : List ℕ) (e : ℕ) → (added st s ≡ refused_as Value 0 0 st) × (copied st e buf ≡ keeps Value buf)
  unfolding added copied
  nine_first many s buf e = (rw (overfull_exactly.1 many) refl, rw (overfull_exactly.1 many) refl)

-- ---- after any adds

-- the store after texts are handed in one after the other, whether they are taken or not
unfoldable pub adding : Store → List (List ℕ) → Store
adding st [] = st
adding st (s ∷ ss) = adding (added st s).store ss

-- a text is taken where it is a sheet with an edition above the newest (a text without an edition has number 0); the texts after it
abbrev pub takes : List (List ℕ) → List ℕ → Bool
takes ts s = ltb (newest_from 0 ts) (edition_of s)

unfoldable pub shelved_if : List (List ℕ) → List ℕ → List (List ℕ)
shelved_if ts s = cond (takes ts s) (shelved ts s) ts

unfoldable pub shelving : List (List ℕ) → List (List ℕ) → List (List ℕ)
shelving ts [] = ts
shelving ts (s ∷ ss) = shelving (shelved_if ts s) ss

-- one text more
pub adds_shelf : {st : Store} {ts : List (List ℕ)} {s : List ℕ} {a : Added} → Shelf st ts → Adds st ts s a → Shelf a.store (shelved_if ts s)
unfolding shelved_if
adds_shelf {st} {ts} {s} h (no_sheet {i} m) = rw (le-ltb (newest_from 0 ts) (edition_of s) (rw ((refused_exactly s i).1 m) (omega arith))) h
adds_shelf {st} {ts} {s} h (no_edition {x} is e) = rw (le-ltb (newest_from 0 ts) (edition_of s) (omega (arith, edition_is s x is, no_number x.edition e))) h
adds_shelf {st} {ts} {s} h (not_above {x} is e l) = rw (le-ltb (newest_from 0 ts) (edition_of s) (omega (arith, edition_is s x is))) h
adds_shelf {st} {ts} {s} h (taken {x} is l k) = rw (lt-ltb (newest_from 0 ts) (edition_of s) (omega (arith, edition_is s x is))) k
