-- The store's calls as the code makes them.
use Rattle.std.specs.Prelude.{ℕ, suc, ◌+◌, ◌-◌, Bool, true, false, cond, List, [], ◌∷◌, ◌++◌, eqb, ltb, leb, length, get_or, take, drop, set, replicate, Result, Ok, Err}
use Rattle.words.specs.Over.{over}
use Rattle.sheet.specs.declared.Lines.{Lines}
use Rattle.sheet.specs.Machine.{scan_of}
use Rattle.answers.specs.declared.Kind.{Kind}
use Rattle.answers.specs.declared.Kind.TheVariants.{Value, Room, NoKey, SheetText, NotNewer, NotHeld}
use Rattle.settings.specs.Asked.{refusal_of}
use Rattle.sheet_store.specs.declared.Kept.{Kept}
use Rattle.sheet_store.specs.declared.Store.{Store}
use Rattle.sheet_store.specs.declared.Added.{Added}
use Rattle.sheet_store.specs.declared.Sheets.{Sheets}
use Rattle.settings.specs.declared.SheetRefusal.{SheetRefusal}
use Rattle.sheet_store.specs.declared.Length.{Length}

abbrev pub store_as : ℕ → List Kept → Store
store_as n ks = record { count = n; sheets = ks }

abbrev pub kept_as : ℕ → List ℕ → Kept
kept_as n bs = record { len = n; bytes = bs }

-- ---- a kept sheet

-- its bytes
abbrev pub text_in : Kept → List ℕ
text_in t = take t.len t.bytes

-- the edition's number of a text, 0 where it has none
abbrev pub number_in : Result Lines ℕ → ℕ
number_in (Ok l) = l.number
number_in (Err i) = 0

abbrev pub edition_of : List ℕ → ℕ
edition_of s = number_in (scan_of s)

unfoldable pub edition_in : Kept → ℕ
edition_in t = cond (ltb 1024 t.len) 0 (edition_of (text_in t))

abbrev pub is_edition : ℕ → Kept → Bool
is_edition e t = eqb (edition_in t) e

-- as a text is kept: zeros behind it
unfoldable pub kept_of : List ℕ → Kept
kept_of s = kept_as (length s) (over s (replicate 1024 0))

-- ---- a store

-- the sheets without the first, as far as they are moved
abbrev pub slid : ℕ → List Kept → List Kept
slid i ks = take i (drop 1 ks) ++ drop i ks

unfoldable pub dropped : Store → Store
dropped st = store_as 7 (slid 7 st.sheets)

unfoldable pub pushed : Store → Kept → Store
pushed st t = store_as (st.count + 1) (set st.sheets st.count t)

-- what is read beyond the sheets (no call does)
abbrev pub blank : Kept
blank = kept_as 0 []

-- it counts more than it may: over eight sheets, or a sheet of over 1,024 bytes
unfoldable pub some_long : List Kept → Bool
some_long [] = false
some_long (t ∷ ts) = cond (ltb 1024 t.len) true (some_long ts)

unfoldable pub overfull_of : Store → Bool
overfull_of st = cond (ltb 8 st.count) true (some_long (take st.count st.sheets))

unfoldable pub newest_of : Store → ℕ
newest_of st = cond (eqb st.count 0) 0 (edition_in (get_or st.sheets (st.count - 1) blank))

-- ---- adding

abbrev pub added_as : Result Sheets SheetRefusal → Store → Added
added_as a st = record { answer = a; store = st }

abbrev pub refused_as : Kind → ℕ → ℕ → Store → Added
refused_as k sheet place st = added_as (Err (refusal_of k sheet place)) st

abbrev pub held_as : Store → Added
held_as st = added_as (Ok (record { count = st.count })) st

-- by the edition's number
unfoldable pub added_by : Store → List ℕ → ℕ → Added
added_by st s n =
    cond (eqb n 0) (refused_as NoKey 0 0 st)
    (cond (leb n (newest_of st)) (refused_as NotNewer 0 0 st) (cond (eqb st.count 8) (held_as (pushed (dropped st) (kept_of s))) (held_as (pushed st (kept_of s)))))

abbrev pub added_for : Result Lines ℕ → Store → List ℕ → Added
added_for (Err i) st s = refused_as SheetText 1 i st
added_for (Ok l) st s = added_by st s l.number

unfoldable pub added : Store → List ℕ → Added
added st s = cond (overfull_of st) (refused_as Value 0 0 st) (added_for (scan_of s) st s)

-- ---- copying out

-- the place of an edition, how many there are where there is none
unfoldable pub place_of : ℕ → List Kept → ℕ
place_of e [] = 0
place_of e (t ∷ ts) = cond (eqb (edition_in t) e) 0 (suc (place_of e ts))

-- an answer, and the buffer
pub record Out : Type 0 where
  pub answer : Result Length SheetRefusal
  pub buffer : List ℕ

abbrev pub no_copy : Kind → Result Length SheetRefusal
no_copy k = Err (refusal_of k 0 0)

abbrev pub keeps : Kind → List ℕ → Out
keeps k buf = record { answer = no_copy k; buffer = buf }

abbrev pub copied_kept : Kept → List ℕ → Out
copied_kept t buf = cond (ltb (length buf) t.len) (keeps Room buf) (record { answer = Ok (record { bytes = t.len }); buffer = over (text_in t) buf })

abbrev pub copied_at : ℕ → Store → List ℕ → Out
copied_at i st buf = cond (ltb i st.count) (copied_kept (get_or st.sheets i blank) buf) (keeps NotHeld buf)

unfoldable pub copied : Store → ℕ → List ℕ → Out
copied st e buf =
    cond (overfull_of st) (keeps Value buf) (cond (eqb e 0) (keeps NotHeld buf) (copied_at (place_of e (take st.count st.sheets)) st buf))
