-- A store in words of 64 bits.
use Rattle.std.specs.Prelude.{ℕ, zero, suc, ◌+◌, ◌*◌, ◌-◌, ◌/◌, ◌%◌, cond, List, [], ◌∷◌, eqb, ltb, get_or, Result, Ok, Err}
use Rattle.words.specs.Below.{list_below}
use Rattle.sheet_store.specs.declared.Sheets.{Sheets}
use Rattle.settings.specs.declared.SheetRefusal.{SheetRefusal}
use Rattle.sheet_store.specs.declared.Added.{Added}
use Rattle.sheet_store.specs.declared.Kept.{Kept}
use Rattle.sheet_store.specs.declared.Store.{Store}
use Rattle.sheet_store.specs.Store.{store_as, kept_as, blank}

-- byte k of a word
unfoldable pub byte_of : ℕ → ℕ → ℕ
byte_of w zero = w % 256
byte_of w (suc k) = byte_of (w / 256) k

-- the word of the bytes from p on, n of them behind the first
unfoldable pub pack_from : List ℕ → ℕ → ℕ → ℕ
pack_from bs p zero = get_or bs p 0
pack_from bs p (suc n) = get_or bs p 0 + 256 * pack_from bs (p + 1) n

-- word k of a sheet's bytes
unfoldable pub packed : List ℕ → ℕ → ℕ
packed bs k = pack_from bs (8 * k) 7

-- the store that the words are
abbrev pub byte_in : List ℕ → ℕ → ℕ → ℕ
byte_in w i j = byte_of (get_or w (9 + 128 * i + j / 8) 0) (j % 8)

unfoldable pub kept_in : List ℕ → ℕ → Kept
kept_in w i = kept_as (get_or w (1 + i) 0) (list_below 1024 (byte_in w i))

unfoldable pub store_in : List ℕ → Store
store_in w =
    store_as (get_or w 0 0) (kept_in w 0 ∷ kept_in w 1 ∷ kept_in w 2 ∷ kept_in w 3 ∷ kept_in w 4 ∷ kept_in w 5 ∷ kept_in w 6 ∷ kept_in w 7 ∷ [])

-- the words of a store
unfoldable pub word_of : Store → ℕ → ℕ
word_of st p =
    cond (eqb p 0) st.count
    (cond (ltb p 9) (get_or st.sheets (p - 1) blank).len (cond (ltb p 1033) (packed (get_or st.sheets ((p - 9) / 128) blank).bytes ((p - 9) % 128)) 0))

unfoldable pub words_of : Store → List ℕ
words_of st = list_below 1040 (word_of st)

-- the words after an answer
abbrev pub next_by : Result Sheets SheetRefusal → List ℕ → List ℕ → List ℕ
next_by (Ok n) new old = new
next_by (Err r) new old = old

unfoldable pub next_words : List ℕ → Added → List ℕ
next_words w a = next_by a.answer (words_of a.store) w
