-- The form of a report, and where a text leaves it. A cursor goes over what the text may have next; where it has something else the cursor stays, and what follows is not
-- looked at.
--     claim=WORD                     inconclusive, true, false or out-of-model
--     keeps stem=LIST loop=LIST      or `keeps refused=13 place=0`, or no such line
--     breaks stem=LIST loop=LIST     or `breaks refused=13 place=0`, or no such line
-- LIST is states in decimal with commas between them, or nothing. Each line ends with LF.
use Rattle.std.specs.Prelude.{ℕ, ◌+◌, Bool, true, false, ◌&&◌, ◌||◌, cond, List, [], ◌∷◌, eqb, ltb, length, get_or, drop, Result, Ok, Err}
use Rattle.report_text.specs.declared.Cursor.{Cursor}
use Rattle.report_text.specs.declared.Part.{Part}
use Rattle.report_text.specs.declared.Claimed.{Claimed}
use Rattle.report_text.specs.declared.RunRead.{RunRead}
use Rattle.report_text.specs.declared.ReportParts.{ReportParts}

-- ---- cursors

abbrev pub cursor : Bool → ℕ → Cursor
cursor ok at = record { ok = ok; at = at }

-- one known byte
unfoldable pub byte_taken : List ℕ → Cursor → ℕ → Cursor
byte_taken s c b = cond (ltb c.at (length s)) (cond (c.ok && eqb (get_or s c.at 0) b) (cursor true (c.at + 1)) (cursor false c.at)) (cursor false c.at)

-- known bytes
unfoldable pub word_from : List ℕ → Cursor → List ℕ → Cursor
word_from s c [] = c
word_from s c (b ∷ w) = word_from s (byte_taken s c b) w

-- ---- lists of states

abbrev pub is_digit : ℕ → Bool
is_digit b = ltb 47 b && ltb b 58

-- a digit may stand anywhere in a list, and a comma behind a digit
abbrev pub goes_on : Bool → ℕ → Bool
goes_on inside b = is_digit b || (inside && eqb b 44)

-- a list that ends behind a digit, or at once
abbrev pub list_end : Cursor → Bool → ℕ → Cursor
list_end c inside at = cursor (inside || eqb at c.at) at

unfoldable pub list_to : Cursor → Bool → ℕ → List ℕ → Cursor
list_to c inside at [] = list_end c inside at
list_to c inside at (b ∷ s) = cond (goes_on inside b) (list_to c (is_digit b) (at + 1) s) (list_end c inside at)

unfoldable pub list_of : List ℕ → Cursor → Cursor
list_of s c = cond c.ok (list_to c false c.at (drop c.at s)) c

-- ---- the claim

-- `claim=`, and the verdicts' words with LF
abbrev pub claim_key : List ℕ
claim_key = 99 ∷ 108 ∷ 97 ∷ 105 ∷ 109 ∷ 61 ∷ []

abbrev pub verdict_word : ℕ → List ℕ
verdict_word claim =
    cond (eqb claim 0) (105 ∷ 110 ∷ 99 ∷ 111 ∷ 110 ∷ 99 ∷ 108 ∷ 117 ∷ 115 ∷ 105 ∷ 118 ∷ 101 ∷ 10 ∷ [])
    (cond (eqb claim 1) (116 ∷ 114 ∷ 117 ∷ 101 ∷ 10 ∷ [])
    (cond (eqb claim 2) (102 ∷ 97 ∷ 108 ∷ 115 ∷ 101 ∷ 10 ∷ [])
    (111 ∷ 117 ∷ 116 ∷ 45 ∷ 111 ∷ 102 ∷ 45 ∷ 109 ∷ 111 ∷ 100 ∷ 101 ∷ 108 ∷ 10 ∷ [])))

-- the verdict whose word begins with the byte
unfoldable pub claim_by : ℕ → ℕ
claim_by b = cond (eqb b 105) 0 (cond (eqb b 116) 1 (cond (eqb b 102) 2 3))

unfoldable pub verdict_from : List ℕ → Cursor → ℕ → Cursor
verdict_from s c claim = word_from s c (verdict_word claim)

abbrev pub claimed : ℕ → Cursor → Claimed
claimed claim next = record { claim = claim; next = next }

unfoldable pub claim_of : List ℕ → Claimed
claim_of s =
    let behind = word_from s (cursor true 0) claim_key in
    let claim = claim_by (get_or s behind.at 0) in
    claimed claim (verdict_from s behind claim)

-- ---- the runs

abbrev pub part : ℕ → ℕ → Part
part from upto = record { from = from; upto = upto }

abbrev pub run_read : Part → Part → Cursor → RunRead
run_read stem turn next = record { run = record { stem = stem; turn = turn }; next = next }

-- `stem=`, ` loop=`, LF, and `refused=13 place=0` with LF
abbrev pub stem_key : List ℕ
stem_key = 115 ∷ 116 ∷ 101 ∷ 109 ∷ 61 ∷ []

abbrev pub loop_key : List ℕ
loop_key = 32 ∷ 108 ∷ 111 ∷ 111 ∷ 112 ∷ 61 ∷ []

abbrev pub lf : List ℕ
lf = 10 ∷ []

abbrev pub refused_line : List ℕ
refused_line = 114 ∷ 101 ∷ 102 ∷ 117 ∷ 115 ∷ 101 ∷ 100 ∷ 61 ∷ 49 ∷ 51 ∷ 32 ∷ 112 ∷ 108 ∷ 97 ∷ 99 ∷ 101 ∷ 61 ∷ 48 ∷ 10 ∷ []

unfoldable pub shown_run : List ℕ → Cursor → RunRead
shown_run s c =
    let a = word_from s c stem_key in
    let b = list_of s a in
    let d = word_from s b loop_key in
    let e = list_of s d in
    run_read (part a.at b.at) (part d.at e.at) (word_from s e lf)

abbrev pub missing : Cursor → RunRead
missing c = run_read (part 0 0) (part 0 0) c

-- behind `keeps ` or `breaks `
unfoldable pub run_line : List ℕ → Cursor → List ℕ → RunRead
run_line s c kind =
    let behind = word_from s c kind in
    cond (eqb (get_or s behind.at 0) 114) (missing (word_from s behind refused_line)) (shown_run s behind)

-- no byte of it need be there
unfoldable pub run_of : List ℕ → Cursor → List ℕ → RunRead
run_of s c kind = cond (eqb (get_or s c.at 0) (get_or kind 0 0)) (run_line s c kind) (missing c)

abbrev pub keeps_key : List ℕ
keeps_key = 107 ∷ 101 ∷ 101 ∷ 112 ∷ 115 ∷ 32 ∷ []

abbrev pub breaks_key : List ℕ
breaks_key = 98 ∷ 114 ∷ 101 ∷ 97 ∷ 107 ∷ 115 ∷ 32 ∷ []

-- ---- the text

abbrev pub parts_of : Claimed → RunRead → RunRead → ReportParts
parts_of c k b = record { claim = c.claim; keeping = k.run; breaking = b.run }

unfoldable pub report_read : List ℕ → Result ReportParts ℕ
report_read s =
    let c = claim_of s in
    let k = run_of s c.next keeps_key in
    let b = run_of s k.next breaks_key in
    cond (b.next.ok && eqb b.next.at (length s)) (Ok (parts_of c k b)) (Err b.next.at)
