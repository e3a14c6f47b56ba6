-- The calls of a reader put together as the definitions have them.
use Rattle.std.specs.Prelude.{Ok, Err}
use Prim.Native.Nat.{ℕ}
use mathlib.Core.Bool.{Bool, true, ◌&&◌, cond}
use mathlib.Core.Path.{◌≡◌, refl}
use mathlib.Core.List.{List}
use lib.Dec.{eqb}
use lib.ListN.{length, get_or}
use Rattle.report_text.specs.declared.Cursor.{Cursor}
use Rattle.report_text.specs.declared.Claimed.{Claimed}
use Rattle.report_text.specs.declared.RunRead.{RunRead}
use Rattle.report_text.specs.Form.{cursor, word_from, list_of, claim_key, claim_by, verdict_from, claimed, claim_of, part, run_read, stem_key, loop_key, lf, refused_line, shown_run, missing, run_line, run_of, keeps_key, breaks_key, parts_of, report_read}

-- the claim
pub claim_is : (s : List ℕ) (behind next : Cursor) (first claim : ℕ) → behind ≡ word_from s (cursor true 0) claim_key → first ≡ get_or s behind.at 0
    → claim ≡ claim_by first → next ≡ verdict_from s behind claim → claimed claim next ≡ claim_of s
unfolding claim_of
claim_is s behind next first claim is-behind is_first is-claim is_next_lem = rw (is_next_lem, is-claim, is_first, is-behind) refl

-- the two lists of a run
pub shown_is : (s : List ℕ) (c a b d e next : Cursor) → a ≡ word_from s c stem_key → b ≡ list_of s a → d ≡ word_from s b loop_key → e ≡ list_of s d → next ≡ word_from s e lf
    → run_read (part a.at b.at) (part d.at e.at) next ≡ shown_run s c
unfolding shown_run
shown_is s c a b d e next is_a is_b is-d is-e is_next_lem = rw (is_next_lem, is-e, is-d, is_b, is_a) refl

-- a run behind its kind
pub line_is : (s : List ℕ) (c behind : Cursor) (kind : List ℕ) (first : ℕ) (t : Bool) → behind ≡ word_from s c kind → first ≡ get_or s behind.at 0 → eqb first 114 ≡ t
    → cond t (missing (word_from s behind refused_line)) (shown_run s behind) ≡ run_line s c kind
unfolding run_line
line_is s c behind kind first t is-behind is_first is-t = rw (← is-t, is_first, is-behind) refl

-- a line that may be missing
pub run_is : (s : List ℕ) (c : Cursor) (kind : List ℕ) (x y : ℕ) (t : Bool) → x ≡ get_or s c.at 0 → y ≡ get_or kind 0 0 → eqb x y ≡ t
    → cond t (run_line s c kind) (missing c) ≡ run_of s c kind
unfolding run_of
run_is s c kind x y t is_x is_y is-t = rw (← is-t, is_x, is_y) refl

-- the whole text
pub read_is : (s : List ℕ) (c : Claimed) (k b : RunRead) (t : Bool) → c ≡ claim_of s → k ≡ run_of s c.next keeps_key → b ≡ run_of s k.next breaks_key
    → (b.next.ok && eqb b.next.at (length s)) ≡ t → cond t (Ok (parts_of c k b)) (Err b.next.at) ≡ report_read s
unfolding report_read
read_is s c k b t is_c is-k is_b is-t = rw (← is-t, is_b, is-k, is_c) refl
