-- How the reader goes through a report that stands there: each word, each list and each line that it looks for.
use Rattle.std.specs.Prelude.{ℕ, zero, suc, ◌+◌, ◌-◌, ◌≤◌, ◌<◌, ◌≡◌, refl, ◌⊎◌, Bool, true, false, ◌&&◌, List, [], ◌∷◌, ◌++◌, eqb, length, get_or, drop}
use Rattle.std.proofs.Common.{arith, sym, ap, subst, ◌∙◌, inl, inr, length-append, length-drop, drop-drop, get_or-drop, lt-ltb, le-ltb, eq-eqb}
use Rattle.std.proofs.Math.Bool.{So}
use Rattle.std.proofs.Math.Seq.{take-append_seam, drop-append_seam}
use Rattle.words.specs.Truth.{and_says}
use Rattle.report_text.specs.declared.Cursor.{Cursor}
use Rattle.report_text.specs.declared.RunRead.{RunRead}
use Rattle.report_text.specs.Form as form
use Rattle.report_text.specs.Form.{cursor, byte_taken, word_from, is_digit, goes_on, list_to, list_of, claim_key, verdict_word, claim_by, verdict_from, claimed, part, run_read, stem_key, loop_key, refused_line, shown_run, missing, run_of, keeps_key, breaks_key}
use Rattle.report_text.specs.States.{part_of}
use Rattle.report_text.proofs.Whole.{claim_is, shown_is, line_is, run_is}

-- ---- what stands at a place

-- a byte stands at place i, and behind it r
pub cons_at : (s : List ℕ) (i b : ℕ) (r : List ℕ) → drop i s ≡ b ∷ r → (i < length s) × (get_or s i 0 ≡ b) × (drop (i + 1) s ≡ r)
cons_at s i b r e = (
  omega (arith, length-drop i s, ap length e),
  ap (λ (k : ℕ). get_or s k 0) (omega arith) ∙ sym (get_or-drop i s 0 0) ∙ ap (λ (l : List ℕ). get_or l 0 0) e,
  sym (drop-drop 1 i s) ∙ ap (drop 1) e,
)

-- behind a text that stands there
pub past : (s w rest : List ℕ) (i : ℕ) → drop i s ≡ w ++ rest → drop (i + length w) s ≡ rest
past s w rest i e = sym (drop-drop (length w) i s) ∙ ap (drop (length w)) e ∙ drop-append_seam w rest

-- ---- words

pub word_through : (s w rest : List ℕ) (i : ℕ) → drop i s ≡ w ++ rest → cursor true (i + length w) ≡ word_from s (cursor true i) w
unfolding word_from byte_taken
word_through s [] rest i e = ap (cursor true) (omega arith)
word_through s (b ∷ w) rest i e =
    let (low, is, on) = cons_at s i b (w ++ rest) e in
    rw (lt-ltb i (length s) low, is, eq-eqb b b refl)
    (ap (cursor true) (omega arith) ∙ word_through s w rest (i + 1) on)

-- ---- lists

-- a text that goes on as a list does, from behind a digit (true) or not, and ends behind a digit
unfoldable pub through : Bool → List ℕ → Bool
through inside [] = inside
through inside (b ∷ l) = goes_on inside b && through (is_digit b) l

pub through_append : (inside : Bool) (a b : List ℕ) → So (through inside a) → So (through true b) → So (through inside (a ++ b))
unfolding through
through_append inside [] b h k = subst (λ (x : Bool). So (through x b)) (sym h) k
through_append inside (x ∷ a) b h k =
    let (g, t) = (and_says (goes_on inside x) (through (is_digit x) a)).0 h in
    (and_says (goes_on inside x) (through (is_digit x) (a ++ b))).1 (g, through_append (is_digit x) a b t k)

-- a byte with which no list goes on
abbrev pub Stops : ℕ → Type 0
Stops z = (is_digit z ≡ false) × (eqb z 44 ≡ false)

to_end : (c : Cursor) (inside : Bool) (at : ℕ) (l : List ℕ) (z : ℕ) (rest : List ℕ) → Stops z → So (through inside l) → list_to c inside at (l ++ z ∷ rest) ≡ cursor true (at + length l)
unfolding list_to through
to_end c inside at [] z rest (no_digit, no-comma) h = rw (h, no_digit, no-comma) (ap (cursor true) (omega arith))
to_end c inside at (b ∷ l) z rest stops h =
    let (g, t) = (and_says (goes_on inside b) (through (is_digit b) l)).0 h in
    rw g (to_end c (is_digit b) (at + 1) l z rest stops t ∙ ap (cursor true) (omega arith))

-- a list: nothing, or states
abbrev pub IsList : List ℕ → Type 0
IsList l = (l ≡ []) ⊎ So (through false l)

pub list_through : (s l : List ℕ) (z : ℕ) (rest : List ℕ) (i : ℕ) → Stops z → IsList l → drop i s ≡ l ++ z ∷ rest → cursor true (i + length l) ≡ list_of s (cursor true i)
unfolding list_of list_to
list_through s l z rest i stops (inl none) e =
    rw (e, none, stops.0, eq-eqb i i refl) (ap (cursor true) (omega arith))
list_through s l z rest i stops (inr some) e = sym (ap (list_to (cursor true i) false i) e ∙ to_end (cursor true i) false i l z rest stops some)

-- the bytes of a part
part_is : (s l : List ℕ) (z : ℕ) (rest : List ℕ) (i : ℕ) → drop i s ≡ l ++ z ∷ rest → part_of (part i (i + length l)) s ≡ l
unfolding part_of
part_is s l z rest i e =
    let room : i + length l ≤ length s = omega (arith, length-drop i s, ap length e, length-append l (z ∷ rest)) in
    let long : i + length l - i ≡ length l = omega arith in
    rw (le-ltb (length s) (i + length l) room, le-ltb (i + length l) i (omega arith), long, e) (take-append_seam l (z ∷ rest))

-- ---- lines

abbrev pub kind_key : Bool → List ℕ
kind_key true = keeps_key
kind_key false = breaks_key

-- no byte stands where there is no run
none_there : (s : List ℕ) → part_of (part 0 0) s ≡ []
unfolding part_of
none_there s = rw (le-ltb (length s) 0 (omega arith)) refl

-- the line of a kind stands at i, with these two lists, and `rest` behind it: it is gone through, and its lists are found
pub record Through (s : List ℕ) (i : ℕ) (keeps : Bool) (stem turn rest : List ℕ) : Type 0 where
  pub read : RunRead
  pub place : ℕ
  pub is : read ≡ run_of s (cursor true i) (kind_key keeps)
  pub next : read.next ≡ cursor true place
  pub behind : drop place s ≡ rest
  pub within : place ≤ length s
  pub stem_is : part_of read.run.stem s ≡ stem
  pub turn_is : part_of read.run.turn s ≡ turn

first_letter : (keeps : Bool) (s rest : List ℕ) (i : ℕ) → drop i s ≡ kind_key keeps ++ rest → get_or (kind_key keeps) 0 0 ≡ get_or s i 0
first_letter true s rest i e = sym (cons_at s i _ _ e).1
first_letter false s rest i e = sym (cons_at s i _ _ e).1

-- its kind is gone through
kind_on : (keeps : Bool) (s : List ℕ) (i : ℕ) (rest : List ℕ) → drop i s ≡ kind_key keeps ++ rest → form.run_line s (cursor true i) (kind_key keeps) ≡ run_of s (cursor true i) (kind_key keeps)
kind_on keeps s i rest e = run_is s (cursor true i) (kind_key keeps) (get_or (kind_key keeps) 0 0) (get_or (kind_key keeps) 0 0) true (first_letter keeps s rest i e) refl (eq-eqb (get_or (kind_key keeps) 0 0) _ refl)

pub run_through : (s : List ℕ) (i : ℕ) (keeps : Bool) (stem turn rest : List ℕ) → IsList stem → IsList turn
    → drop i s ≡ kind_key keeps ++ (stem_key ++ (stem ++ (loop_key ++ (turn ++ 10 ∷ rest)))) → Through s i keeps stem turn rest
run_through s i keeps stem turn rest is-stem is-turn e = record {
  read = run_read (part a b) (part d f) (cursor true (f + 1));
  place = f + 1;
  is = shown ∙ line_is s (cursor true i) (cursor true k) (kind_key keeps) 115 false (word_through s (kind_key keeps) _ i e) (sym (cons_at s k _ _ at_k).1) refl ∙ kind_on keeps s i _ e;
  next = refl;
  behind = (cons_at s f _ _ at_f).2;
  within = omega (arith, (cons_at s f _ _ at_f).0);
  stem_is = part_is s stem 32 _ a at_a;
  turn_is = part_is s turn 10 rest d at_d;
}
  where
    k : ℕ
    k = i + length (kind_key keeps)

    at_k : drop k s ≡ stem_key ++ (stem ++ (loop_key ++ (turn ++ 10 ∷ rest)))
    at_k = past s (kind_key keeps) _ i e

    a : ℕ
    a = k + 5

    at_a : drop a s ≡ stem ++ (loop_key ++ (turn ++ 10 ∷ rest))
    at_a = past s stem_key _ k at_k

    b : ℕ
    b = a + length stem

    at_b : drop b s ≡ loop_key ++ (turn ++ 10 ∷ rest)
    at_b = past s stem _ a at_a

    d : ℕ
    d = b + 6

    at_d : drop d s ≡ turn ++ 10 ∷ rest
    at_d = past s loop_key _ b at_b

    f : ℕ
    f = d + length turn

    at_f : drop f s ≡ 10 ∷ rest
    at_f = past s turn _ d at_d

    shown : run_read (part a b) (part d f) (cursor true (f + 1)) ≡ shown_run s (cursor true k)
    shown =
        shown_is s (cursor true k) (cursor true a) (cursor true b) (cursor true d) (cursor true f) (cursor true (f + 1)) (word_through s stem_key _ k at_k)
        (list_through s stem 32 _ a (refl, refl) is-stem at_a) (word_through s loop_key _ b at_b)
        (list_through s turn 10 rest d (refl, refl) is-turn at_d) (word_through s (10 ∷ []) rest f at_f)

pub no_run_through : (s : List ℕ) (i : ℕ) (keeps : Bool) (rest : List ℕ) → drop i s ≡ kind_key keeps ++ (refused_line ++ rest) → Through s i keeps [] [] rest
no_run_through s i keeps rest e = record {
  read = missing (cursor true (k + 19));
  place = k + 19;
  is = ap missing (word_through s refused_line rest k at_k)
      ∙ line_is s (cursor true i) (cursor true k) (kind_key keeps) 114 true (word_through s (kind_key keeps) _ i e) (sym (cons_at s k _ _ at_k).1) refl ∙ kind_on keeps s i _ e;
  next = refl;
  behind = past s refused_line rest k at_k;
  within = omega (arith, length-drop k s, ap length at_k, length-append refused_line rest);
  stem_is = none_there s;
  turn_is = none_there s;
}
  where
    k : ℕ
    k = i + length (kind_key keeps)

    at_k : drop k s ≡ refused_line ++ rest
    at_k = past s (kind_key keeps) _ i e

pub left_out_through : (s : List ℕ) (i : ℕ) (keeps : Bool) (rest : List ℕ) → i ≤ length s → eqb (get_or rest 0 0) (get_or (kind_key keeps) 0 0) ≡ false → drop i s ≡ rest → Through s i keeps [] [] rest
left_out_through s i keeps rest low another e = record {
  read = missing (cursor true i);
  place = i;
  is = run_is s (cursor true i) (kind_key keeps) (get_or rest 0 0) (get_or (kind_key keeps) 0 0) false here refl another;
  next = refl;
  behind = e;
  within = low;
  stem_is = none_there s;
  turn_is = none_there s;
}
  where
    here : get_or rest 0 0 ≡ get_or s i 0
    here = ap (λ (l : List ℕ). get_or l 0 0) (sym e) ∙ get_or-drop i s 0 0 ∙ ap (λ (k : ℕ). get_or s k 0) (omega arith)

-- ---- the claim

-- a verdict's word tells its number
letter_of_lem : (claim : ℕ) → claim ≤ 3 → (rest : List ℕ) → claim ≡ claim_by (get_or (verdict_word claim ++ rest) 0 0)
unfolding claim_by
letter_of_lem zero few rest = refl
letter_of_lem (suc zero) few rest = refl
letter_of_lem (suc (suc zero)) few rest = refl
letter_of_lem (suc (suc (suc zero))) few rest = refl
letter_of_lem (suc (suc (suc (suc n)))) few rest = absurd (omega arith)

pub claim_through : (s : List ℕ) (claim : ℕ) → claim ≤ 3 → (rest : List ℕ) → s ≡ claim_key ++ (verdict_word claim ++ rest)
    → claimed claim (cursor true (6 + length (verdict_word claim))) ≡ form.claim_of s
unfolding verdict_from
claim_through s claim few rest e =
    claim_is s (cursor true 6) (cursor true (6 + length (verdict_word claim))) (get_or (verdict_word claim ++ rest) 0 0) claim (word_through s claim_key (verdict_word claim ++ rest) 0 e) here
    (letter_of_lem claim few rest) (word_through s (verdict_word claim) rest 6 at_6)
  where
    at_6 : drop 6 s ≡ verdict_word claim ++ rest
    at_6 = past s claim_key (verdict_word claim ++ rest) 0 e

    here : get_or (verdict_word claim ++ rest) 0 0 ≡ get_or s 6 0
    here = ap (λ (l : List ℕ). get_or l 0 0) (sym at_6) ∙ get_or-drop 6 s 0 0
