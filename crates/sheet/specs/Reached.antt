-- What the machine has read where it is not stuck: whole lines, then a part of a key or of a value. So what it has read begins a sheet.
use Prim.Native.Nat.{ℕ, zero, suc, ◌+◌, ◌≤◌, ◌<◌}
use Rattle.std.specs.Prelude.{◌≡◌, Bool, true, false, cond, eqb, ltb, get_or, drop}
use Rattle.std.proofs.Math.Path.{refl, ap}
use Rattle.std.proofs.Common.{sym, ◌∙◌, add-one, take-append-drop, take-suc, take_all}
use Rattle.std.proofs.lemmas.Bool.{false≢true}
use mathlib.Core.List.{List, [], ◌∷◌, ◌++◌, append_assoc, append-nil}
use native.Mathlib.Omega.{arith}
use Rattle.std.proofs.Math.ListN.{length, take}
use borrow.Author.Tests.{ltb-true, ltb-false, eqb-true, eqb-false}
use Rattle.sheet.specs.declared.Lines.{Lines}
use Rattle.sheet.specs.declared.State.{State}
use Rattle.sheet.specs.declared.State.TheVariants.{Before, Name, Value, Stuck}
use Rattle.sheet.specs.Sheet.{edition_key, rule_key, closing_key, Each, none, more, number_from, Values, line_of, text_of, Given, left_out, given, IsSheet, Begins}
use Rattle.sheet.specs.Machine.{line_by, begun, key_byte, key_size, named, stuck, file_as}
use Rattle.sheet.specs.Value.{FineOf, amount, fine_some}
use Rattle.sheet.specs.Read.{key_of, lines_of}

-- ---- a line more

abbrev value_at : ℕ → Values → List ℕ
value_at zero x = x.edition
value_at (suc zero) x = x.rule
value_at (suc (suc zero)) x = x.closing
value_at (suc (suc (suc k))) x = []

-- the values with that of line k put in
abbrev pub put : ℕ → List ℕ → Values → Values
put zero u x = record { edition = u; rule = x.rule; closing = x.closing }
put (suc zero) u x = record { edition = x.edition; rule = u; closing = x.closing }
put (suc (suc k)) u x = record { edition = x.edition; rule = x.rule; closing = u }

-- the text is a sheet with the values x, which have no line from k on, and l tells its lines
pub record Lined (k : ℕ) (s : List ℕ) (x : Values) (l : Lines) : Type 0 where
  pub sheet : IsSheet s x
  pub no_more : (j : ℕ) → k ≤ j → value_at j x ≡ []
  pub lines : l ≡ lines_of x

pub line_some : (key u : List ℕ) → 0 < length u → line_of key u ≡ key ++ (u ++ 10 ∷ [])
unfolding line_of
line_some key [] h = absurd (omega arith)
line_some key (b ∷ v) h = append_assoc key (b ∷ v) (10 ∷ [])

line_none : (key : List ℕ) → line_of key [] ≡ []
unfolding line_of
line_none key = refl

put_text_lem :
    (k : ℕ) (u : List ℕ) (x : Values) → k < 3 → 0 < length u → ((j : ℕ) → k ≤ j → value_at j x ≡ []) → text_of (put k u x) ≡ text_of x ++ (key_of k ++ (u ++ 10 ∷ []))
unfolding text_of
put_text_lem zero u x h s n = rw (n 0 (omega arith), n 1 (omega arith), n 2 (omega arith)) (simp (line_none, append-nil) (line_some edition_key u s))
put_text_lem (suc zero) u x h s n = rw (n 1 (omega arith), n 2 (omega arith)) (simp (line_none, append-nil) (ap (λ t. line_of edition_key x.edition ++ t) (line_some rule_key u s)))
put_text_lem (suc (suc zero)) u x h s n = rw (n 2 (omega arith), line_some closing_key u s) (simp (line_none, append-nil, append_assoc))
put_text_lem (suc (suc (suc k))) u x h s n = absurd (omega arith)

put_lines_lem : (k : ℕ) (u : List ℕ) (x : Values) → k < 3 → file_as (lines_of x) k (length u) (amount k u) ≡ lines_of (put k u x)
unfolding file_as
put_lines_lem zero u x h = refl
put_lines_lem (suc zero) u x h = refl
put_lines_lem (suc (suc zero)) u x h = refl
put_lines_lem (suc (suc (suc k))) u x h = absurd (omega arith)

put_sheet : (k : ℕ) (u s : List ℕ) (x : Values) → k < 3 → FineOf k u → IsSheet s x → s ++ (key_of k ++ (u ++ 10 ∷ [])) ≡ text_of (put k u x) → IsSheet (s ++ (key_of k ++ (u ++ 10 ∷ []))) (put k u x)
put_sheet zero u s x h f is e = record { text = e; edition = given f; rule = is.rule; closing = is.closing }
put_sheet (suc zero) u s x h f is e = record { text = e; edition = is.edition; rule = given f; closing = is.closing }
put_sheet (suc (suc k)) u s x h f is e = record { text = e; edition = is.edition; rule = is.rule; closing = given f }

put_none : (k j : ℕ) (u : List ℕ) (x : Values) → k + 1 ≤ j → value_at j (put k u x) ≡ value_at j x
put_none zero zero u x h = absurd (omega arith)
put_none zero (suc zero) u x h = refl
put_none zero (suc (suc zero)) u x h = refl
put_none zero (suc (suc (suc j))) u x h = refl
put_none (suc zero) zero u x h = absurd (omega arith)
put_none (suc zero) (suc zero) u x h = absurd (omega arith)
put_none (suc zero) (suc (suc zero)) u x h = refl
put_none (suc zero) (suc (suc (suc j))) u x h = refl
put_none (suc (suc k)) zero u x h = absurd (omega arith)
put_none (suc (suc k)) (suc zero) u x h = absurd (omega arith)
put_none (suc (suc k)) (suc (suc zero)) u x h = absurd (omega arith)
put_none (suc (suc k)) (suc (suc (suc j))) u x h = refl

-- a line more is a sheet again
pub line_more :
    (k : ℕ) (s u : List ℕ) (x : Values) (l : Lines) → k < 3 → FineOf k u → Lined k s x l
    → Lined (k + 1) (s ++ (key_of k ++ (u ++ 10 ∷ []))) (put k u x) (file_as l k (length u) (amount k u))
line_more k s u x l h f d =
    record {
      sheet = put_sheet k u s x h f d.sheet (rw d.sheet.text (sym (put_text_lem k u x h (fine_some k u f) d.no_more)));
      no_more = λ j g. put_none k j u x g ∙ d.no_more j (omega arith);
      lines = rw d.lines (put_lines_lem k u x h);
    }

-- ---- what is read

-- the machine has read p, knows the lines l, and is in a state that is not stuck
pub data Reached (p : List ℕ) (l : Lines) : State → Type 0 where
  before : {k : ℕ} (x : Values) → Lined k p x l → Reached p l (Before k)
  naming :
      {k i : ℕ} (s : List ℕ) (x : Values) → k < 3 → 0 < i → i < length (key_of k) → p ≡ s ++ take i (key_of k) → Lined k s x l → Reached p l (Name k i)
  giving :
      {k at n : ℕ} (s u : List ℕ) (x : Values) → k < 3 → p ≡ s ++ (key_of k ++ u) → Lined k s x l → Given (FineOf k) u → at ≡ length u → n ≡ amount k u
      → Reached p l (Value k at n)

-- the start
pub reached_none : Reached [] (lines_of (record { edition = []; rule = []; closing = [] })) (Before 0)
unfolding text_of line_of
reached_none =
    before (record { edition = []; rule = []; closing = [] })
    (record { sheet = record { text = refl; edition = left_out; rule = left_out; closing = left_out }; no_more = λ j h. empty j; lines = refl })
  where
    empty : (j : ℕ) → value_at j (record { edition = []; rule = []; closing = [] }) ≡ []
    empty zero = refl
    empty (suc zero) = refl
    empty (suc (suc zero)) = refl
    empty (suc (suc (suc j))) = refl

-- ---- it begins a sheet

each_one : (lo hi b : ℕ) → lo ≤ b → b ≤ hi → Each lo hi (b ∷ [])
each_one lo hi b l h = more l h none

-- the byte `1` is a value of every key
one_fine : (k : ℕ) → FineOf k (49 ∷ [])
unfolding number_from
one_fine zero = record { digits = each_one 48 57 49 (omega arith) (omega arith); some = omega arith; no_leading_zero = λ h e. omega arith; least = omega arith; most = omega arith }
one_fine (suc zero) = record { bytes = each_one 32 126 49 (omega arith) (omega arith); some = omega arith; most = omega arith }
one_fine (suc (suc k)) = record { digits = each_one 48 57 49 (omega arith) (omega arith); some = omega arith; no_leading_zero = λ h e. omega arith; least = omega arith; most = omega arith }

-- a text that goes on to a line more
goes_to : (k : ℕ) (p r s u : List ℕ) (x : Values) (l : Lines) → k < 3 → FineOf k u → Lined k s x l → p ++ r ≡ s ++ (key_of k ++ (u ++ 10 ∷ [])) → Begins p
goes_to k p r s u x l h f d e = record { rest = r; values = put k u x; sheet = rw e (line_more k s u x l h f d).sheet }

pub reached_begins : {p : List ℕ} {l : Lines} {st : State} → Reached p l st → Begins p
reached_begins {p} (before x d) = record { rest = []; values = x; sheet = rw (append-nil p) d.sheet }
reached_begins {p} {l} (naming {k} {i} s x h g f e d) =
    goes_to k p (drop i (key_of k) ++ 49 ∷ 10 ∷ []) s (49 ∷ []) x l h (one_fine k) d
    (rw e (simp append_assoc (ap (λ t. s ++ t) (sym (append_assoc (take i (key_of k)) (drop i (key_of k)) (49 ∷ 10 ∷ [])) ∙ ap (λ t. t ++ 49 ∷ 10 ∷ []) (take-append-drop i (key_of k))))))
reached_begins {p} {l} (giving {k} s u x h e d left_out a n) = goes_to k p (49 ∷ 10 ∷ []) s (49 ∷ []) x l h (one_fine k) d (rw e (simp (append_assoc, append-nil)))
reached_begins {p} {l} (giving {k} s u x h e d (given f) a n) = goes_to k p (10 ∷ []) s u x l h f d (rw e (simp append_assoc))

-- ---- a byte more

-- what a test lets pass, where the machine is not stuck
pub live : (t : Bool) (x : State) → stuck (cond t x Stuck) ≡ false → (t ≡ true) × (stuck x ≡ false)
live true x e = (refl, e)
live false x e = absurd (false≢true (sym e))

pub alive : (t : Bool) (x : State) → stuck (cond t Stuck x) ≡ false → (t ≡ false) × (stuck x ≡ false)
alive true x e = absurd (false≢true (sym e))
alive false x e = (refl, e)

-- the byte with which a key begins
first_byte : (b : ℕ) → line_by b < 3 → take 1 (key_of (line_by b)) ≡ b ∷ []
unfolding line_by
first_byte b h = by_test (eqb b 101) (eqb b 114) (eqb b 99) (eqb-true b 101) (eqb-true b 114) (eqb-true b 99) h
  where
    by_test :
        (e r c : Bool) → (e ≡ true → b ≡ 101) → (r ≡ true → b ≡ 114) → (c ≡ true → b ≡ 99) → cond e 0 (cond r 1 (cond c 2 3)) < 3
        → take 1 (key_of (cond e 0 (cond r 1 (cond c 2 3)))) ≡ b ∷ []
    by_test true r c f g k h = rw (f refl) refl
    by_test false true c f g k h = rw (g refl) refl
    by_test false false true f g k h = rw (k refl) refl
    by_test false false false f g k h = absurd (omega arith)

key_size_lem : (k : ℕ) → k < 3 → key_size k ≡ length (key_of k)
unfolding key_size
key_size_lem zero h = refl
key_size_lem (suc zero) h = refl
key_size_lem (suc (suc zero)) h = refl
key_size_lem (suc (suc (suc k))) h = absurd (omega arith)

key_byte_lem : (k i : ℕ) → k < 3 → key_byte k i ≡ get_or (key_of k) i 0
unfolding key_byte
key_byte_lem zero i h = refl
key_byte_lem (suc zero) i h = refl
key_byte_lem (suc (suc zero)) i h = refl
key_byte_lem (suc (suc (suc k))) i h = absurd (omega arith)

-- a byte more of a key
take_more : (k i b : ℕ) → k < 3 → i < length (key_of k) → b ≡ key_byte k i → take (i + 1) (key_of k) ≡ take i (key_of k) ++ b ∷ []
take_more k i b h g e = rw (add-one i, take-suc (key_of k) i 0 g, e, key_byte_lem k i h)

-- a value that has a byte is one
pub given_fine : {Fine : List ℕ → Type 0} {u : List ℕ} → Given Fine u → 0 < length u → Fine u
given_fine left_out h = absurd (omega arith)
given_fine (given f) h = f

-- nothing is read of a value yet
amount_none : (k : ℕ) → 0 ≡ amount k []
unfolding number_from
amount_none zero = refl
amount_none (suc zero) = refl
amount_none (suc (suc k)) = refl

module _ {p : List ℕ} {l : Lines} (b : ℕ) where
  pub before_more : {k : ℕ} (x : Values) → Lined k p x l → stuck (begun k (line_by b)) ≡ false → Reached (p ++ b ∷ []) l (begun k (line_by b))
  unfolding begun
  before_more {k} x d e =
      let j = line_by b in
      let a = alive (ltb j k) (cond (ltb j 3) (Name j 1) Stuck) e in
      let c = live (ltb j 3) (Name j 1) a.1 in
      let h = ltb-true j 3 c.0 in
      rw (a.0, c.0) (naming {k = j} {i = 1} p x h (omega arith) (long j) (ap (λ t. p ++ t) (sym (first_byte b h))) (later j (ltb-false j k a.0)))
    where
      long : (j : ℕ) → 1 < length (key_of j)
      long zero = omega arith
      long (suc zero) = omega arith
      long (suc (suc j)) = omega arith

      later : (j : ℕ) → k ≤ j → Lined j p x l
      later j g = record { sheet = d.sheet; no_more = λ m h. d.no_more m (omega arith); lines = d.lines }

  pub naming_more :
      {k i : ℕ} (s : List ℕ) (x : Values) → k < 3 → i < length (key_of k) → p ≡ s ++ take i (key_of k) → Lined k s x l → b ≡ key_byte k i
      → Reached (p ++ b ∷ []) l (named k (i + 1))
  unfolding named
  naming_more {k} {i} s x h f e d is = by_test (eqb (i + 1) (key_size k)) refl
    where
      text : p ++ b ∷ [] ≡ s ++ take (i + 1) (key_of k)
      text = rw e (append_assoc s (take i (key_of k)) (b ∷ []) ∙ ap (λ t. s ++ t) (sym (take_more k i b h f is)))

      by_test : (t : Bool) → eqb (i + 1) (key_size k) ≡ t → Reached (p ++ b ∷ []) l (cond t (Value k 0 0) (Name k (i + 1)))
      by_test true q =
          let z = eqb-true (i + 1) (key_size k) q ∙ key_size_lem k h in
          giving s [] x h (text ∙ ap (λ t. s ++ t) (take_all (i + 1) (key_of k) (omega arith) ∙ sym (append-nil (key_of k)))) d left_out refl (amount_none k)
      by_test false q =
          let z = eqb-false (i + 1) (key_size k) q in
          let w = key_size_lem k h in
          naming {k = k} {i = i + 1} s x h (omega arith) (omega arith) text d
