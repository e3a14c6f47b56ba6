-- How a reader of report.txt ends, from what it has read on: it goes on behind what it looked for, or it stays where the text leaves it. What was read is `p`, what is left is `r`.
use Rattle.std.specs.Prelude.{ℕ, ◌+◌, ◌≡◌, refl, Bool, true, false, cond, List, [], ◌∷◌, ◌++◌, ltb, eqb, length, get_or}
use Rattle.std.proofs.Common.{arith, sym, ap, subst, ◌∙◌, inl, inr, append_assoc, append-nil, length-append, lt-ltb, le-ltb, eqb-true}
use Rattle.std.proofs.Math.Bool.{So}
use Rattle.std.proofs.Math.Seq.{drop-append_seam, get_or-append_seam}
use Rattle.words.specs.Truth.{and_says}
use Rattle.report_text.specs.declared.Cursor.{Cursor}
use Rattle.report_text.specs.Form.{cursor, byte_taken, word_from, is_digit, goes_on, list_end, list_to, list_of}
use Rattle.report_promises.specs.Walk.{through, IsList}
use Rattle.report_promises.specs.ReportForm.{IsReport, Begins}

-- ---- beginnings

pub begins_less : (a b : List ℕ) → Begins (a ++ b) → Begins a
begins_less a b v = record { rest = b ++ v.rest; report = subst IsReport (append_assoc a b v.rest) v.report }

-- ---- how a reader ends

-- behind a text that has `Next`; or behind a beginning of a report, where the cursor stays
pub data Ends (Next : List ℕ → Type 0) (p r : List ℕ) (c : Cursor) : Type 0 where
  on : (w rest : List ℕ) → Next w → r ≡ w ++ rest → c ≡ cursor true (length (p ++ w)) → Ends Next p r c
  off : (w rest : List ℕ) → Begins (p ++ w) → r ≡ w ++ rest → c ≡ cursor false (length (p ++ w)) → Ends Next p r c

-- a cursor that stays
pub word_stays : (s : List ℕ) (i : ℕ) (w : List ℕ) → word_from s (cursor false i) w ≡ cursor false i
unfolding word_from byte_taken
word_stays s i [] = refl
word_stays s i (b ∷ w) = by (ltb i (length s)) (word_stays s i w)
  where
    by : (t : Bool) → word_from s (cursor false i) w ≡ cursor false i → word_from s (cond t (cursor false i) (cursor false i)) w ≡ cursor false i
    by true e = e
    by false e = e

-- ---- words

data WordEnds (p r w : List ℕ) (c : Cursor) : Type 0 where
  full : (rest : List ℕ) → r ≡ w ++ rest → c ≡ cursor true (length (p ++ w)) → WordEnds p r w c
  broken : (a b rest : List ℕ) → w ≡ a ++ b → r ≡ a ++ rest → c ≡ cursor false (length (p ++ a)) → WordEnds p r w c

-- one byte more
longer : (p r w : List ℕ) (b : ℕ) (c : Cursor) → WordEnds (p ++ b ∷ []) r w c → WordEnds p (b ∷ r) (b ∷ w) c
longer p r w b c (full rest e is) = full rest (ap (λ (l : List ℕ). b ∷ l) e) (is ∙ ap (λ (l : List ℕ). cursor true (length l)) (append_assoc p (b ∷ []) w))
longer p r w b c (broken x y rest ew e is) =
    broken (b ∷ x) y rest (ap (λ (l : List ℕ). b ∷ l) ew) (ap (λ (l : List ℕ). b ∷ l) e) (is ∙ ap (λ (l : List ℕ). cursor false (length l)) (append_assoc p (b ∷ []) x))

none_of : (p : List ℕ) → length p ≡ length (p ++ [])
none_of p = sym (ap length (append-nil p))

word_ends : (w p r : List ℕ) → WordEnds p r w (word_from (p ++ r) (cursor true (length p)) w)
unfolding word_from byte_taken
word_ends [] p r = full r refl (ap (cursor true) (none_of p))
word_ends (b ∷ w) p [] = broken [] (b ∷ w) [] refl refl (stuck ∙ ap (cursor false) (none_of p))
  where
    stuck : word_from (p ++ []) (byte_taken (p ++ []) (cursor true (length p)) b) w ≡ cursor false (length p)
    stuck = rw (le-ltb (length p) (length (p ++ [])) (omega (arith, none_of p))) (word_stays (p ++ []) (length p) w)
word_ends (b ∷ w) p (x ∷ r) = by (eqb x b) refl (word_ends w (p ++ b ∷ []) r)
  where
    inside : ltb (length p) (length (p ++ x ∷ r)) ≡ true
    inside = lt-ltb (length p) (length (p ++ x ∷ r)) (omega (arith, length-append p (x ∷ r)))

    here : get_or (p ++ x ∷ r) (length p) 0 ≡ x
    here = get_or-append_seam p x r 0

    stepped : (t : Bool) → eqb x b ≡ t → byte_taken (p ++ x ∷ r) (cursor true (length p)) b ≡ cond t (cursor true (length p + 1)) (cursor false (length p))
    stepped t e = rw (inside, here, e) refl

    by : (t : Bool) → eqb x b ≡ t → WordEnds (p ++ b ∷ []) r w (word_from ((p ++ b ∷ []) ++ r) (cursor true (length (p ++ b ∷ []))) w)
        → WordEnds p (x ∷ r) (b ∷ w) (word_from (p ++ x ∷ r) (byte_taken (p ++ x ∷ r) (cursor true (length p)) b) w)
    by true e more =
        let same : x ≡ b = eqb-true x b e in
        let text : (p ++ b ∷ []) ++ r ≡ p ++ x ∷ r = append_assoc p (b ∷ []) r ∙ ap (λ (y : ℕ). p ++ y ∷ r) (sym same) in
        let at : cursor true (length (p ++ b ∷ [])) ≡ byte_taken (p ++ x ∷ r) (cursor true (length p)) b = ap (cursor true) (length-append p (b ∷ [])) ∙ sym (stepped true e) in
        subst (λ (y : ℕ). WordEnds p (y ∷ r) (b ∷ w) (word_from (p ++ x ∷ r) (byte_taken (p ++ x ∷ r) (cursor true (length p)) b) w)) (sym same)
        (longer p r w b _ (subst (λ (s : List ℕ). WordEnds (p ++ b ∷ []) r w (word_from s (byte_taken (p ++ x ∷ r) (cursor true (length p)) b) w)) text
        (subst (λ (c : Cursor). WordEnds (p ++ b ∷ []) r w (word_from ((p ++ b ∷ []) ++ r) c w)) at more)))
    by false e more =
        broken [] (b ∷ w) (x ∷ r) refl refl
        (ap (λ (c : Cursor). word_from (p ++ x ∷ r) c w) (stepped false e) ∙ word_stays (p ++ x ∷ r) (length p) w ∙ ap (cursor false) (none_of p))

-- a word that a report may go on with
pub word_reads : (s w p r : List ℕ) → s ≡ p ++ r → Begins (p ++ w) → Ends (λ x. x ≡ w) p r (word_from s (cursor true (length p)) w)
word_reads s w p r text v = subst (λ (x : List ℕ). Ends (λ x. x ≡ w) p r (word_from x (cursor true (length p)) w)) (sym text) (by (word_ends w p r))
  where
    by : {c : Cursor} → WordEnds p r w c → Ends (λ x. x ≡ w) p r c
    by (full rest e is) = on w rest refl e is
    by (broken a b rest ew e is) = off a rest (begins_less (p ++ a) b (subst Begins (ap (λ (l : List ℕ). p ++ l) ew ∙ sym (append_assoc p a b)) v)) e is

-- ---- lists

data ListEnds (p r : List ℕ) (c : Cursor) : Type 0 where
  whole : (l rest : List ℕ) → IsList l → r ≡ l ++ rest → c ≡ cursor true (length (p ++ l)) → ListEnds p r c
  unended : (l rest : List ℕ) → So (through false (l ++ 48 ∷ [])) → r ≡ l ++ rest → c ≡ cursor false (length (p ++ l)) → ListEnds p r c

-- what goes on from `inside` goes on behind l
abbrev After : Bool → List ℕ → Type 0
After inside l = (t : List ℕ) → So (through inside t) → So (through false (l ++ t))

after_more : (inside : Bool) (l : List ℕ) (b : ℕ) → After inside l → goes_on inside b ≡ true → After (is_digit b) (l ++ b ∷ [])
unfolding through
after_more inside l b after g t h = subst (λ (x : List ℕ). So (through false x)) (sym (append_assoc l (b ∷ []) t)) (after (b ∷ t) ((and_says (goes_on inside b) (through (is_digit b) t)).1 (g, h)))

empty : (l : List ℕ) → length l ≡ 0 → l ≡ []
empty [] e = refl
empty (x ∷ l) e = absurd (omega arith)

ended : (p l rest r : List ℕ) (inside : Bool) → After inside l → r ≡ l ++ rest → ListEnds p r (list_end (cursor true (length p)) inside (length (p ++ l)))
unfolding through
ended p l rest r true after e = whole l rest (inr (subst (λ (x : List ℕ). So (through false x)) (append-nil l) (after [] refl))) e refl
ended p l rest r false after e = by (eqb (length (p ++ l)) (length p)) refl
  where
    by : (t : Bool) → eqb (length (p ++ l)) (length p) ≡ t → ListEnds p r (cursor t (length (p ++ l)))
    by true at = whole l rest (inl (empty l (omega (arith, eqb-true (length (p ++ l)) (length p) at, length-append p l)))) e refl
    by false at = unended l rest (after (48 ∷ []) refl) e refl

list_from : (p l r : List ℕ) (inside : Bool) → After inside l → (all : List ℕ) → all ≡ l ++ r → ListEnds p all (list_to (cursor true (length p)) inside (length (p ++ l)) r)
unfolding list_to
list_from p l [] inside after all e = ended p l [] all inside after e
list_from p l (b ∷ r) inside after all e =
    by (goes_on inside b) refl (λ g. list_from p (l ++ b ∷ []) r (is_digit b) (after_more inside l b after g) all (e ∙ sym (append_assoc l (b ∷ []) r)))
  where
    len : length (p ++ (l ++ b ∷ [])) ≡ length (p ++ l) + 1
    len = ap length (sym (append_assoc p l (b ∷ []))) ∙ length-append (p ++ l) (b ∷ [])

    by : (t : Bool) → goes_on inside b ≡ t → (goes_on inside b ≡ true → ListEnds p all (list_to (cursor true (length p)) (is_digit b) (length (p ++ (l ++ b ∷ []))) r))
        → ListEnds p all (cond t (list_to (cursor true (length p)) (is_digit b) (length (p ++ l) + 1) r) (list_end (cursor true (length p)) inside (length (p ++ l))))
    by true g more = subst (λ (n : ℕ). ListEnds p all (list_to (cursor true (length p)) (is_digit b) n r)) len (more g)
    by false g more = ended p l (b ∷ r) all inside after e

list_ends : (p r : List ℕ) → ListEnds p r (list_of (p ++ r) (cursor true (length p)))
unfolding list_of
list_ends p r =
    subst (λ (x : List ℕ). ListEnds p r (list_to (cursor true (length p)) false (length p) x)) (sym (drop-append_seam p r))
    (subst (λ (n : ℕ). ListEnds p r (list_to (cursor true (length p)) false n r)) (sym (none_of p)) (list_from p [] r false (λ t h. h) r refl))

-- a list, where a report may go on with any
pub list_reads : (s p r : List ℕ) → s ≡ p ++ r → ((l : List ℕ) → IsList l → Begins (p ++ l)) → Ends IsList p r (list_of s (cursor true (length p)))
list_reads s p r text v = subst (λ (x : List ℕ). Ends IsList p r (list_of x (cursor true (length p)))) (sym text) (by (list_ends p r))
  where
    by : {c : Cursor} → ListEnds p r c → Ends IsList p r c
    by (whole l rest h e is) = on l rest h e is
    by (unended l rest h e is) = off l rest (begins_less (p ++ l) (48 ∷ []) (subst Begins (sym (append_assoc p l (48 ∷ []))) (v (l ++ 48 ∷ []) (inr h)))) e is

pub list_stays : (s : List ℕ) (i : ℕ) → list_of s (cursor false i) ≡ cursor false i
unfolding list_of
list_stays s i = refl

-- ---- one reader behind another

module _ (s : List ℕ) {N M O : List ℕ → Type 0} {p r : List ℕ} {c : Cursor} (g : Cursor → Cursor) where
  pub and_then : s ≡ p ++ r → ((i : ℕ) → g (cursor false i) ≡ cursor false i) → Ends N p r c
      → ((w rest : List ℕ) → N w → s ≡ (p ++ w) ++ rest → Ends M (p ++ w) rest (g (cursor true (length (p ++ w)))))
      → ((w x : List ℕ) → N w → M x → O (w ++ x)) → Ends O p r (g c)
  and_then text stays (off w rest v e is) next both = off w rest v e (ap g is ∙ stays (length (p ++ w)))
  and_then text stays (on w rest n e is) next both =
      by (next w rest n (text ∙ ap (λ (l : List ℕ). p ++ l) e ∙ sym (append_assoc p w rest)))
    where
      by : Ends M (p ++ w) rest (g (cursor true (length (p ++ w)))) → Ends O p r (g c)
      by (on x rest' m e' is') =
          on (w ++ x) rest' (both w x n m) (e ∙ ap (λ (l : List ℕ). w ++ l) e' ∙ sym (append_assoc w x rest'))
          (ap g is ∙ is' ∙ ap (λ (l : List ℕ). cursor true (length l)) (append_assoc p w x))
      by (off x rest' v e' is') =
          off (w ++ x) rest' (subst Begins (append_assoc p w x) v) (e ∙ ap (λ (l : List ℕ). w ++ l) e' ∙ sym (append_assoc w x rest'))
          (ap g is ∙ is' ∙ ap (λ (l : List ℕ). cursor false (length l)) (append_assoc p w x))
