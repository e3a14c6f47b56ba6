-- Texts of a form, what begins one, and the place of a refusal: one law for every form that can be read.
use Rattle.std.specs.Prelude.{ℕ, zero, suc, ◌≤◌, ◌<◌, ◌≡◌, refl, Bool, true, false, cond, ◌||◌, List, [], ◌∷◌, ◌++◌, ◌↔◌, ◌⊎◌, ltb, length, take, drop, get_or}
use Rattle.std.proofs.Common.{zero-le, sym, ap, ap₂, ◌∙◌, inl, inr, ⊎_elim, le_antisymm, arith, lt-ltb, le-ltb, length-append, length-take, length-drop}
use Rattle.std.proofs.lemmas.Bool.{false≢true}
use Rattle.text.specs.Cases.{below_or_beyond}
use Rattle.std.proofs.lemmas.List.{length-map}
use Rattle.text.specs.Slot.{Slot, admits, written, matched}
use Rattle.text.specs.Matched.{matched_text, matched_slots}
use Rattle.text.specs.Written.{text_of, written_rest, small_of, admits_small, small_admits}
use Rattle.text.specs.Form.{Form, Reads}

-- the text fills the slots
pub record Fills (s : List ℕ) (ts : List Slot) : Type 0 where
  pub all : matched s ts ≡ length ts
  pub long : length ts ≡ length s

-- the text fills the slots of a value
pub record OfForm {A : Type 0} (F : Form A) (s : List ℕ) : Type 0 where
  pub value : A
  pub ok : F.Ok value
  pub fills : Fills s (F.slots value)

-- the text begins a text of the form
pub record Viable {A : Type 0} (F : Form A) (p : List ℕ) : Type 0 where
  pub rest : List ℕ
  pub of_form : OfForm F (p ++ rest)

-- where a text that is not of the form is refused: what stands before that place begins a text of the form, and with the byte there it no longer does;
-- the text's length where it only stops too soon
pub record RefusedAt {A : Type 0} (F : Form A) (s : List ℕ) (i : ℕ) : Type 0 where
  pub not_of_form : OfForm F s → ⊥
  pub within : i ≤ length s
  pub viable : (j : ℕ) → j ≤ i → Viable F (take j s)
  pub stops : i < length s → Viable F (take (suc i) s) → ⊥

-- only what both texts begin with counts
pub matched_shared : (i : ℕ) (s r : List ℕ) (ts : List Slot) → i ≤ length s → i ≤ matched (take i s ++ r) ts → i ≤ matched s ts
unfolding matched
matched_shared zero s r ts l h = zero-le
matched_shared (suc i) [] r ts l h = absurd (omega arith)
matched_shared (suc i) (b ∷ s) r [] l h = absurd (omega arith)
matched_shared (suc i) (b ∷ s) r (t ∷ ts) l h = by_test (admits t b) h (matched_shared i s r ts (omega arith))
  where
    by_test :
        (x : Bool) → suc i ≤ cond x (suc (matched (take i s ++ r) ts)) 0 → (i ≤ matched (take i s ++ r) ts → i ≤ matched s ts)
        → suc i ≤ cond x (suc (matched s ts)) 0
    by_test true m h = let k = h (omega arith) in omega arith
    by_test false m h = absurd (omega arith)

-- whole texts of the form can be read (a log's lines go on as long as the text does: no part of a text tells where the log ends)
pub record Whole {A : Type 0} (F : Form A) : Type 0 where
  pub fine : (s : List ℕ) → F.Ok (F.guess s)
  pub exact : (a : A) (s : List ℕ) → F.Ok a → Fills s (F.slots a) → F.guess s ≡ a
  pub best : (a : A) (s : List ℕ) → F.Ok a → matched s (F.slots a) ≤ matched s (F.slots (F.guess s))

pub reads_whole : {A : Type 0} {F : Form A} → Reads F → Whole F
reads_whole reads = record { fine = reads.fine; exact = λ a s ok f. reads.exact a s ok f.all; best = reads.best }

module _ {A : Type 0} {F : Form A} (reads : Whole F) where
  -- a text begins a text of the form exactly as far as it fits the guess
  pub viable_to : (s : List ℕ) (i : ℕ) → i ≤ length s → Viable F (take i s) ↔ (i ≤ matched s (F.slots (F.guess s)))
  viable_to s i l = (to, back)
    where
      to : Viable F (take i s) → i ≤ matched s (F.slots (F.guess s))
      to v =
          let ts = F.slots v.of_form.value in
          let m = matched_shared i s v.rest ts l (omega (arith, v.of_form.fills.all, v.of_form.fills.long, length-append (take i s) v.rest, length-take i s)) in
          omega (arith, reads.best v.of_form.value s v.of_form.ok)

      back : i ≤ matched s (F.slots (F.guess s)) → Viable F (take i s)
      back h =
          let ts = F.slots (F.guess s) in
          record {
            rest = text_of (drop i ts);
            of_form = record {
              value = F.guess s;
              ok = reads.fine s;
              fills = record {
                all = written_rest i s ts h;
                long = omega (arith, length-append (take i s) (text_of (drop i ts)), length-take i s, length-map (drop i ts) written, length-drop i ts, matched_slots s ts);
              };
            };
          }

  -- a text is of the form exactly if it fills the slots of the guess, and then the guess is its only value
  pub form_value : (s : List ℕ) (a : A) → F.Ok a → Fills s (F.slots a) → F.guess s ≡ a
  form_value s a ok f = reads.exact a s ok f

  pub of_form_fills : (s : List ℕ) → OfForm F s ↔ Fills s (F.slots (F.guess s))
  of_form_fills s =
      (λ o. rw (form_value s o.value o.ok o.fills) o.fills, λ f. record { value = F.guess s; ok = reads.fine s; fills = f })

  pub refused_at_lem : (s : List ℕ) → (Fills s (F.slots (F.guess s)) → ⊥) → RefusedAt F s (matched s (F.slots (F.guess s)))
  refused_at_lem s no-fill =
      record {
        not_of_form = λ o. no-fill ((of_form_fills s).0 o);
        within = matched_text s (F.slots (F.guess s));
        viable = λ j h. (viable_to s j (omega (arith, matched_text s (F.slots (F.guess s))))).1 h;
        stops = λ l v. omega (arith, (viable_to s (suc (matched s (F.slots (F.guess s)))) l).0 v);
      }

-- there is only one such place
pub refused_one :
    {A : Type 0} {F : Form A} {s : List ℕ} {i j : ℕ} → RefusedAt F s i → RefusedAt F s j → i ≡ j
refused_one {F} {s} {i} {j} p q = le_antisymm (below i j p q) (below j i q p)
  where
    below : (i j : ℕ) → RefusedAt F s i → RefusedAt F s j → i ≤ j
    below i j p q = ⊎_elim (λ (l : i < suc j). omega arith) (λ (l : suc j ≤ i). absurd (q.stops (omega (arith, p.within)) (p.viable (suc j) l))) (below_or_beyond i (suc j))

-- a text fills the slots, or a byte does not fit or is missing, or bytes follow
pub fills_or : (s : List ℕ) (ts : List Slot) → Fills s ts ⊎ ((matched s ts < length ts) ⊎ ((length ts ≤ matched s ts) × (length ts < length s)))
fills_or s ts =
    ⊎_elim (λ (l : matched s ts < length ts). inr (inl l))
    (λ (l : length ts ≤ matched s ts). ⊎_elim (λ (m : length ts < length s). inr (inr (l, m)))
    (λ (m : length s ≤ length ts). inl (record { all = omega (arith, matched_slots s ts); long = omega (arith, matched_text s ts) })) (below_or_beyond (length ts) (length s)))
    (below_or_beyond (matched s ts) (length ts))

-- as the cursor behind the slots tells it: a byte did not fit or was missing, or bytes follow
abbrev pub misfits : ℕ → ℕ → ℕ → Bool
misfits good slots long = ltb good slots || ltb slots long

pub fills_exactly : (s : List ℕ) (ts : List Slot) → (misfits (matched s ts) (length ts) (length s) ≡ false) ↔ Fills s ts
fills_exactly s ts = (there, λ f. rw (le-ltb (matched s ts) (length ts) (omega (arith, f.all)), le-ltb (length ts) (length s) (omega (arith, f.long))))
  where
    there : misfits (matched s ts) (length ts) (length s) ≡ false → Fills s ts
    there e =
        ⊎_elim (λ (f : Fills s ts). f) (⊎_elim (λ (l : matched s ts < length ts). absurd (false≢true (sym e ∙ rw (lt-ltb (matched s ts) (length ts) l))))
        (λ (l : (length ts ≤ matched s ts) × (length ts < length s)). absurd (false≢true (sym e ∙ rw (le-ltb (matched s ts) (length ts) l.0, lt-ltb (length ts) (length s) l.1)))))
        (fills_or s ts)

-- what is written into slots fills them
pub text_fills : (ts : List Slot) → Fills (text_of ts) ts
text_fills ts = record { all = written_rest 0 [] ts zero-le; long = sym (length-map ts written) }

-- a text that fills slots does so byte by byte
pub first_fills : {b : ℕ} {s : List ℕ} {t : Slot} {ts : List Slot} → Fills (b ∷ s) (t ∷ ts) → admits t b ≡ true
unfolding matched
first_fills {b} {s} {t} {ts} f = by_test (admits t b) f.all
  where
    by_test : (x : Bool) → cond x (suc (matched s ts)) 0 ≡ suc (length ts) → x ≡ true
    by_test true h = refl
    by_test false h = absurd (omega arith)

pub rest_fills : {b : ℕ} {s : List ℕ} {t : Slot} {ts : List Slot} → Fills (b ∷ s) (t ∷ ts) → Fills s ts
unfolding matched
rest_fills {b} {s} {t} {ts} f = let e = rw (first_fills f) at f.all in let l = f.long in record { all = omega arith; long = omega arith }

pub more_fills : {b : ℕ} {s : List ℕ} {t : Slot} {ts : List Slot} → admits t b ≡ true → Fills s ts → Fills (b ∷ s) (t ∷ ts)
unfolding matched
more_fills e f = record { all = rw e (ap suc f.all); long = ap suc f.long }

-- a text fills slots exactly if it is, with its digits made small, what is written into them
pub fills_small : (s : List ℕ) (ts : List Slot) → Fills s ts ↔ (small_of ts s ≡ text_of ts)
unfolding small_of matched
fills_small s ts = (there s ts, back s ts)
  where
    there : (s : List ℕ) (ts : List Slot) → Fills s ts → small_of ts s ≡ text_of ts
    there [] [] f = refl
    there (b ∷ s) [] f = absurd (let l = f.long in omega arith)
    there [] (t ∷ ts) f = absurd (let l = f.long in omega arith)
    there (b ∷ s) (t ∷ ts) f = ap₂ (λ (x : ℕ) (l : List ℕ). x ∷ l) (admits_small t b (first_fills f)) (there s ts (rest_fills f))

    back : (s : List ℕ) (ts : List Slot) → small_of ts s ≡ text_of ts → Fills s ts
    back [] [] e = record { all = refl; long = refl }
    back (b ∷ s) [] e = absurd (let l = ap length e in omega arith)
    back [] (t ∷ ts) e = absurd (let l = ap length e in omega arith)
    back (b ∷ s) (t ∷ ts) e = more_fills (small_admits t b (ap (λ (l : List ℕ). get_or l 0 0) e)) (back s ts (ap (drop 1) e))
