-- What every form that can be read has, whatever its values: tables, log lines and logs are told from it.
use Rattle.std.specs.Prelude.{ℕ, ◌≡◌, List, ◌++◌, ◌↔◌, ◌⊎◌}
use Rattle.std.proofs.Common.{sym, subst, ap, ◌∙◌, inl, inr, ⊎_elim, arith}
use Rattle.text.specs.Slot.{Slot, matched}
use Rattle.text.specs.Form.{Form}
use Rattle.text.specs.Written.{text_of, small_of}
use Rattle.text.specs.Place.{Fills, OfForm, Viable, RefusedAt, Whole, refused_at_lem, refused_one, fills_or, fills_small, text_fills, of_form_fills}

-- the written form of a value
abbrev pub text_for : {A : Type 0} → Form A → A → List ℕ
text_for F a = text_of (F.slots a)

-- how far a text fits the form: the place of its refusal
abbrev pub fit_of : {A : Type 0} → Form A → List ℕ → ℕ
fit_of F s = matched s (F.slots (F.guess s))

-- a text is of the form, with that value, exactly if it is, its digits made small, the written form of the value
pub filled_small : {A : Type 0} (F : Form A) (a : A) (s : List ℕ) → Fills s (F.slots a) ↔ (small_of (F.slots a) s ≡ text_for F a)
filled_small F a s = fills_small s (F.slots a)

-- THE PROMISE OF A FORM: a text is of it exactly if it is, its digits made small, the written form of a value
pub of_form_small : {A : Type 0} (F : Form A) (s : List ℕ) → OfForm F s ↔ ((a : A) × F.Ok a × (small_of (F.slots a) s ≡ text_for F a))
of_form_small F s = (
  λ o. (o.value, o.ok, (filled_small F o.value s).0 o.fills),
  λ (a, ok, e). record { value = a; ok = ok; fills = (filled_small F a s).1 e },
)

-- what is written has small digits already
pub written_small : (ts : List Slot) → small_of ts (text_of ts) ≡ text_of ts
written_small ts = (fills_small (text_of ts) ts).0 (text_fills ts)

module _ {A : Type 0} {F : Form A} (reads : Whole F) where
  -- the value read from a written form is the value written
  pub read_back : (a : A) → F.Ok a → F.guess (text_for F a) ≡ a
  read_back a ok = reads.exact a (text_for F a) ok (text_fills (F.slots a))

  -- and every text of the form is, its digits made small, the written form of the value read from it
  pub read_small : (s : List ℕ) → OfForm F s → small_of (F.slots (F.guess s)) s ≡ text_for F (F.guess s)
  read_small s o = (filled_small F (F.guess s) s).0 ((of_form_fills reads s).0 o)

  -- two values have different written forms
  pub written_one : (a b : A) → F.Ok a → F.Ok b → text_for F a ≡ text_for F b → a ≡ b
  written_one a b ok ok' e = sym (read_back a ok) ∙ ap F.guess e ∙ read_back b ok'

  -- a text is of the form, or it is refused: at the first byte at which no text of the form begins with what was read, at its length where it only stops too soon
  pub form_or_place : (s : List ℕ) → OfForm F s ⊎ RefusedAt F s (fit_of F s)
  form_or_place s =
      ⊎_elim (λ f. inl ((of_form_fills reads s).1 f))
      (λ n. inr (refused_at_lem reads s (λ f. ⊎_elim (λ l. omega (arith, f.all)) (λ l. omega (arith, f.long)) n))) (fills_or s (F.slots (F.guess s)))

  -- and there is no other such place
  pub place_is : (s : List ℕ) (i : ℕ) → RefusedAt F s i → i ≡ fit_of F s
  place_is s i r = ⊎_elim (λ o. absurd (r.not_of_form o)) (λ p. refused_one r p) (form_or_place s)

-- what begins a text of the form, said by the written texts: it can be gone on with to one that is, its digits made small, one of them
pub begins_small : {A : Type 0} (F : Form A) (p : List ℕ) → Viable F p ↔ ((rest : List ℕ) × (a : A) × F.Ok a × (small_of (F.slots a) (p ++ rest) ≡ text_for F a))
begins_small F p = (
  λ v. let (a, ok, e) = (of_form_small F (p ++ v.rest)).0 v.of_form in (v.rest, a, ok, e),
  λ (rest, a, ok, e). record { rest = rest; of_form = (of_form_small F (p ++ rest)).1 (a, ok, e) },
)

-- ---- a form that is also written out, for those who read it: which values there are, and the slots of each

pub record WrittenOut {A : Type 0} (F : Form A) (Well : A → Type 0) (out : A → List Slot) : Type 0 where
  pub well : (a : A) → F.Ok a ↔ Well a
  pub slots_are : (a : A) → F.slots a ≡ out a

-- what is promised of the form, by what is written out
module _ {A : Type 0} {F : Form A} {Well : A → Type 0} {out : A → List Slot} (w : WrittenOut F Well out) where
  pub filled_out : (a : A) (s : List ℕ) → Fills s (F.slots a) ↔ (small_of (out a) s ≡ text_of (out a))
  filled_out a s = subst (λ (ts : List Slot). Fills s (F.slots a) ↔ (small_of ts s ≡ text_of ts)) (w.slots_are a) (filled_small F a s)

  pub of_form_out : (s : List ℕ) → OfForm F s ↔ ((a : A) × Well a × (small_of (out a) s ≡ text_of (out a)))
  of_form_out s = (
    λ o. (o.value, (w.well o.value).0 o.ok, (filled_out o.value s).0 o.fills),
    λ (a, ok, e). record { value = a; ok = (w.well a).1 ok; fills = (filled_out a s).1 e },
  )

  -- a text is, its digits made small, the one written for one value
  pub value_one : Whole F → (a b : A) (s : List ℕ) → Well a → Well b → small_of (out a) s ≡ text_of (out a) → small_of (out b) s ≡ text_of (out b) → a ≡ b
  value_one reads a b s ok ok' e e' = sym (reads.exact a s ((w.well a).1 ok) ((filled_out a s).1 e)) ∙ reads.exact b s ((w.well b).1 ok') ((filled_out b s).1 e')

  pub out_one : Whole F → (a b : A) → Well a → Well b → text_of (out a) ≡ text_of (out b) → a ≡ b
  out_one reads a b ok ok' e =
      written_one reads a b ((w.well a).1 ok) ((w.well b).1 ok') (ap text_of (w.slots_are a) ∙ e ∙ ap text_of (sym (w.slots_are b)))
