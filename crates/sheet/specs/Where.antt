-- Where the values stand in a sheet; so a text is a sheet with one set of values only.
use Rattle.std.specs.Prelude.{ℕ, ◌+◌, ◌≤◌, ◌<◌, ◌≡◌, refl, cond, List, [], ◌∷◌, ◌++◌, eqb, length, take, drop}
use Rattle.std.proofs.Common.{sym, ap, ap₂, append_assoc, append-nil, arith, length-append, length-take, length-drop}
use Rattle.std.proofs.Math.Seq.{take-append_seam, drop-append_seam, drop-append-add}
use Rattle.sheet.specs.declared.Lines.{Lines}
use Rattle.sheet.specs.declared.Key.{Key}
use Rattle.sheet.specs.declared.Key.TheVariants.{Edition, Rule, Closing}
use Rattle.sheet.specs.Sheet.{edition_key, rule_key, closing_key, Values, line_of, text_of, IsSheet, value_of, from_of}
use Rattle.sheet.specs.Read.{lines_of}
use Rattle.sheet.specs.Reached.{line_some}
use Rattle.sheet.specs.Short.{line_length_lem, digits_few, bytes_few}
use Rattle.sheet.specs.Promises.{Told}

-- ---- by the lines that the machine tells

abbrev pub length_of : Key → Lines → ℕ
length_of Edition l = l.edition
length_of Rule l = l.rule
length_of Closing l = l.closing

-- how long a line is, by its key's length and its value's
abbrev pub line_length : ℕ → ℕ → ℕ
line_length key value = cond (eqb value 0) 0 (key + value + 1)

abbrev pub start_of : Key → Lines → ℕ
start_of Edition l = 8
start_of Rule l = line_length 8 l.edition + 5
start_of Closing l = line_length 8 l.edition + line_length 5 l.rule + 8

pub length_told : (k : Key) (x : Values) → length_of k (lines_of x) ≡ length (value_of k x)
length_told Edition x = refl
length_told Rule x = refl
length_told Closing x = refl

pub start_told : (k : Key) (x : Values) → start_of k (lines_of x) ≡ from_of k x
start_told Edition x = refl
start_told Rule x = ap (λ n. n + 5) (sym (line_length_lem edition_key x.edition))
start_told Closing x = ap₂ (λ n m. n + m + 8) (sym (line_length_lem edition_key x.edition)) (sym (line_length_lem rule_key x.rule))

-- lines of a sheet are not long
pub record Few (l : Lines) : Type 0 where
  pub edition : l.edition ≤ 1024
  pub rule : l.rule ≤ 1024
  pub closing : l.closing ≤ 1024

pub told_few : (s : List ℕ) (l : Lines) → Told s l → Few l
told_few s l t =
    let x = t.values in
    rw t.lines
    (record {
      edition = omega (arith, digits_few 1 65535 x.edition (omega arith) t.sheet.edition);
      rule = omega (arith, bytes_few x.rule t.sheet.rule);
      closing = omega (arith, digits_few 0 99 x.closing (omega arith) t.sheet.closing);
    })

-- ---- by the text

-- what stands behind a front and a key
part : (a key v b : List ℕ) → take (length v) (drop (length a + length key) (a ++ (key ++ (v ++ b)))) ≡ v
part a key v b = rw (drop-append-add a (key ++ (v ++ b)) (length key), drop-append_seam key (v ++ b), take-append_seam v b)

-- the line of a key that has one
apart : (a key v b : List ℕ) → 0 < length v → a ++ (line_of key v ++ b) ≡ a ++ (key ++ (v ++ 10 ∷ b))
apart a key v b h = rw (line_some key v h) (simp append_assoc)

-- the value of a key that has a line: the bytes from its place on
pub value_stands : (s : List ℕ) (x : Values) (k : Key) → IsSheet s x → 0 < length (value_of k x) → take (length (value_of k x)) (drop (from_of k x) s) ≡ value_of k x
unfolding text_of
value_stands s x Edition is h =
    let v = x.edition in
    let b = line_of rule_key x.rule ++ line_of closing_key x.closing in
    rw (is.text, apart [] edition_key v b h) (part [] edition_key v (10 ∷ b))
value_stands s x Rule is h =
    let a = line_of edition_key x.edition in
    let b = line_of closing_key x.closing in
    rw (is.text, apart a rule_key x.rule b h) (part a rule_key x.rule (10 ∷ b))
value_stands s x Closing is h =
    let a = line_of edition_key x.edition in
    let r = line_of rule_key x.rule in
    let e : a ++ (r ++ line_of closing_key x.closing) ≡ (a ++ r) ++ (line_of closing_key x.closing ++ []) = simp (append_assoc, append-nil) in
    rw (is.text, e, apart (a ++ r) closing_key x.closing [] h, ← length-append a r) (part (a ++ r) closing_key x.closing (10 ∷ []))

-- it stands within the text
pub value_within : (s : List ℕ) (x : Values) (k : Key) → IsSheet s x → 0 < length (value_of k x) → from_of k x + length (value_of k x) ≤ length s
value_within s x k is h =
    let e = ap length (value_stands s x k is h) in
    omega (arith, e, length-take (length (value_of k x)) (drop (from_of k x) s), length-drop (from_of k x) s)

pub empty : (v : List ℕ) → length v ≡ 0 → v ≡ []
empty [] e = refl
empty (b ∷ v) e = absurd (omega arith)

pub few_length : (l : Lines) (k : Key) → Few l → length_of k l ≤ 1024
few_length l Edition f = f.edition
few_length l Rule f = f.rule
few_length l Closing f = f.closing
