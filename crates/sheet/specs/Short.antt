-- A sheet is never over 1,024 bytes long, and how long its lines are.
use Rattle.std.specs.Prelude.{ℕ, suc, ◌+◌, ◌*◌, ◌-◌, ◌≤◌, ◌≡◌, refl, Bool, true, false, cond, List, [], ◌∷◌, ◌++◌, eqb, length}
use Rattle.std.proofs.Common.{arith, length-append, ne_eqb}
use Rattle.sheet.specs.Sheet.{edition_key, rule_key, closing_key, number_from, Decimal, Printable, Values, line_of, text_of, Given, left_out, given, IsSheet}
use Rattle.sheet.specs.Value.{each_at, number_up}

-- a digit more makes a number ten times as great, at least
ten : (n c : ℕ) (v : List ℕ) → n * 10 ≤ number_from n (c ∷ v)
unfolding number_from
ten n c v = omega (arith, number_up (n * 10 + (c - 48)) v)

five : (n b c d e f : ℕ) (v : List ℕ) → n * 100000 ≤ number_from n (b ∷ c ∷ d ∷ e ∷ f ∷ v)
unfolding number_from
five n b c d e f v =
    chain n (n * 10 + (b - 48)) _ _ _ _ (omega arith) (more _ c) (more _ d) (more _ e) (ten ((((n * 10 + (b - 48)) * 10 + (c - 48)) * 10 + (d - 48)) * 10 + (e - 48)) f v)
  where
    more : (m c : ℕ) → m * 10 ≤ m * 10 + (c - 48)
    more m c = omega arith

    chain : (m n o p q r : ℕ) → m * 10 ≤ n → n * 10 ≤ o → o * 10 ≤ p → p * 10 ≤ q → q * 10 ≤ r → m * 100000 ≤ r
    chain m n o p q r a b c d e = omega arith

pub digits_few : (lo hi : ℕ) (v : List ℕ) → hi ≤ 65535 → Given (Decimal lo hi) v → length v ≤ 5
unfolding number_from
digits_few lo hi [] h g = omega arith
digits_few lo hi (a ∷ []) h g = omega arith
digits_few lo hi (a ∷ b ∷ []) h g = omega arith
digits_few lo hi (a ∷ b ∷ c ∷ []) h g = omega arith
digits_few lo hi (a ∷ b ∷ c ∷ d ∷ []) h g = omega arith
digits_few lo hi (a ∷ b ∷ c ∷ d ∷ e ∷ []) h g = omega arith
digits_few lo hi (a ∷ b ∷ c ∷ d ∷ e ∷ f ∷ v) h (given x) =
    let p = each_at [] (b ∷ c ∷ d ∷ e ∷ f ∷ v) a x.digits in
    let z = x.no_leading_zero (omega arith) in
    let t = five (0 * 10 + (a - 48)) b c d e f v in
    let m = x.most in
    absurd (much (0 * 10 + (a - 48)) (number_from (0 * 10 + (a - 48)) (b ∷ c ∷ d ∷ e ∷ f ∷ v)) t (omega arith) (omega (arith, m)))
  where
    much : (n m : ℕ) → n * 100000 ≤ m → 1 ≤ n → m ≤ 65535 → ⊥
    much n m a b c = omega arith

pub bytes_few : (v : List ℕ) → Given Printable v → length v ≤ 512
bytes_few v left_out = omega arith
bytes_few v (given x) = x.most

pub line_length_lem : (key v : List ℕ) → length (line_of key v) ≡ cond (eqb (length v) 0) 0 (length key + length v + 1)
unfolding line_of
line_length_lem key [] = refl
line_length_lem key (b ∷ v) =
    rw (ne_eqb (suc (length v)) 0 (λ e. omega arith)) (omega (arith, length-append (key ++ (b ∷ v)) (10 ∷ []), length-append key (b ∷ v)))

line_most : (key v : List ℕ) → length (line_of key v) ≤ length key + length v + 1
line_most key v = rw (line_length_lem key v) (by_test (eqb (length v) 0))
  where
    by_test : (t : Bool) → cond t 0 (length key + length v + 1) ≤ length key + length v + 1
    by_test true = omega arith
    by_test false = omega arith

pub sheet_short : (s : List ℕ) (x : Values) → IsSheet s x → length s ≤ 1024
unfolding text_of
sheet_short s x is =
    let e = line_most edition_key x.edition in
    let r = line_most rule_key x.rule in
    let c = line_most closing_key x.closing in
    let p = digits_few 1 65535 x.edition (omega arith) is.edition in
    let q = bytes_few x.rule is.rule in
    let t = digits_few 0 99 x.closing (omega arith) is.closing in
    rw is.text
    (omega (arith, length-append (line_of edition_key x.edition) (line_of rule_key x.rule ++ line_of closing_key x.closing), length-append (line_of rule_key x.rule) (line_of closing_key x.closing)))
