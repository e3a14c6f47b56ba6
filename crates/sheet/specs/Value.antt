-- What the machine does with the bytes of a value, and what a value is: the machine goes on with a byte exactly if the value may have it.
use Rattle.std.specs.Prelude.{ℕ, zero, suc, ◌+◌, ◌*◌, ◌-◌, ◌≤◌, ◌<◌, ◌≡◌, Bool, true, false, cond, ltb, leb, length, get_or}
use Rattle.std.proofs.Math.Path.{refl}
use Rattle.std.proofs.Common.{sym}
use mathlib.Core.List.{List, [], ◌∷◌, ◌++◌}
use native.Mathlib.Omega.{arith}
use Rattle.std.proofs.Math.ListN.{length-append}
use borrow.Author.Tests.{le-ltb, ltb-false, lt-leb, leb-false, ne_eqb, eqb-false}
use Rattle.std.specs.Prelude.{Option, Some, None}
use Rattle.sheet.specs.Sheet.{Each, none, more, number_from, number_of, Decimal, Printable, Given, left_out, given}
use Rattle.sheet.specs.Machine.{lead_zero, ranged, digit_grown, byte_grown}

-- ---- bytes within a range, and the number that digits make

module _ {lo hi : ℕ} where
  pub each_more : {u v : List ℕ} → Each lo hi u → Each lo hi v → Each lo hi (u ++ v)
  each_more none e = e
  each_more (more l h r) e = more l h (each_more r e)

  pub each_at : (u v : List ℕ) (b : ℕ) → Each lo hi (u ++ b ∷ v) → (lo ≤ b) × (b ≤ hi)
  each_at [] v b (more l h r) = (l, h)
  each_at (c ∷ u) v b (more l h r) = each_at u v b r

pub number_join : (n : ℕ) (u v : List ℕ) → number_from n (u ++ v) ≡ number_from (number_from n u) v
unfolding number_from
number_join n [] v = refl
number_join n (c ∷ u) v = number_join (n * 10 + (c - 48)) u v

pub number_up : (n : ℕ) (v : List ℕ) → n ≤ number_from n v
unfolding number_from
number_up n [] = omega arith
number_up n (c ∷ v) = omega (arith, number_up (n * 10 + (c - 48)) v)

-- a digit more
pub number_more : (u : List ℕ) (b : ℕ) → number_of (u ++ b ∷ []) ≡ number_of u * 10 + (b - 48)
unfolding number_from
number_more u b = number_join 0 u (b ∷ [])

-- and more behind it
number_behind : (u v : List ℕ) (b : ℕ) → number_of u * 10 + (b - 48) ≤ number_of (u ++ b ∷ v)
unfolding number_from
number_behind u v b = rw (number_join 0 u (b ∷ v)) (number_up (number_from 0 u * 10 + (b - 48)) v)

-- ---- decimal numbers

-- a number that starts with no zero is none
not_zero : (c : ℕ) (u : List ℕ) → 48 ≤ c → (c ≡ 48 → ⊥) → 0 < number_of (c ∷ u)
unfolding number_from
not_zero c u l h = omega (arith, number_up (0 * 10 + (c - 48)) u)

ranged_in : (lo hi n : ℕ) → lo ≤ n → n ≤ hi → ranged lo hi n ≡ Some n
unfolding ranged
ranged_in lo hi n l h = simp (le-ltb n lo l, le-ltb hi n h)

module _ (lo hi : ℕ) (low : lo ≤ 1) (high : hi ≤ 65535) where
  lead_none : (u v : List ℕ) (b : ℕ) → Decimal lo hi (u ++ b ∷ v) → lead_zero (length u) (number_of u) ≡ false
  unfolding lead_zero
  lead_none [] v b d = refl
  lead_none (c ∷ u) v b d =
      let p = each_at [] (u ++ b ∷ v) c d.digits in
      let z = not_zero c u p.0 (d.no_leading_zero (omega (arith, length-append u (b ∷ v)))) in
      simp (ne_eqb (suc (length u)) 0 (λ e. omega arith), ne_eqb (number_of (c ∷ u)) 0 (λ e. omega arith))

  least_of : (u v : List ℕ) (b : ℕ) → Decimal lo hi (u ++ b ∷ v) → lo ≤ number_of u * 10 + (b - 48)
  unfolding number_from
  least_of [] [] b d = omega (arith, d.least)
  least_of [] (x ∷ v) b d =
      let p = each_at [] (x ∷ v) b d.digits in
      let z = d.no_leading_zero (omega arith) in
      omega arith
  least_of (c ∷ u) v b d =
      let p = each_at [] (u ++ b ∷ v) c d.digits in
      let z = not_zero c u p.0 (d.no_leading_zero (omega (arith, length-append u (b ∷ v)))) in
      omega arith

  -- a digit of a number is taken
  pub digit_taken : (u v : List ℕ) (b : ℕ) → Decimal lo hi (u ++ b ∷ v) → digit_grown lo hi (length u) (number_of u) b ≡ Some (number_of (u ++ b ∷ []))
  unfolding digit_grown
  digit_taken u v b d =
      let p = each_at u v b d.digits in
      let q = number_behind u v b in
      simp (le-ltb b 48 p.0, le-ltb 57 b p.1, le-ltb 6553 (number_of u) (omega (arith, d.most)), lead_none u v b d, number_more u b)
      (ranged_in lo hi (number_of u * 10 + (b - 48)) (least_of u v b d) (omega (arith, d.most)))

-- what a test lets pass
past : (t : Bool) (g : Option ℕ) (m : ℕ) → cond t None g ≡ Some m → (t ≡ false) × (g ≡ Some m)
past true g m e = let z : ◌≡◌ {A = ℕ} 0 1 = cc in absurd (omega arith)
past false g m e = (refl, e)

-- what is taken is a number again
module _ (lo hi : ℕ) where
  pub digit_fine : (u : List ℕ) (b m : ℕ) → Given (Decimal lo hi) u → digit_grown lo hi (length u) (number_of u) b ≡ Some m → Decimal lo hi (u ++ b ∷ []) × (m ≡ number_of (u ++ b ∷ []))
  unfolding digit_grown ranged lead_zero number_from
  digit_fine u b m g e =
      let n = number_of u * 10 + (b - 48) in
      let p1 = past (ltb b 48) _ m e in
      let p2 = past (ltb 57 b) _ m p1.1 in
      let p3 = past (ltb 6553 (number_of u)) _ m p2.1 in
      let p4 = past (lead_zero (length u) (number_of u)) _ m p3.1 in
      let p5 = past (ltb n lo) _ m p4.1 in
      let p6 = past (ltb hi n) _ m p5.1 in
      let is : n ≡ m = cc p6.1 in
      let q = number_more u b in (
        record {
          digits = each_more (digits_of g) (more (ltb-false b 48 p1.0) (ltb-false 57 b p2.0) none);
          some = omega (arith, length-append u (b ∷ []));
          no_leading_zero = λ l z. no_zero u g p4.0 l z;
          least = omega (arith, ltb-false n lo p5.0);
          most = omega (arith, ltb-false hi n p6.0);
        },
        omega arith,
      )
    where
      digits_of : {u : List ℕ} → Given (Decimal lo hi) u → Each 48 57 u
      digits_of left_out = none
      digits_of (given d) = d.digits

      no_zero : (u : List ℕ) → Given (Decimal lo hi) u → lead_zero (length u) (number_of u) ≡ false → 1 < length (u ++ b ∷ []) → get_or (u ++ b ∷ []) 0 0 ≡ 48 → ⊥
      no_zero [] g f l z = omega arith
      no_zero (c ∷ []) g f l z = eqb-false (0 * 10 + (c - 48)) 0 f (omega arith)
      no_zero (c ∷ d ∷ u) (given x) f l z = x.no_leading_zero (omega arith) z

-- ---- rules

pub byte_taken_lem : (u v : List ℕ) (b : ℕ) → Printable (u ++ b ∷ v) → byte_grown (length u) b ≡ Some 0
unfolding byte_grown
byte_taken_lem u v b d =
    let p = each_at u v b d.bytes in
    simp (le-ltb b 32 p.0, le-ltb 126 b p.1, lt-leb 512 (length u) (omega (arith, d.most, length-append u (b ∷ v))))

pub byte_fine : (u : List ℕ) (b m : ℕ) → Given Printable u → byte_grown (length u) b ≡ Some m → Printable (u ++ b ∷ []) × (m ≡ 0)
unfolding byte_grown
byte_fine u b m g e =
    let p1 = past (ltb b 32) _ m e in
    let p2 = past (ltb 126 b) _ m p1.1 in
    let p3 = past (leb 512 (length u)) _ m p2.1 in
    let is : 0 ≡ m = cc p3.1 in (
      record {
        bytes = each_more (bytes_of g) (more (ltb-false b 32 p1.0) (ltb-false 126 b p2.0) none);
        some = omega (arith, length-append u (b ∷ []));
        most = omega (arith, length-append u (b ∷ []), leb-false 512 (length u) p3.0);
      },
      sym is,
    )
  where
    bytes_of : {u : List ℕ} → Given Printable u → Each 32 126 u
    bytes_of left_out = none
    bytes_of (given d) = d.bytes

-- ---- the value of a line, by the line's number

abbrev pub FineOf : ℕ → List ℕ → Type 0
FineOf zero v = Decimal 1 65535 v
FineOf (suc zero) v = Printable v
FineOf (suc (suc k)) v = Decimal 0 99 v

-- the number that the machine makes of it
abbrev pub amount : ℕ → List ℕ → ℕ
amount zero v = number_of v
amount (suc zero) v = 0
amount (suc (suc k)) v = number_of v

pub fine_some : (k : ℕ) (v : List ℕ) → FineOf k v → 0 < length v
fine_some zero v f = f.some
fine_some (suc zero) v f = f.some
fine_some (suc (suc k)) v f = f.some
