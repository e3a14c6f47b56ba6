-- What the calls that read numbers give: the guess at the number, and the cursor behind that number's slots.
use Rattle.std.specs.Prelude.{ℕ, ◌+◌, ◌*◌, ◌/◌, ◌%◌, ◌^◌, ◌≤◌, ◌<◌, ◌≡◌, true, false, List, [], ◌∷◌, ltb, eqb, length, drop, get_or}
use Rattle.std.proofs.Common.{sym, ap, ap₂, ◌∙◌, arith, add-zero, add-one, get_or-drop, lt-ltb, le-ltb, eq-eqb, ne_eqb, ⊎_elim}
use Rattle.std.proofs.Math.Nat.{pow-le-pow_right}
use Rattle.std.proofs.Math.ListN.{get_or-eq_default}
use Rattle.text.specs.Cases.{below_or_beyond, if_below}
use Rattle.text.specs.Slot.{exactly, digit, admits, digit_value}
use Rattle.text.specs.Number.{digit_or0, hex_slots, hex_guess, count_slots, lead_of, next_of, last_of, count_of, count_guess}
use Rattle.text.specs.Count.{count_within}
use Rattle.text.specs.Hex.{digit_of_lem}
use Rattle.text.specs.After.{cursor_after, meets, further, goes_on}
use Rattle.text.specs.declared.Cursor.{Cursor}

-- the digit behind c, and the cursor behind it
pub record IsDigit (s : List ℕ) (c : Cursor) (value : ℕ) (next : Cursor) : Type 0 where
  pub is : value ≡ digit_or0 (get_or s c.at 0)
  pub slots : next ≡ cursor_after s c (digit value ∷ [])
  pub small : value < 16
  pub at : next.at ≡ c.at + 1

-- the hexadecimal number behind c, and the cursor behind it
pub record IsHex (s : List ℕ) (c : Cursor) (width value : ℕ) (next : Cursor) : Type 0 where
  pub is : value ≡ hex_guess width (drop c.at s)
  pub slots : next ≡ cursor_after s c (hex_slots width value)
  pub small : value < 16 ^ width
  pub at : next.at ≡ c.at + width

-- the count behind c with its end, and the cursor behind it
pub record IsCount (s : List ℕ) (c : Cursor) (end lo hi value : ℕ) (next : Cursor) : Type 0 where
  pub is : value ≡ count_guess lo hi (drop c.at s)
  pub slots : next ≡ cursor_after s c (count_slots end value)
  pub at : next.at ≤ c.at + 3
  pub low : lo ≤ value
  pub high : value ≤ hi

-- whether the byte at a place is the digit n: no byte stands beyond the end, and 0 is no digit
pub meets_one : (s : List ℕ) (i n : ℕ) → meets s i (digit n) ≡ eqb (digit_value (get_or s i 0)) (n % 16)
unfolding meets admits digit_value
meets_one s i n = ⊎_elim inside beyond (below_or_beyond i (length s))
  where
    inside : i < length s → meets s i (digit n) ≡ eqb (digit_value (get_or s i 0)) (n % 16)
    inside l = rw (lt-ltb i (length s) l)

    beyond : length s ≤ i → meets s i (digit n) ≡ eqb (digit_value (get_or s i 0)) (n % 16)
    beyond l = rw (le-ltb i (length s) l, get_or-eq_default s 0 l) (sym (ne_eqb 16 (n % 16) (λ e. omega arith)))

-- the byte that is guessed fits exactly if it is a digit
pub meets_digit : (s : List ℕ) (i : ℕ) → meets s i (digit (digit_or0 (get_or s i 0))) ≡ ltb (digit_value (get_or s i 0)) 16
unfolding digit_or0
meets_digit s i =
    meets_one s i (digit_or0 (get_or s i 0))
    ∙ if_below (digit_value (get_or s i 0)) 16 (λ v. eqb (digit_value (get_or s i 0)) (v % 16) ≡ ltb (digit_value (get_or s i 0)) 16) (digit_value (get_or s i 0)) 0 is_digit is_none
  where
    is_digit : digit_value (get_or s i 0) < 16 → eqb (digit_value (get_or s i 0)) (digit_value (get_or s i 0) % 16) ≡ ltb (digit_value (get_or s i 0)) 16
    is_digit h = rw (lt-ltb (digit_value (get_or s i 0)) 16 h) (eq-eqb (digit_value (get_or s i 0)) (digit_value (get_or s i 0) % 16) (omega arith))

    is_none : 16 ≤ digit_value (get_or s i 0) → eqb (digit_value (get_or s i 0)) 0 ≡ ltb (digit_value (get_or s i 0)) 16
    is_none h = rw (le-ltb (digit_value (get_or s i 0)) 16 h) (ne_eqb (digit_value (get_or s i 0)) 0 (λ e. omega arith))

-- a digit more
pub hex_turn :
    (s : List ℕ) (c d e : Cursor) (i value x : ℕ) → d.at ≡ c.at + i → IsHex s c i value d → IsDigit s d x e → IsHex s c (i + 1) (value * 16 + x) e
unfolding hex_slots hex_guess
hex_turn s c d e i value x p h g =
    let q : (value * 16 + x) / 16 ≡ value = omega arith in
    let r : (value * 16 + x) % 16 ≡ x = omega arith in
    rw add-one
    (record {
      is = ap₂ (λ (v k : ℕ). v * 16 + k) h.is (g.is ∙ ap digit_or0 (ap (λ (k : ℕ). get_or s k 0) p ∙ sym (get_or-drop c.at s i 0)));
      slots = rw (q, r) (goes_on s c d e (hex_slots i value) (digit x ∷ []) h.slots g.slots);
      small = omega arith;
      at = omega arith;
    })

pub digit_yes :
    (s : List ℕ) (c e : Cursor) (v : ℕ) → v ≡ digit_value (get_or s c.at 0) → v < 16 → (e ≡ further c true) × (e.at ≡ c.at + 1) → IsDigit s c v e
unfolding cursor_after
digit_yes s c e v q h r =
    let i : v ≡ digit_or0 (get_or s c.at 0) = sym (digit_of_lem (get_or s c.at 0) v (sym q) h) in
    let m : true ≡ meets s c.at (digit v) = sym (ap (λ (x : ℕ). meets s c.at (digit x)) i ∙ meets_digit s c.at ∙ lt-ltb _ 16 (rw q at h)) in
    record { is = i; slots = r.0 ∙ ap (further c) m; small = h; at = r.1 }

pub digit_no :
    (s : List ℕ) (c e : Cursor) (v : ℕ) → v ≡ digit_value (get_or s c.at 0) → 16 ≤ v → (e ≡ further c false) × (e.at ≡ c.at + 1) → IsDigit s c 0 e
unfolding cursor_after digit_or0
digit_no s c e v q h r =
    let i : 0 ≡ digit_or0 (get_or s c.at 0) = rw (le-ltb (digit_value (get_or s c.at 0)) 16 (rw q at h)) in
    let m : false ≡ meets s c.at (digit 0) = sym (ap (λ (x : ℕ). meets s c.at (digit x)) i ∙ meets_digit s c.at ∙ le-ltb _ 16 (rw q at h)) in
    record { is = i; slots = r.0 ∙ ap (further c) m; small = omega arith; at = r.1 }

-- a known digit
pub digit_met :
    (s : List ℕ) (c e : Cursor) (n v : ℕ) → n < 16 → v ≡ digit_value (get_or s c.at 0) → (e ≡ further c (eqb v n)) × (e.at ≡ c.at + 1)
    → (e ≡ cursor_after s c (digit n ∷ [])) × (e.at ≡ c.at + 1)
unfolding cursor_after
digit_met s c e n v h q r =
    let n16 : n ≡ n % 16 = omega arith in
    (r.0 ∙ ap (further c) (ap₂ eqb q n16 ∙ sym (meets_one s c.at n)), r.1)

-- what a number of fewer digits leaves room for
pub digits_room : (v i w : ℕ) → v < 16 ^ i → i ≤ w → v < 16 ^ w
digits_room v i w h l = omega (arith, pow-le-pow_right {n = 16} (omega arith) l)

pub hex_room : (s : List ℕ) (c d : Cursor) (i w v : ℕ) → IsHex s c i v d → i ≤ w → v < 16 ^ w
hex_room s c d i w v h l = digits_room v i w h.small l

pub count_one :
    (s : List ℕ) (c d e : Cursor) (end n : ℕ) → n < 10 → d ≡ cursor_after s c (digit n ∷ []) → e ≡ cursor_after s d (exactly end ∷ []) → e ≡ cursor_after s c (count_slots end n)
unfolding count_slots lead_of next_of last_of
count_one s c d e end n h p q = rw (lt-ltb n 10 h) (goes_on s c d e (digit n ∷ []) (exactly end ∷ []) p q)

pub count_two :
    (s : List ℕ) (c d e f : Cursor) (end n : ℕ) → 10 ≤ n → d ≡ cursor_after s c (digit (n / 10) ∷ []) → e ≡ cursor_after s d (digit (n % 10) ∷ [])
    → f ≡ cursor_after s e (exactly end ∷ []) → f ≡ cursor_after s c (count_slots end n)
unfolding count_slots lead_of next_of last_of
count_two s c d e f end n h p q r =
    rw (le-ltb n 10 h)
    (goes_on s c d f (digit (n / 10) ∷ []) (digit (n % 10) ∷ exactly end ∷ []) p
    (goes_on s d e f (digit (n % 10) ∷ []) (exactly end ∷ []) q r))

pub count_is :
    (s : List ℕ) (c next : Cursor) (end lo hi x y value : ℕ) → (lo ≤ 1) × (lo ≤ hi) × (hi < 100) × (c.at + 3 < 4294967295) → x ≡ digit_value (get_or s c.at 0)
    → y ≡ digit_value (get_or s (c.at + 1) 0) → value ≡ count_of lo hi x y → (next ≡ cursor_after s c (count_slots end value)) × (next.at ≤ c.at + 3)
    → IsCount s c end lo hi value next
count_is s c next end lo hi x y value pre p q v n =
    let w = count_within lo hi pre.0 pre.1 pre.2 x y in
    record {
      is = v ∙ ap₂ (count_of lo hi) (p ∙ ap (λ (k : ℕ). digit_value (get_or s k 0)) (sym (add-zero c.at)) ∙ ap digit_value (sym (get_or-drop c.at s 0 0)))
          (q ∙ ap digit_value (sym (get_or-drop c.at s 1 0)));
      slots = n.0;
      at = n.1;
      low = rw v w.0;
      high = rw v w.1;
    }
