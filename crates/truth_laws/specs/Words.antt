-- The words behind each node, as the loop leaves them.
use Prim.Native.Nat.{ℕ, zero, suc, ◌+◌, ◌-◌, ◌*◌, ◌/◌, ◌%◌, ◌^◌, ◌≤◌, ◌<◌}
use Rattle.std.specs.Prelude.{◌≡◌, Bool, true, false, cond, ◌&&◌, List, ltb, length}
use Rattle.std.proofs.Common.{sym, ap, ap₂, ◌∙◌, arith, lt_of_le_of_lt, lt-ltb}
use Rattle.std.proofs.Math.Decide.{ℕ_discrete}
use Rattle.std.proofs.lemmas.Nat.{or_lt, and_le_l}
use Rattle.std.proofs.Math.ListN.{get_or, length-set, length-replicate}
use Rattle.std.proofs.Math.Seq.{get_or-set_same, get_or-set_other}
use Rattle.meaning.specs.Bit.{bit}
use Rattle.syntax.specs.declared.Op.{Op}
use Rattle.syntax.specs.declared.Op.TheVariants.{False, True, Prop, Not, Next, Finally, Globally, Until, Release, And, Or, Implies}
use Rattle.syntax.specs.declared.Node.{Node}
use Rattle.words.specs.Word.{only_of}
use Rattle.words.specs.Lists.{zeros}
use Rattle.shape.specs.Ops.{op_at}
use Rattle.truth.specs.Nodes.{leaf_of, own_of, made_of, word_at, nodes_after}
use Rattle.truth_laws.specs.Grows.{stays}

-- ---- they are words

only_small : (b : Bool) → only_of b (2 ^ 64 - 1) < 2 ^ 64
only_small true = omega arith
only_small false = omega arith

pub own_small : (v k : ℕ) → own_of v k < 2 ^ 64
own_small v k = only_small (ltb k 6 && bit v k)

pub word_small : (w : List ℕ) → ((x : ℕ) → get_or w x 0 < 2 ^ 64) → (p v : ℕ) → word_at w p v < 2 ^ 64
word_small w h p v = go (ltb p 33)
  where
    go : (b : Bool) → cond b (get_or w (p * 64 + v) 0) 0 < 2 ^ 64
    go true = h (p * 64 + v)
    go false = omega arith

at_place : (w : List ℕ) (p v : ℕ) → p < 33 → word_at w p v ≡ get_or w (p * 64 + v) 0
at_place w p v h = ap (λ (b : Bool). cond b (get_or w (p * 64 + v) 0) 0) (lt-ltb p 33 h)

made_small : (o : Op) (leaf x y own : ℕ) → leaf < 2 ^ 64 → x < 2 ^ 64 → y < 2 ^ 64 → own < 2 ^ 64
    → made_of o leaf x y own < 2 ^ 64
made_small False leaf x y own h lx ly lo = omega arith
made_small True leaf x y own h lx ly lo = omega arith
made_small (Prop p) leaf x y own h lx ly lo = h
made_small Not leaf x y own h lx ly lo = omega arith
made_small Next leaf x y own h lx ly lo = lo
made_small Finally leaf x y own h lx ly lo = lo
made_small Globally leaf x y own h lx ly lo = lo
made_small Until leaf x y own h lx ly lo = lo
made_small Release leaf x y own h lx ly lo = lo
made_small And leaf x y own h lx ly lo = lt_of_le_of_lt (and_le_l x y) lx
made_small Or leaf x y own h lx ly lo = or_lt 64 x y lx ly
made_small Implies leaf x y own h lx ly lo = or_lt 64 (2 ^ 64 - 1 - x) y (omega arith) ly

module _ (nodes : List Node) (label begins numbers : List ℕ) where
  abbrev after : ℕ → List ℕ
  after n = nodes_after nodes label begins numbers n

  -- what turn n stores
  abbrev stored : ℕ → ℕ
  stored n =
      made_of (op_at nodes (n / 64)) (leaf_of (op_at nodes (n / 64)) label) (word_at (after n) (get_or begins (n / 64) 0) (n % 64)) (get_or (after n) n 0) (own_of (n % 64) (get_or numbers (n / 64) 0))

  length_after : (n : ℕ) → length (after n) ≡ 2112
  unfolding nodes_after
  length_after zero = length-replicate {A = ℕ} 2112 0
  length_after (suc n) = length-set (after n) (n + 64) (stored n) ∙ length_after n

  after_same : (n : ℕ) → n < 2048 → get_or (after (suc n)) (n + 64) 0 ≡ stored n
  unfolding nodes_after
  after_same n l = get_or-set_same (after n) (n + 64) (stored n) 0 (omega (arith, length_after n))

  after_other : (n x : ℕ) → (x ≡ n + 64 → ⊥) → get_or (after (suc n)) x 0 ≡ get_or (after n) x 0
  unfolding nodes_after
  after_other n x d = get_or-set_other (after n) (n + 64) x (stored n) 0 d

  module _ (small : (o : Op) → leaf_of o label < 2 ^ 64) where
    pub after_small : (n : ℕ) → n ≤ 2048 → (x : ℕ) → get_or (after n) x 0 < 2 ^ 64
    unfolding nodes_after
    after_small zero l x = rw (zeros 2112 x) (omega arith)
    after_small (suc n) l x =
        let old : (x : ℕ) → get_or (after n) x 0 < 2 ^ 64 = after_small n (omega arith) in
        elim (ℕ_discrete x (n + 64)) [
          | yes e ↦ rw (e, after_same n l) (made_small (op_at nodes (n / 64)) _ _ _ _ (small (op_at nodes (n / 64)))
              (word_small (after n) old (get_or begins (n / 64) 0) (n % 64)) (old n) (own_small (n % 64) (get_or numbers (n / 64) 0)))
          | no d ↦ rw (after_other n x d) (old x)
        ]

  -- ---- each from those before it

  module _ (len : ℕ) (few : len ≤ 32) where
    abbrev words : List ℕ
    words = after (len * 64)

    entry_stays : (n x : ℕ) → x < n + 64 → n ≤ len * 64 → get_or words x 0 ≡ get_or (after n) x 0
    entry_stays n x l h = stays (λ m. get_or (after m) x 0) (len * 64) n (λ m k _. after_other m x (λ e. omega arith)) (len * 64) h (omega arith)

    word_stays : (p q v : ℕ) → p < len → v < 64 → q ≤ p → word_at (after (p * 64 + v)) q v ≡ word_at words q v
    word_stays p q v l lv h = ap (λ (x : ℕ). cond (ltb q 33) x 0) (sym (entry_stays (p * 64 + v) (q * 64 + v) (omega arith) (omega arith)))

    pub word_made : (p v : ℕ) → p < len → v < 64 → get_or begins p 0 ≤ p
        → word_at words (suc p) v ≡ made_of (op_at nodes p) (leaf_of (op_at nodes p) label) (word_at words (get_or begins p 0) v) (word_at words p v) (own_of v (get_or numbers p 0))
    word_made p v l lv low =
        let m = p * 64 + v in
        at_place words (suc p) v (omega arith)
        ∙ ap (λ (x : ℕ). get_or words x 0) (omega arith)
        ∙ entry_stays (suc m) (m + 64) (omega arith) (omega arith)
        ∙ after_same m (omega arith)
        ∙ ap₂ (λ (q d : ℕ). made_of (op_at nodes q) (leaf_of (op_at nodes q) label) (word_at (after m) (get_or begins q 0) d) (get_or (after m) m 0) (own_of d (get_or numbers q 0)))
        (omega arith) (omega arith)
        ∙ ap₂ (λ (x y : ℕ). made_of (op_at nodes p) (leaf_of (op_at nodes p) label) x y (own_of v (get_or numbers p 0)))
        (word_stays p (get_or begins p 0) v l lv low)
        (sym (entry_stays m m (omega arith) (omega arith)) ∙ sym (at_place words p v (omega arith)))
