-- No node stands twice among the nodes of the parts.
use Rattle.std.specs.Prelude.{ℕ, zero, suc, ◌+◌, ◌≤◌, ◌<◌, ◌≡◌, Bool, true, false, cond, List, [], ◌∷◌, ◌++◌, length, get_or}
use Rattle.std.proofs.Common.{arith}
use Rattle.syntax.specs.declared.Op.{Op}
use Rattle.theory.specs.Each.{Each, each_append, each_at, each_imp}
use Rattle.shape.specs.Ops.{is_part}
use Rattle.truth_laws.specs.Tree.{Tree, leaf, one, two, nodes_in, own, placed}

-- from lo on, below hi
Between : ℕ → ℕ → ℕ → Type 0
Between lo hi x = (lo ≤ x) × (x < hi)

abbrev pub Apart : List ℕ → Type 0
Apart [] = Unit {0}
Apart (x ∷ xs) = Each (λ y. x ≡ y → ⊥) xs × Apart xs

pub apart_at : (xs : List ℕ) → Apart xs → (j k : ℕ) → j < k → k < length xs → get_or xs j 0 ≡ get_or xs k 0 → ⊥
apart_at [] a j k l h = absurd (omega arith)
apart_at (x ∷ xs) a j zero l h = absurd (omega arith)
apart_at (x ∷ xs) a zero (suc k) l h = each_at (λ y. x ≡ y → ⊥) 0 xs a.0 k (omega arith)
apart_at (x ∷ xs) a (suc j) (suc k) l h = apart_at xs a.1 j k (omega arith) (omega arith)

-- those below m, and then those from m on
apart_append : (m : ℕ) (xs ys : List ℕ) → Each (λ x. x < m) xs → Each (λ y. m ≤ y) ys → Apart xs → Apart ys → Apart (xs ++ ys)
apart_append m [] ys l h a b = b
apart_append m (x ∷ xs) ys l h a b = (
  (each_append (λ y. x ≡ y → ⊥) xs ys).1 (a.0, each_imp (λ y. m ≤ y) (λ y. x ≡ y → ⊥) (λ y k e. omega (arith, l.0)) ys h),
  apart_append m xs ys l.1 h a.1 b,
)

wider : (lo hi lo' hi' : ℕ) → lo' ≤ lo → hi ≤ hi' → (xs : List ℕ) → Each (Between lo hi) xs → Each (Between lo' hi') xs
unfolding Between
wider lo hi lo' hi' l h xs e = each_imp (Between lo hi) (Between lo' hi') (λ x b. (omega (arith, b.0), omega (arith, b.1))) xs e

own_between : (o : Op) (lo hi i : ℕ) (xs : List ℕ) → lo ≤ i → i < hi → Each (Between lo hi) xs → Each (Between lo hi) (own o i xs)
unfolding Between
own_between o lo hi i xs l h e = go (is_part o)
  where
    go : (b : Bool) → Each (Between lo hi) (cond b (i ∷ xs) xs)
    go true = ((l, h), e)
    go false = e

own_apart : (o : Op) (lo i : ℕ) (xs : List ℕ) → Each (Between lo i) xs → Apart xs → Apart (own o i xs)
unfolding Between
own_apart o lo i xs e a = go (is_part o)
  where
    go : (b : Bool) → Apart (cond b (i ∷ xs) xs)
    go true = (each_imp (Between lo i) (λ y. i ≡ y → ⊥) (λ y b k. omega (arith, b.1)) xs e, a)
    go false = a

-- they are nodes of the tree
placed_between : (t : Tree) (i : ℕ) → Each (Between i (i + nodes_in t)) (placed t i)
unfolding placed nodes_in
placed_between (leaf o) i = tt
placed_between (one o a) i =
    own_between o i (i + suc (nodes_in a)) (i + nodes_in a) (placed a i) (omega arith) (omega arith)
    (wider i (i + nodes_in a) i (i + suc (nodes_in a)) (omega arith) (omega arith) (placed a i) (placed_between a i))
placed_between (two o a b) i =
    let j = i + nodes_in a in
    let hi = i + suc (nodes_in a + nodes_in b) in
    (each_append (Between i hi) (placed a i) (own o (j + nodes_in b) (placed b j))).1 (
      wider i j i hi (omega arith) (omega arith) (placed a i) (placed_between a i),
      own_between o i hi (j + nodes_in b) (placed b j) (omega arith) (omega arith)
          (wider j (j + nodes_in b) i hi (omega arith) (omega arith) (placed b j) (placed_between b j)),
    )

pub placed_below : (t : Tree) (i k : ℕ) → k < length (placed t i) → get_or (placed t i) k 0 < i + nodes_in t
unfolding Between
placed_below t i k l = (each_at (Between i (i + nodes_in t)) 0 (placed t i) (placed_between t i) k l).1

pub placed_apart : (t : Tree) (i : ℕ) → Apart (placed t i)
unfolding placed nodes_in Between
placed_apart (leaf o) i = tt
placed_apart (one o a) i = own_apart o i (i + nodes_in a) (placed a i) (placed_between a i) (placed_apart a i)
placed_apart (two o a b) i =
    let j = i + nodes_in a in
    let hi = j + suc (nodes_in b) in
    let right = own o (j + nodes_in b) (placed b j) in
    apart_append j (placed a i) right
    (each_imp (Between i j) (λ x. x < j) (λ x p. p.1) (placed a i) (placed_between a i))
    (each_imp (Between j hi) (λ x. j ≤ x) (λ x p. p.0) right
    (own_between o j hi (j + nodes_in b) (placed b j) (omega arith) (omega arith) (wider j (j + nodes_in b) j hi (omega arith) (omega arith) (placed b j) (placed_between b j))))
    (placed_apart a i) (own_apart o j (j + nodes_in b) (placed b j) (placed_between b j) (placed_apart b j))
