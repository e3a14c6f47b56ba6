-- A search that goes sweep by sweep: what joins in a sweep gets the sweep's number as its rank.
use Rattle.std.specs.Prelude.{ℕ, ◌+◌, ◌*◌, ◌/◌, ◌%◌, ◌^◌, ◌≤◌, ◌<◌, ◌≡◌, refl, ◌↔◌, ◌⊎◌, Bool, true, false, ◌&&◌, not, cond, List, eqb, length, get_or, set}
use Rattle.std.proofs.Common.{arith, sym, ap, ap₂, ◌∙◌, inl, inr, ⊎_elim, length-set, get_or-set_same, get_or-set_other, eq-eqb, ne_eqb, eqb-true}
use Rattle.std.proofs.Math.Decide.{ℕ_discrete}
use Rattle.std.proofs.Math.Logic.{⊎_map}
use Rattle.std.proofs.Math.Bool.{So, and-true, and-false}
use Rattle.meaning.specs.Bit.{bit}
use Rattle.graphs.specs.Sets.{Nodes, ◌⊆◌, Below}
use Rattle.graphs.specs.Count.{count_lt, count_pos}
use Rattle.graphs.specs.Walk.{Edges}
use Rattle.graphs.specs.Close.{Partly, partly_start, partly_grow}
use Rattle.graphs.specs.Rank.{Nearest}
use Rattle.model.specs.Sets.{nodes_of}
use Rattle.words.specs.Truth.{so_ext, says_dec, not_so, says_itself, and_says}
use Rattle.words.specs.Laws.{bit_zero}
use Rattle.words.specs.Lowest.{lowest_of, others_of, lowest_lt, bit_lowest, bit_others}
use Rattle.words.specs.Below.{count_below}
use Rattle.nearest.specs.Places.{OnlyAt}

-- the rank of a node
abbrev pub rank_of : List ℕ → ℕ → ℕ
rank_of ranks x = get_or ranks x 0

-- those of P have the rank, all others keep theirs
pub record Marked (P : ℕ → Bool) (rank : ℕ) (old now : List ℕ) : Type 0 where
  pub size : length now ≡ length old
  pub each : (k : ℕ) → k < 4096 → get_or now k 0 ≡ cond (P k) rank (get_or old k 0)

-- the pairs of a word at v
abbrev pub in_word : ℕ → ℕ → ℕ → Bool
in_word v word k = eqb (k / 64) v && bit word (k % 64)

-- those of the word are marked, once those of the rest are
pub record Marking (v word rest rank : ℕ) (old now : List ℕ) : Type 0 where
  pub size : length now ≡ length old
  pub each : (k : ℕ) → k < 4096 → cond (in_word v rest k) rank (get_or now k 0) ≡ cond (in_word v word k) rank (get_or old k 0)

pub marking_start : (v word rank : ℕ) (old : List ℕ) → Marking v word word rank old old
marking_start v word rank old = record { size = refl; each = λ k l. refl }

-- the lowest of the rest is marked
pub marking_turn : (v word rest rank : ℕ) (old now : List ℕ) → v < 64 → length old ≡ 4096 → 0 < rest → rest < 2 ^ 64 → Marking v word rest rank old now
    → Marking v word (others_of rest) rank old (set now (v * 64 + lowest_of rest) rank)
marking_turn v word rest rank old now small long some fits m = record {
  size = length-set now (v * 64 + lowest_of rest) rank ∙ m.size;
  each = λ k l. elim (ℕ_discrete k (v * 64 + lowest_of rest)) [
    | yes e ↦ here k l e
    | no d ↦ rw (bit_others rest some fits (k % 64)) (ap₂ (λ (b : Bool) (r : ℕ). cond b rank r) (other k d) (get_or-set_other now (v * 64 + lowest_of rest) k rank 0 d)) ∙ m.each k l
  ];
}
  where
    low : lowest_of rest < 64
    low = lowest_lt rest some fits

    either : (b : Bool) → cond b rank rank ≡ rank
    either true = refl
    either false = refl

    here : (k : ℕ) → k < 4096 → k ≡ v * 64 + lowest_of rest
        → cond (in_word v (others_of rest) k) rank (get_or (set now (v * 64 + lowest_of rest) rank) k 0) ≡ cond (in_word v word k) rank (get_or old k 0)
    here k l e =
        let p : k / 64 ≡ v = omega (arith, low) in
        let q : k % 64 ≡ lowest_of rest = omega (arith, low) in
        let same : get_or (set now (v * 64 + lowest_of rest) rank) k 0 ≡ rank = rw e (get_or-set_same now (v * 64 + lowest_of rest) rank 0 (omega (arith, m.size, low))) in
        let in_rest : So (in_word v rest k) = rw (p, q, eq-eqb v v refl, bit_lowest rest some fits) in
        rw same (either (in_word v (others_of rest) k)) ∙ ap (λ (b : Bool). cond b rank (get_or now k 0)) (sym in_rest) ∙ m.each k l

    other : (k : ℕ) → (k ≡ v * 64 + lowest_of rest → ⊥) → (eqb (k / 64) v && (bit rest (k % 64) && not (eqb (k % 64) (lowest_of rest)))) ≡ in_word v rest k
    other k d = so_ext _ _
        (λ h. let (a, b) = (and_says (eqb (k / 64) v) _).0 h in (and_says (eqb (k / 64) v) (bit rest (k % 64))).1 (a, ((and_says (bit rest (k % 64)) _).0 b).0))
        (λ h. let (a, b) = (and_says (eqb (k / 64) v) (bit rest (k % 64))).0 h in
        let p = eqb-true (k / 64) v a in
        (and_says (eqb (k / 64) v) _).1 (a, (and_says (bit rest (k % 64)) _).1 (b, rw (ne_eqb (k % 64) (lowest_of rest) (λ q. d (omega arith))))))

pub marking_end : (v word rest rank : ℕ) (old now : List ℕ) → rest ≡ 0 → Marking v word rest rank old now → Marked (in_word v word) rank old now
marking_end v word rest rank old now none m = record { size = m.size; each = λ k l. ap (λ (b : Bool). cond b rank (get_or now k 0)) (sym (out k)) ∙ m.each k l }
  where
    out : (k : ℕ) → in_word v rest k ≡ false
    out k = rw (none, bit_zero) (and-false (eqb (k / 64) v))

-- the pairs of all words but those of the rest
abbrev pub passed : ℕ → List ℕ → ℕ → Bool
passed rest joining k = not (bit rest (k / 64)) && nodes_of joining k

module _ (joining : List ℕ) (rank : ℕ) (old : List ℕ) where
  pub marked_start : (held : ℕ) → OnlyAt 64 held joining → Marked (passed held joining) rank old old
  marked_start held h = record { size = refl; each = λ k l. ap (λ (b : Bool). cond b rank (get_or old k 0)) (sym (none k l (bit held (k / 64)) refl)) }
    where
      none : (k : ℕ) → k < 4096 → (b : Bool) → bit held (k / 64) ≡ b → (not b && nodes_of joining k) ≡ false
      none k l true e = refl
      none k l false e = rw (h.none (k / 64) (omega arith) e) (bit_zero (k % 64))

  -- the lowest word of the rest
  pub marked_more : (rest : ℕ) (now later : List ℕ) → 0 < rest → rest < 2 ^ 64 → Marked (passed rest joining) rank old now
      → Marked (in_word (lowest_of rest) (get_or joining (lowest_of rest) 0)) rank now later → Marked (passed (others_of rest) joining) rank old later
  marked_more rest now later some fits m w = record {
    size = w.size ∙ m.size;
    each = λ k l. w.each k l ∙ rw (m.each k l, bit_others rest some fits (k / 64)) (elim (ℕ_discrete (k / 64) (lowest_of rest)) [
      | yes e ↦ rw (e, eq-eqb (lowest_of rest) (lowest_of rest) refl, bit_lowest rest some fits)
      | no d ↦ rw (ne_eqb (k / 64) (lowest_of rest) d, and-true)
    ]);
  }

  pub marked_end : (rest : ℕ) (now : List ℕ) → rest ≡ 0 → Marked (passed rest joining) rank old now → Marked (nodes_of joining) rank old now
  marked_end rest now done m = record { size = m.size; each = λ k l. m.each k l ∙ rw (done, bit_zero (k / 64)) }

module _ {P : ℕ → Bool} {rank : ℕ} {old now : List ℕ} (m : Marked P rank old now) where
  pub marked_old : (k : ℕ) → k < 4096 → ¬ So (P k) → get_or now k 0 ≡ get_or old k 0
  marked_old k l out = m.each k l ∙ rw (not_so _ out)

  pub marked_new : (k : ℕ) → k < 4096 → So (P k) → get_or now k 0 ≡ rank
  marked_new k l i = m.each k l ∙ rw i

-- C is what r sweeps have found
pub record Ranking (edge : Edges) (Z T C : Nodes) (rank : ℕ → ℕ) (r : ℕ) : Type 0 where
  pub part : Partly edge Z T C
  pub falls : (x : ℕ) → So (C x) → (rank x ≡ 0) ⊎ ((y : ℕ) × So (edge x y) × So (C y) × (rank y < rank x))
  pub ends : (x : ℕ) → So (C x) → rank x ≡ 0 → So (T x)
  pub most : (x : ℕ) → So (C x) → rank x ≤ r
  pub room : (x : ℕ) → So (C x) → r < count_below 4096 C
  pub few : r ≤ count_below 4096 C

module _ {edge : Edges} {Z T : Nodes} (small : Below 4096 Z) where
  pub ranking_start : {C : Nodes} {rank : ℕ → ℕ} → ((x : ℕ) → So (C x) ↔ (So (Z x) × So (T x))) → ((x : ℕ) → rank x ≡ 0) → Ranking edge Z T C rank 0
  ranking_start {C} both none = record {
    part = partly_start both;
    falls = λ x i. inl (none x);
    ends = λ x i e. ((both x).0 i).1;
    most = λ x i. omega (arith, none x);
    room = λ x i. count_pos 4096 C x (small x ((both x).0 i).0) i;
    few = omega arith;
  }

  -- another sweep, in which some node joins
  pub ranking_more : {C D : Nodes} {rank rank' : ℕ → ℕ} {r : ℕ} → Ranking edge Z T C rank r → C ⊆ D
      → ((x : ℕ) → So (D x) → So (C x) ⊎ (So (Z x) × ((y : ℕ) × So (edge x y) × So (C y))))
      → (x : ℕ) → x < 4096 → ¬ So (C x) → So (D x)
      → ((k : ℕ) → So (C k) → rank' k ≡ rank k) → ((k : ℕ) → So (D k) → ¬ So (C k) → rank' k ≡ r + 1)
      → Ranking edge Z T D rank' (r + 1)
  ranking_more {C} {D} {rank} {rank'} {r} c wider joins x l out i old new = record {
    part = partly_grow c.part wider joins;
    falls = λ k d. elim (says_dec (says_itself (C k))) [
      | yes m ↦ ⊎_map (λ z. old k m ∙ z) (λ f. (f.0, f.1, wider f.0 f.2, omega (arith, old k m, old f.0 f.2, f.3))) (c.falls k m)
      | no g ↦ ⊎_elim (λ m. absurd (g m))
          (λ j. let f = j.1 in inr (f.0, f.1, wider f.0 f.2, omega (arith, old f.0 f.2, new k d g, c.most f.0 f.2))) (joins k d)
    ];
    ends = λ k d e. elim (says_dec (says_itself (C k))) [ yes m ↦ c.ends k m (sym (old k m) ∙ e) | no g ↦ absurd (omega (arith, new k d g)) ];
    most = λ k d. elim (says_dec (says_itself (C k))) [ yes m ↦ omega (arith, old k m, c.most k m) | no g ↦ omega (arith, new k d g) ];
    room = λ k d. omega (arith, more, first);
    few = omega (arith, more, c.few);
  }
    where
      more : count_below 4096 C < count_below 4096 D
      more = count_lt 4096 wider x l out i

      first : r < count_below 4096 C
      first = ⊎_elim (λ m. absurd (out m)) (λ j. c.room j.1.0 j.1.2) (joins x i)

-- nothing joins any more
pub ranking_end : {edge : Edges} {Z T C : Nodes} {rank : ℕ → ℕ} {r : ℕ} → Ranking edge Z T C rank r
    → ((x y : ℕ) → So (Z x) → So (edge x y) → So (C y) → So (C x)) → Nearest 4096 edge Z T C rank
ranking_end c back = record {
  closure = record { part = c.part; back = back };
  ranked = record { inside = c.part.inside; falls = c.falls; low = λ x i. omega (arith, c.most x i, c.room x i) };
  ends = c.ends;
}
