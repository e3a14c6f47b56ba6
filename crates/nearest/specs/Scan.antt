-- What a scan for a pair of low rank finds: word by word, and in a word member by member.
use Rattle.std.specs.Prelude.{ℕ, ◌+◌, ◌*◌, ◌/◌, ◌%◌, ◌^◌, ◌<◌, ◌≡◌, not, List, eqb, get_or}
use Rattle.std.proofs.Common.{arith, lt_of_le_of_lt, sym, ◌∙◌, ne_eqb}
use Rattle.std.proofs.Math.Decide.{dec_lt}
use Rattle.std.proofs.Math.Bool.{So}
use Rattle.std.proofs.lemmas.Bool.{false≢true}
use Rattle.std.proofs.lemmas.Nat.{and_le_l}
use Rattle.meaning.specs.Bit.{bit}
use Rattle.words.specs.Laws.{bit_zero}
use Rattle.words.specs.Lowest.{lowest_of, others_of, lowest_lt, bit_lowest, bit_others}
use Rattle.words.specs.Truth.{and_says}
use Rattle.model.specs.Sets.{nodes_of, at_node}

pub record Lower (set ranks : List ℕ) (limit y : ℕ) : Type 0 where
  pub small : y < 4096
  pub held : So (nodes_of set y)
  pub less : get_or ranks y 0 < limit

-- no such pair is among the first n
pub record NoneTo (set ranks : List ℕ) (limit n : ℕ) : Type 0 where
  pub none : (y : ℕ) → y < n → Lower set ranks limit y → ⊥

-- none is among the words up to w but for the rest of word w
pub record NoneBut (set ranks : List ℕ) (limit w rest : ℕ) : Type 0 where
  pub fits : rest < 2 ^ 64
  pub part : (s : ℕ) → So (bit rest s) → So (bit (get_or set w 0) s)
  pub none : (y : ℕ) → y < (w + 1) * 64 → Lower set ranks limit y → (y / 64 ≡ w) × So (bit rest (y % 64))

module _ {set ranks : List ℕ} {limit : ℕ} where
  pub none_start : NoneTo set ranks limit 0
  none_start = record { none = λ y l. absurd (omega arith) }

  -- a word to be scanned
  pub word_start : (w word : ℕ) → word ≡ get_or set w 0 → word < 2 ^ 64 → NoneTo set ranks limit (w * 64) → NoneBut set ranks limit w word
  word_start w word is fits h = record {
    fits = fits;
    part = λ s i. rw is at i;
    none = λ y l p. elim (dec_lt y (w * 64)) [
      | yes k ↦ absurd (h.none y k p)
      | no d ↦ (let e : y / 64 ≡ w = omega arith in (e, rw (is, ← e) p.held))
    ];
  }

  module _ (w rest : ℕ) (some : 0 < rest) (h : NoneBut set ranks limit w rest) where
    -- its lowest member is none
    pub word_on : ¬ (get_or ranks (w * 64 + lowest_of rest) 0 < limit) → NoneBut set ranks limit w (others_of rest)
    word_on high = record {
      fits = lt_of_le_of_lt (and_le_l rest _) h.fits;
      part = λ s i. h.part s ((and_says (bit rest s) _).0 (rw (bit_others rest some h.fits s) at i)).0;
      none = λ y l p. let (e, b) = h.none y l p in (e, rw (bit_others rest some h.fits (y % 64)) ((and_says (bit rest (y % 64)) (not (eqb (y % 64) (lowest_of rest)))).1 (b, other y e p)));
    }
      where
        other : (y : ℕ) → y / 64 ≡ w → Lower set ranks limit y → So (not (eqb (y % 64) (lowest_of rest)))
        other y e p = rw (ne_eqb (y % 64) (lowest_of rest) (λ q. let is : y ≡ w * 64 + lowest_of rest = omega arith in high (rw is at p.less)))

    -- or it is one
    pub word_found : w < 64 → get_or ranks (w * 64 + lowest_of rest) 0 < limit → Lower set ranks limit (w * 64 + lowest_of rest)
    word_found low less =
        let l = lowest_lt rest some h.fits in
        record { small = omega arith; held = rw (at_node set (lowest_of rest) w l) (h.part (lowest_of rest) (bit_lowest rest some h.fits)); less = less }

  pub word_end : (w rest : ℕ) → rest ≡ 0 → NoneBut set ranks limit w rest → NoneTo set ranks limit ((w + 1) * 64)
  word_end w rest done h = record { none = λ y l p. false≢true (sym (bit_zero (y % 64)) ∙ rw done at (h.none y l p).1) }
