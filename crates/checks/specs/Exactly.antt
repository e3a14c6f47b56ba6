-- What the check of a set of pairs says: each is of the table's states and the rule's valuations.
use mathlib.Core.Logic.Iff
use Rattle.std.specs.Prelude.{ℕ, ◌-◌, ◌^◌, ◌≤◌, ◌<◌, ◌≡◌, refl, ◌↔◌, ◌⊎◌, Bool, true, false, ◌&&◌, ◌||◌, not, List, ltb, get_or}
use Rattle.std.proofs.Common.{arith, sym, ap, ◌∙◌, inl, inr, ⊎_elim, ltb-true, lt-ltb, eqb-true, eq-eqb}
use Rattle.std.proofs.Math.Bool.{So}
use Rattle.std.proofs.lemmas.Bool.{false≢true}
use Rattle.meaning.specs.Bit.{bit}
use Rattle.meaning.specs.Says.{Says}
use Rattle.meaning.specs.Formula.{Formula, parts}
use Rattle.meaning.specs.Run as run
use Rattle.words.specs.Word.{only_of, without_of}
use Rattle.words.specs.Truth.{and_says, or_says, not_so, says_and, says_itself, says_same}
use Rattle.words.specs.Tests.{lt_says}
use Rattle.words.specs.Laws.{bit_left, bit_only, bit_all, bit_zero, same_bits}
use Rattle.words.specs.Unions.{union_none, none_union}
use Rattle.words.specs.Within.{members_below}
use Rattle.words.specs.Lists.{entry_inside}
use Rattle.pairs.specs.Sets.{Words, inside, join_of, length_join, inside_join}
use Rattle.model.specs.Sets.{PairSet}
use Rattle.model.specs.Checks.{pairs_ok, pairs_says}
use Rattle.checks.specs.Checks.{stray_at, pairs_fit}

member : (a c : Bool) → So a → (a && not c) ≡ false → So c
member true true h e = refl
member true false h e = absurd (false≢true (sym e))
member false c h e = absurd (false≢true h)

no_member : (a c : Bool) → So c → So (a && not c) → ⊥
no_member true true h e = false≢true e
no_member true false h e = false≢true h
no_member false c h e = false≢true e

-- a word has no stray member exactly if each member is below n, and there is none where the test fails
module _ (b : Bool) (n x : ℕ) (few : n ≤ 64) (low : x < 2 ^ 64) where
  abbrev allowed : ℕ
  allowed = only_of b (2 ^ n - 1)

  bit_allowed : (s : ℕ) → Says (bit allowed s) (So b × (s < n))
  bit_allowed s = rw (bit_only, bit_all) (says_and (says_itself b) (lt_says s n))

  allowed_low : allowed < 2 ^ 64
  allowed_low = (members_below 64 allowed).1 (λ s i. let h = ((bit_allowed s).0 i).1 in omega arith)

  stray_none : (without_of x allowed ≡ 0) ↔ ((s : ℕ) → So (bit x s) → So b × (s < n))
  stray_none = (
    λ e s i. (bit_allowed s).0 (member (bit x s) (bit allowed s) i
        (sym (bit_left x allowed low allowed_low s) ∙ ap (λ z. bit z s) e ∙ bit_zero s)),
    λ h. same_bits (without_of x allowed) 0 (λ s. not_so (bit (without_of x allowed) s) (none h s) ∙ sym (bit_zero s)),
  )
    where
      none : ((s : ℕ) → So (bit x s) → So b × (s < n)) → (s : ℕ) → So (bit (without_of x allowed) s) → ⊥
      none h s i =
          let left = sym (bit_left x allowed low allowed_low s) ∙ i in
          no_member (bit x s) (bit allowed s) ((bit_allowed s).1 (h s ((and_says (bit x s) (not (bit allowed s))).0 left).0)) left

module _ (T : run.Plant) (f : Formula) (few : T.states ≤ 64) where
  -- the test with the table's states and the rule's valuations
  abbrev pub fit : List ℕ → Bool
  fit l = pairs_fit l (2 ^ T.states - 1) (2 ^ parts f)

  -- says that every pair is of these
  pub fit_says : (l : List ℕ) → Words l → Says (fit l) (PairSet T f l)
  unfolding pairs_fit
  fit_says l w = (there, back)
    where
      exactly : (v : ℕ) → v < 64 → (stray_at l (2 ^ T.states - 1) (2 ^ parts f) v ≡ 0) ↔ ((s : ℕ) → So (inside l s v) → So (ltb v (2 ^ parts f)) × (s < T.states))
      exactly v low = stray_none (ltb v (2 ^ parts f)) T.states (get_or l v 0) few (w.fits v low)

      there : So (fit l) → PairSet T f l
      there e = record {
        long = w.long;
        range = λ s v i.
            let low : v < 64 = rw w.long at (entry_inside l v s i) in
            let h = (exactly v low).0 (union_none 64 (stray_at l (2 ^ T.states - 1) (2 ^ parts f)) (eqb-true _ 0 e) v low) s i in
            (h.1, ltb-true v (2 ^ parts f) h.0);
      }

      back : PairSet T f l → So (fit l)
      back z = eq-eqb _ 0 (none_union 64 (stray_at l (2 ^ T.states - 1) (2 ^ parts f)) (λ v low.
          (exactly v low).1 (λ s i. let h = z.range s v i in (lt-ltb v (2 ^ parts f) h.1, h.0))))

  -- so it is check 9 of a set of pairs
  pub fit_is : (l : List ℕ) → Words l → fit l ≡ pairs_ok T f l
  fit_is l w = says_same (fit_says l w) (pairs_says T f l)

  -- the pairs of two sets together are of these exactly if those of each are
  pub join_says : (l m : List ℕ) → Words l → Words m → Says (fit (join_of l m)) (PairSet T f l × PairSet T f m)
  join_says l m w x = Iff.trans (fit_says (join_of l m) joined) (λ z. (one z, two z), both)
    where
      either : (s v : ℕ) → So (inside (join_of l m) s v) → So (inside l s v) ⊎ So (inside m s v)
      either s v i = (or_says (inside l s v) (inside m s v)).0 ((and_says (ltb v 64) (inside l s v || inside m s v)).0 (sym (inside_join l m s v) ∙ i)).1

      joins : (s v : ℕ) → v < 64 → So (inside l s v) ⊎ So (inside m s v) → So (inside (join_of l m) s v)
      joins s v h i = inside_join l m s v ∙ (and_says (ltb v 64) (inside l s v || inside m s v)).1 (lt-ltb v 64 h, (or_says (inside l s v) (inside m s v)).1 i)

      joined : Words (join_of l m)
      joined = record {
        long = length_join l m;
        fits = λ v low. (members_below 64 (get_or (join_of l m) v 0)).1 (λ s i.
            ⊎_elim ((members_below 64 (get_or l v 0)).0 (w.fits v low) s) ((members_below 64 (get_or m v 0)).0 (x.fits v low) s) (either s v i));
      }

      one : PairSet T f (join_of l m) → PairSet T f l
      one z = record { long = w.long; range = λ s v i. z.range s v (joins s v (rw w.long at (entry_inside l v s i)) (inl i)) }

      two : PairSet T f (join_of l m) → PairSet T f m
      two z = record { long = x.long; range = λ s v i. z.range s v (joins s v (rw x.long at (entry_inside m v s i)) (inr i)) }

      both : PairSet T f l × PairSet T f m → PairSet T f (join_of l m)
      both (y, z) = record { long = length_join l m; range = λ s v i. ⊎_elim (y.range s v) (z.range s v) (either s v i) }
