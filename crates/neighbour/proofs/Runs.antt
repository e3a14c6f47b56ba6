-- The runs of a report as they are put together, and the checks of a report, by what each test shows.
use Rattle.std.specs.Prelude.{Ok, Err}
use Prim.Native.Nat.{ℕ, ◌+◌, ◌-◌, ◌≤◌, ◌<◌, zero-le}
use native.Mathlib.Omega.{arith}
use native.Mathlib.Decide.{dec_lt}
use mathlib.Core.Path.{◌≡◌, refl, sym, ◌∙◌}
use mathlib.Core.Bool.{Bool, true, false, cond}
use mathlib.Core.List.{List, ◌++◌}
use lib.Dec.{ltb}
use lib.ListN.{length, take, drop, replicate, length-append, length-take}
use borrow.Author.Tests.{lt-ltb, le-ltb, ltb-false}
use Rattle.io.proofs.Counting.{prefix_len_of_le}
use Rattle.writing.specs.Put.{Put, puts, put_over}
use Rattle.answers.specs.declared.Kind.TheVariants.{Value, RunLength}
use Rattle.answers.specs.declared.Refusal.{Refusal}
use Rattle.answers.specs.Paper.{refused_at}
use Rattle.neighbour.specs.declared.sent.ShownRun.{ShownRun}
use Rattle.neighbour.specs.Report.{no_run, joined_of, shown_of, RunSized, Sized, too_long, report_checked}

-- ---- a run

-- the loop is too long behind the stem exactly if both together are
pub long_rest : (s t : ℕ) → s ≤ 4096 → ltb (4096 - s) t ≡ ltb 4096 (s + t)
long_rest s t h =
    elim (dec_lt (4096 - s) t)
    [ yes l ↦ lt-ltb (4096 - s) t l ∙ sym (lt-ltb 4096 (s + t) (omega arith)) | no l ↦ le-ltb (4096 - s) t (omega arith) ∙ sym (le-ltb 4096 (s + t) (omega arith)) ]

-- two texts put one behind the other
pub joined_by : {stem turn mid last : List ℕ} {first len : ℕ} → Put (replicate 4096 0) 0 stem mid first → Put mid first turn last len
    → ◌≡◌ {A = ShownRun} (record { long = false; states = last; stem = first; len = len }) (joined_of stem turn)
joined_by p q = let (long, is) = put_over (puts p q) in rw (is, long, (put_over p).0) refl

module _ (stem turn : List ℕ) {b : Bool} (e : b ≡ ltb 4096 (length stem + length turn)) where
  pub long_by : b ≡ true → no_run ≡ shown_of stem turn
  unfolding shown_of
  long_by f = rw (sym e ∙ f) refl

  pub short_by : b ≡ false → {r : ShownRun} → r ≡ joined_of stem turn → r ≡ shown_of stem turn
  unfolding shown_of
  short_by f is = rw (sym e ∙ f) is

  pub fits_by : b ≡ false → length stem + length turn ≤ 4096
  fits_by f = ltb-false 4096 (length stem + length turn) (sym e ∙ f)

-- there is room for it
pub shown_sized : (stem turn : List ℕ) → RunSized (shown_of stem turn)
unfolding shown_of
shown_sized stem turn = go (ltb 4096 (length stem + length turn)) refl
  where
    go : (b : Bool) → ltb 4096 (length stem + length turn) ≡ b → RunSized (cond b no_run (joined_of stem turn))
    go true e = record { counts = prefix_len_of_le 0 no_run.states zero-le; few = zero-le }
    go false e = record {
      counts = prefix_len_of_le (length (stem ++ turn)) (joined_of stem turn).states (omega (arith, length-append (stem ++ turn) (drop (length (stem ++ turn)) (replicate 4096 0))));
      few = omega (arith, length-append stem turn, ltb-false 4096 (length stem + length turn) e);
    }

pub sized_by : (a b c d : List ℕ) {claim : ℕ} {keeping breaking : ShownRun} → keeping ≡ shown_of a b → breaking ≡ shown_of c d
    → Sized (record { claim = claim; keeping = keeping; breaking = breaking })
sized_by a b c d e f = record { keeping = rw e (shown_sized a b); breaking = rw f (shown_sized c d) }

-- the part that is lent
pub part_few : (n : ℕ) (l : List ℕ) → n ≤ 4096 → length (take n l) ≤ 4096
part_few n l h = rw length-take (omega arith)

-- ---- the claim

module _ (claim : ℕ) (keeping breaking : Bool) where
  pub bad_claim : 3 < claim → {r : Refusal} → r ≡ refused_at Value 0 → Err r ≡ report_checked claim keeping breaking
  unfolding report_checked
  bad_claim h is = rw (is, lt-ltb 3 claim h) refl

  module _ (h : claim ≤ 3) {t : Bool} (e : t ≡ too_long claim keeping breaking) where
    pub long_run : t ≡ true → {r : Refusal} → r ≡ refused_at RunLength 0 → Err r ≡ report_checked claim keeping breaking
    unfolding report_checked
    long_run f is = rw (is, le-ltb 3 claim h, sym e ∙ f) refl

    pub good_report : t ≡ false → (Ok tt) ≡ report_checked claim keeping breaking
    unfolding report_checked
    good_report f = rw (le-ltb 3 claim h, sym e ∙ f) refl
