-- Runs as lists of states, stem and then loop: the labels along them are those of the run's lasso.
use mathlib.Core.Logic.Iff
use Rattle.std.specs.Prelude.{ℕ, ◌-◌, ◌≤◌, ◌<◌, ◌≡◌, Bool, take, drop}
use Rattle.std.proofs.Math.Path.{sym, ap}
use Rattle.std.proofs.Common.{◌∙◌, arith, length-take-le, lt-ltb}
use mathlib.Core.List.{List, map}
use Rattle.std.proofs.Math.ListN.{length, get_or}
use Rattle.std.proofs.lemmas.List.{length-map}
use Rattle.std.proofs.Math.Seq.{get_or-take, ext_get_or}
use Rattle.meaning.specs.Says.{Says}
use Rattle.meaning.specs.Formula.{Formula, Holds}
use Rattle.meaning.specs.Run.{Plant, Lasso, labels_along}
use Rattle.words.specs.Below.{filled}
use Rattle.words.specs.Lists.{at_map, length_filled, filled_at}
use Rattle.syntax.specs.declared.Rule.{Rule}
use Rattle.syntax.specs.Value.{rule_of}
use Rattle.theory.specs.Join

-- the lasso of a run whose first s states are the stem
abbrev pub lasso_of : List ℕ → ℕ → Lasso
lasso_of run s = record { stem = take s run; loop = drop s run }

-- the labels of its states
abbrev pub labels_of : List ℕ → List ℕ → List ℕ
labels_of label run = map (λ x. get_or label x 0) run

-- the truth value says whether the rule holds at position p of the run, whatever else the table has
pub record MeansOnRun (rule : Rule) (label run : List ℕ) (s p : ℕ) (r : Bool) : Type 0 where
  pub says : (T : Plant) (f : Formula) → T.label ≡ label → rule ≡ rule_of f → Says r (Holds (labels_along T (lasso_of run s)) f p)

-- ---- as a loop finds the labels

abbrev pub label_at : List ℕ → List ℕ → ℕ → ℕ
label_at label run i = get_or label (get_or run i 0) 0

-- the first n of them, and 0 beyond
abbrev pub labels_up_to : List ℕ → List ℕ → ℕ → List ℕ
labels_up_to label run n = filled 4096 n (label_at label run)

-- all of them
unfoldable pub labels_in : List ℕ → List ℕ → List ℕ
labels_in label run = labels_up_to label run (length run)

-- a list as the loop leaves it: its first part has the labels
module _ (label run : List ℕ) (few : length run ≤ 4096) (l : List ℕ) (e : l ≡ labels_in label run) where
  pub labels_room : length run ≤ length l
  unfolding labels_in
  labels_room = omega (arith, ap length e ∙ length_filled 4096 (length run) (label_at label run))

  pub labels_length : length (take (length run) l) ≡ length run
  labels_length = length-take-le (length run) l labels_room

  pub labels_are : take (length run) l ≡ labels_of label run
  unfolding labels_in
  labels_are = ext_get_or 0 (take (length run) l) (labels_of label run) (labels_length ∙ sym (length-map run _)) each
    where
      each : (i : ℕ) → i < length (take (length run) l) → get_or (take (length run) l) i 0 ≡ get_or (labels_of label run) i 0
      each i h =
          let lt : i < length run = omega (arith, labels_length) in
          get_or-take (length run) l i 0 lt ∙ ap (λ (m : List ℕ). get_or m i 0) e
          ∙ filled_at 4096 (length run) (label_at label run) i (omega arith) ∙ rw (lt-ltb i (length run) lt) (sym (at_map (λ x. get_or label x 0) run i 0 0 lt))
