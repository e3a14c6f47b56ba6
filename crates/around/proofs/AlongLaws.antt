-- More of specs/Along. Runs as lists of states, stem and then loop: the labels along them are those of the run's lasso.
use mathlib.Core.Logic.Iff
use Rattle.std.specs.Prelude.{ℕ, ◌+◌, ◌-◌, ◌%◌, ◌≤◌, ◌<◌, ◌≡◌, ◌↔◌, Bool, take, drop}
use Rattle.std.proofs.Math.Path.{sym, ap}
use Rattle.std.proofs.Common.{subst, ◌∙◌, arith, zero-add, length-take, length-drop, get_or-drop}
use mathlib.Core.List.{List}
use Rattle.std.proofs.Math.Decide.{dec_lt}
use Rattle.std.proofs.Math.ListN.{length, get_or}
use Rattle.std.proofs.lemmas.List.{length-map}
use Rattle.std.proofs.Math.Seq.{get_or-take}
use Rattle.meaning.specs.Says.{Says}
use Rattle.meaning.specs.Formula.{Formula, Holds, size}
use Rattle.meaning.specs.Run.{Plant, state_at, label_of, labels_along}
use Rattle.words.specs.Lists.{at_map}
use Rattle.syntax.specs.declared.Rule.{Rule}
use Rattle.syntax.specs.Value.{rule_of}
use Rattle.theory.specs.Join
use Rattle.theory.specs.Tail.{holds_tail}
use Rattle.around.specs.Around.{place, around}
use Rattle.around.proofs.Places.{place_below, in_stem, in_loop}
use Rattle.around.specs.Fill.{around_of}
use Rattle.around.proofs.Right.{around_says}
use Rattle.around.specs.Along.{MeansOnRun, labels_of, lasso_of}

module _ (run : List ℕ) (s : ℕ) (loops : s < length run) where
  stem_length : length (take s run) ≡ s
  stem_length = rw length-take (omega arith)

  loop_length : length (drop s run) ≡ length run - s
  loop_length = rw length-drop

  -- the state at a position stands at its place
  pub state_at_lem : (i : ℕ) → state_at (lasso_of run s) i ≡ get_or run (place s (length run) i) 0
  state_at_lem i = elim (dec_lt i s) [ yes h ↦ stem h | no h ↦ loop (i - s) (omega arith) ]
    where
      stem : i < s → state_at (lasso_of run s) i ≡ get_or run (place s (length run) i) 0
      stem h = Join.in_stem (lasso_of run s) i (omega (arith, stem_length)) ∙ get_or-take s run i 0 h ∙ ap (λ (k : ℕ). get_or run k 0) (sym (in_stem s (length run) loops i h))

      loop : (m : ℕ) → i ≡ s + m → state_at (lasso_of run s) i ≡ get_or run (place s (length run) i) 0
      loop m e =
          let z : i ≡ length (take s run) + m = omega (arith, stem_length) in
          ap (state_at (lasso_of run s)) z ∙ Join.in_loop (lasso_of run s) m ∙ ap (λ (k : ℕ). get_or (drop s run) (m % k) 0) loop_length
          ∙ get_or-drop s run (m % (length run - s)) 0 ∙ ap (λ (k : ℕ). get_or run k 0) (sym (ap (place s (length run)) e ∙ in_loop s (length run) loops m))

-- so do the labels
pub label_at_lem : (T : Plant) (run : List ℕ) (s : ℕ) → s < length run → (i : ℕ) → around (labels_of T.label run) s i ≡ labels_along T (lasso_of run s) i
label_at_lem T run s loops i =
    let e : length (labels_of T.label run) ≡ length run = length-map run (label_of T) in
    ap (λ (n : ℕ). get_or (labels_of T.label run) (place s n i) 0) e
    ∙ at_map (label_of T) run (place s (length run) i) 0 0 (place_below s (length run) loops i)
    ∙ ap (label_of T) (sym (state_at_lem run s loops i))

-- and so a rule holds along the one where it holds along the other
pub holds_along : (T : Plant) (run : List ℕ) (s : ℕ) → s < length run → (f : Formula) (p : ℕ)
    → Holds (around (labels_of T.label run) s) f p ↔ Holds (labels_along T (lasso_of run s)) f p
holds_along T run s loops f p =
    rw zero-add at (holds_tail (around (labels_of T.label run) s) (labels_along T (lasso_of run s)) 0 (λ j. rw zero-add (label_at_lem T run s loops j)) f p)

-- of a rule's value, at any position of a run
pub run_says : (T : Plant) (f : Formula) → size f ≤ 32 → (run : List ℕ) (s : ℕ) → s < length run → length run ≤ 4096
    → (p : ℕ) → Says (around_of (rule_of f) (labels_of T.label run) s p) (Holds (labels_along T (lasso_of run s)) f p)
run_says T f short run s loops few p =
    let e = length-map run (label_of T) in
    Iff.trans (around_says f short (labels_of T.label run) s (omega arith) (omega arith) p) (holds_along T run s loops f p)

pub run_means : (rule : Rule) (label run : List ℕ) (s p : ℕ) (r : Bool) → (rule.len ≤ 32) × (s < length run) × (length run ≤ 4096)
    → r ≡ around_of rule (labels_of label run) s p → MeansOnRun rule label run s p r
run_means rule label run s p r (short, loops, few) e = record {
  says = λ T f t h.
      let small : size f ≤ 32 = subst (λ (x : Rule). x.len ≤ 32) h short in
      rw (e, h, ← t) (run_says T f small run s loops few p);
}
