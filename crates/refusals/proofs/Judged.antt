-- More of specs/Judged. How a chain of checks follows a table of causes, row by row.
use Rattle.std.specs.Prelude.{ℕ, ◌≡◌, ◌↔◌}
use Rattle.std.proofs.Common.{sym, ap, ap₂, subst, ◌∙◌}
use Rattle.answers.specs.declared.Kind.{Kind}
use Rattle.answers.specs.Results.{Outcome}
use Rattle.answers.specs.Paper.{Paper, refused, kind_number}
use Rattle.answers.proofs.Promises.{one_kind}
use Rattle.refusals.specs.Causes.{Rows, First, Because}
use Rattle.refusals.specs.Judged.{Judged, Tells, by_none, by_row, first_cause, first_one, number_in, place_in}

module _ (rs : Rows) {a : Paper} {o : Outcome} (tells : Tells a o) where
  pub refused_because : Judged rs o → (k : Kind) (q : ℕ) → (a ≡ refused (kind_number k) q) ↔ Because rs k q
  refused_because j k q = (there j, back j)
    where
      there : Judged rs o → a ≡ refused (kind_number k) q → Because rs k q
      there (by_none n e) r = absurd (subst (Tells a) e tells (kind_number k) q r)
      there (by_row i f e) r =
          let same : refused (kind_number i) 0 ≡ refused (kind_number k) q = sym (subst (Tells a) e tells) ∙ r in
          (subst (First rs) (one_kind i k (ap number_in same)) f, sym (ap place_in same))

      back : Judged rs o → Because rs k q → a ≡ refused (kind_number k) q
      back (by_none n e) (f, z) = absurd (first_cause rs k f n)
      back (by_row i g e) (f, z) = subst (Tells a) e tells ∙ ap₂ refused (ap kind_number (first_one rs i k g f)) (sym z)
