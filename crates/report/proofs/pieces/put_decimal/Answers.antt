-- `report::pieces::put_decimal` meets its contract: the digits are those of `decimal` (`counted`).
-- Assumes nothing.
use Rattle.std.proofs.Common.{ℕ, ◌∙◌, ap, sym}
use Rattle.io.specs.Digits.{last_digits}
use Rattle.report.proofs.Places.{counted}
use Rattle.report.proofs.pieces.put_decimal.Goals as goal

pub returns-clause-text : goal.returns-clause-text
returns-clause-text c =
    let count = counted c.args.n c.decimal-k.result c.ranges.n.fits c.decimal-k.ensures.len in
    rw (c.decimal-k.ensures.digits ∙ ap (λ (k : ℕ). last_digits 10 k c.args.n) (sym count.0)) at c.put_text.ensures
