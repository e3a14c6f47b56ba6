-- `rows_in`: the tests one after the other.
use Rattle.std.proofs.Common.{refl, lt-ltb, le-ltb, le-leb}
use borrow.Author.Tests.{lt-leb}
use Rattle.machine_lookup.specs.Shape.{rows_by}
use Rattle.machine_lookup.proofs.rows_in.Goals as goal

pub returns-then-width-bytes : goal.returns-then-width-bytes
unfolding rows_by
returns-then-width-bytes c = rw (lt-ltb _ _ c.if-width-bytes.true) refl

pub returns-then-share-shares : goal.returns-then-share-shares
unfolding rows_by
returns-then-share-shares c = rw (le-ltb _ _ c.if-width-bytes.false, le-leb _ _ c.if-share-shares.true) refl

pub returns : goal.returns
unfolding rows_by
returns c = rw (le-ltb _ _ c.if-width-bytes.false, lt-leb _ _ c.if-share-shares.false) refl
