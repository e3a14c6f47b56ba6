-- `form_of`: by the first byte. Assumes nothing.
use Rattle.std.proofs.Common.{refl, eq-eqb, ne_eqb}
use Rattle.event_log.specs.Read.{is_numbered}
use Rattle.radio.proofs.line.form_of.Goals as goal

pub returns-then-byte_at-eq110 : goal.returns-then-byte_at-eq110
unfolding is_numbered
returns-then-byte_at-eq110 c = rw (← c.byte_at.ensures, eq-eqb _ _ c.if-byte_at-eq110.true) refl

pub returns : goal.returns
unfolding is_numbered
returns c = rw (← c.byte_at.ensures, ne_eqb _ _ c.if-byte_at-eq110.false) refl
