-- `reader::token_at` meets its contract: by the byte that stands where the gaps end. Assumes nothing.
use Rattle.reader.proofs.Tokens.{ended, lettered, single}
use Rattle.reader.proofs.token_at.Goals as goal

pub returns-then-text-at : goal.returns-then-text-at
returns-then-text-at c = ended _ _ _ c.skip-at.ensures c.if-text-at.true

pub returns-then-text-at-eq112 : goal.returns-then-text-at-eq112
returns-then-text-at-eq112 c = lettered _ _ _ c.skip-at.ensures c.if-text-at.false c.if-text-at-eq112.true _ c.letter_at.ensures

pub returns : goal.returns
returns c = single _ _ _ c.skip-at.ensures c.if-text-at.false c.if-text-at-eq112.false c.sign_of.ensures c.token_of.ensures
