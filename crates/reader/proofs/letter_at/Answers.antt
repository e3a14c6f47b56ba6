-- `reader::letter_at` meets its contract. Assumes nothing.
use Rattle.reader.proofs.Tokens.{name_there}
use Rattle.reader.proofs.letter_at.Goals as goal

pub returns : goal.returns
returns c = name_there _ _ _ c.name_at-name.ensures
