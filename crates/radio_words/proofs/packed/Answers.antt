use Rattle.std.proofs.Common.{◌+◌, ◌*◌, ◌-◌, get_or, rules}
use Rattle.radio_words.specs.Words.{packed_at}
use Rattle.radio_words.proofs.Bytes.{bytes_packed}
use Rattle.radio_words.proofs.packed.Goals as goal

pub returns : goal.returns
unfolding packed_at
returns c =
    let packed = bytes_packed (λ i. get_or c.args.part.now (8 * c.args.word + (7 - i)) 0) (λ i. c.fits-part (8 * c.args.word + (7 - i))) in
    search (rules, packed)
