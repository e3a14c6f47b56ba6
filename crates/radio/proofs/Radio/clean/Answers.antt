-- `clean`: the bytes kept, and zeros. Assumes nothing.
use Rattle.std.proofs.Common.{rules, ◌≡◌, [], length}
use Rattle.radio.specs.Laws.{clean_is}
use Rattle.radio.proofs.Radio.clean.Goals as goal

pub returns : goal.returns
returns c =
    let l : length c.args.self.part ≡ 40 = search rules in
    clean_is c.args.self [] c.requires l c.joined.ensures
