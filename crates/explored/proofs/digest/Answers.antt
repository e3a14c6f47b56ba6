-- `digest`: the fold over the words.
use Rattle.std.proofs.Common.{rules, ◌+◌, ◌*◌, ◌/◌, ◌%◌, ◌≡◌, ◌∙◌, fold}
use Rattle.explored.proofs.Folded.{digest_by_fold}
use Rattle.explored.proofs.digest.Goals as goal

pub returns : goal.returns
returns c =
    let folded : c.fold.result ≡ fold (λ made word. made % 72057594037927936 * 31 + word % 4294967296 + word / 4294967296) c.args.from c.args.words.now = search rules in
    folded ∙ digest_by_fold c.args.words.now c.args.from (search rules)
