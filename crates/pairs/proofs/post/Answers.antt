-- `pairs::post`: the fold over the members is the union of what each leads to.
use Rattle.std.proofs.Common.{rules, ◌≡◌, ◌∙◌, ◌<◌, ◌^◌, fold, bit_or, get_or, arith}
use Rattle.std.proofs.lemmas.Grind.{common_steps}
use Rattle.std.proofs.iter.Rest.{running}
use Rattle.words.specs.MemberList.{members_of}
use Rattle.pairs.proofs.Folded.{post_by_fold}
use Rattle.pairs.proofs.post.Goals as goal

pub returns : goal.returns
returns c =
    let folded : c.fold.result ≡ fold (λ r s. bit_or r (get_or c.args.next.now s 0)) 0 (members_of c.args.set) = grind (arith, common_steps, running) in
    let fits : c.args.set < 2 ^ 64 = search rules in
    folded ∙ post_by_fold c.args.next.now c.args.set fits
