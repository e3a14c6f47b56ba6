-- `number_of`: the place at which the search stops.
use Rattle.std.proofs.Common.{rules, ◌≤◌, ◌∙◌, length, nat_eq}
use Rattle.shape.proofs.Found.{found_first}
use Rattle.shape.proofs.number_of.Goals as goal

pub returns : goal.returns
returns c =
    let few : c.args.parts ≤ length c.args.order.now = search rules in
    c.unwrap_or.ensures ∙ found_first (λ n. nat_eq n c.args.i) c.args.order.now c.args.parts few c.place_of.result c.place_of.ensures
