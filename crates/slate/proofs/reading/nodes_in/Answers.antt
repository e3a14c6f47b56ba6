use Rattle.std.proofs.Common.{rules}
use Rattle.syntax.specs.Value.{blank}
use Rattle.slate.specs.Box.{node_in, nodes_in}
use Rattle.words.proofs.Made.{list_made}
use Rattle.slate.proofs.reading.nodes_in.Goals as goal

pub returns : goal.returns
unfolding nodes_in
returns c = list_made _ _ (node_in c.args.words.now) blank (λ k y q call. search rules) 32 _ c.from_fn.ensures.items
