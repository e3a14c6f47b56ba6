-- `rests::write_rest`: the stem is laid over the buffer, and the loop over its tail, which is one `over`.
use Rattle.walk.specs.Written.{states, written_count, written_over}
use Rattle.words.specs.Over.{over_lent}
use Rattle.walk.proofs.rests.write_rest.Goals as goal

pub returns : goal.returns
returns c =
    let e = c.write_leg-way.ensures in
    let t = c.write_stay-turn.ensures in
    record {
      last = _;
      between = _;
      led = e;
      one = t.0;
      bytes = over_lent _ (states e.written.nodes) _ _ _ _ (written_count e.written) (written_over e.written) t.1;
    }
