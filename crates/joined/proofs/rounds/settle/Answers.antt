-- `rounds::settle`: the lists hold the leaders of some number of rounds; each round but the last makes one more.
use Rattle.std.proofs.Common.{refl, sym, ◌∙◌, arith}
use Rattle.joined.specs.Written.{written_again}
use Rattle.joined.specs.Settle.{settling_start, settling_lengths, settling_end, settling_less, settling_more}
use Rattle.joined.proofs.Parts.{parts_same, parts_copied}
use Rattle.joined.proofs.rounds.settle.Goals as goal

pub loop-class-init : goal.loop-class-init
loop-class-init c = (refl, refl, settling_start _ _ _ _ _ _ _ c.requires.2 c.requires.3 c.sort_outputs.ensures)

pub loop-class-smaller : goal.loop-class-smaller
loop-class-smaller c =
    let inv = c.loop-class.invariant in
    let class = c.loop-class.class in
    let fresh = c.refine.new.fresh in
    let copied = parts_copied c.args.n fresh class (omega arith) (omega arith) c.copy_from_slice.ensures.after in
    settling_less c.requires.4 inv.2 _ c.refine.ensures
    (sym (parts_same c.args.n class fresh (omega arith) (omega arith) c.eq.ensures) ∙ c.if-eq.false) _ copied

pub loop-class-preserved : goal.loop-class-preserved
loop-class-preserved c =
    let copied = parts_copied c.args.n c.refine.new.fresh c.loop-class.class (omega arith) (omega arith) c.copy_from_slice.ensures.after in
    let more = settling_more c.requires.4 c.loop-class.invariant.2 _ c.refine.ensures _ copied in
    ((settling_lengths more).0, (settling_lengths more).1, more)

pub returns : goal.returns
returns c =
    let same = parts_same c.args.n c.loop-class.class c.refine.new.fresh (omega arith) (omega arith) c.eq.ensures in
    let end = settling_end c.requires.4 c.loop-class.invariant.2 _ c.refine.ensures (sym same ∙ c.if-eq.true) in
    (written_again _ _ _ _ _ _ c.requires.2 c.sort_outputs.ensures end.0, end.1)
