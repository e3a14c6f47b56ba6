-- `rounds::settle`: the set is on its way to the pairs that reach every goal again and again; each round but the last drops one.
use Rattle.std.proofs.Common.{sym, ◌∙◌, rules, get_or, Fits, w64}
use Rattle.sweeps.specs.Turns.{rounding_start, rounding_words, rounding_less, rounding_more, rounding_end}
use Rattle.sweeps.proofs.rounds.settle.Goals as goal

pub loop-less-init : goal.loop-less-init
loop-less-init c = (
  record { long = search rules; fits = λ v h. let word : Fits w64 (get_or c.args.all.words v 0) = search rules in word.fits },
  rounding_start _ _ _ _ _ _ _,
)

pub loop-less-smaller : goal.loop-less-smaller
loop-less-smaller c =
    rounding_less _ _ _ _ _ _ c.loop-less.set.words _ c.loop-less.invariant.0 c.round-less.ensures (sym c.same.ensures ∙ c.if-same.false)

pub loop-less-preserved : goal.loop-less-preserved
loop-less-preserved c = (
  rounding_words _ _ _ _ _ _ c.loop-less.set.words _ c.loop-less.invariant.0 c.round-less.ensures,
  rounding_more _ _ _ _ _ _ c.loop-less.set.words _ c.loop-less.invariant.0 c.round-less.ensures _ c.loop-less.invariant.1
      (sym c.same.ensures ∙ c.if-same.false),
)

pub returns : goal.returns
returns c =
    rounding_end _ _ _ _ _ _ c.loop-less.set.words _ c.loop-less.invariant.0 c.round-less.ensures _ c.loop-less.invariant.1
    (sym c.same.ensures ∙ c.if-same.true)
