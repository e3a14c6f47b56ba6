-- `images::image`: the words passed are those of the image, the others still 0.
use mathlib.Core.Path.{◌≡◌}
use Prim.Native.Nat.{◌≤◌, ◌-◌}
use Rattle.words.specs.Below.{words_below}
use Rattle.moves.specs.Image.{image_at}
use Rattle.leads.specs.Halves.{from_in, to_in}
use Rattle.leads.proofs.images.image.Given as goal

abbrev pub invariant-loop-w : goal.invariant-loop-w
invariant-loop-w l =
    l.words ≡ words_below l.w (image_at l.next l.old (from_in l.leave) (to_in l.enter) l.count l.live l.agree)
