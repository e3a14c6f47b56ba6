-- What a loop has to settle.
use Rattle.std.specs.Prelude.{true, ◌||◌, not}
use Rattle.meaning.specs.Bit.{bit}
use Rattle.meaning.specs.Step.{Value, Part, next_part, untilPart, releasePart}

-- the part is settled: a loop that settles it nowhere puts an until off, or denies a release, for ever
unfoldable pub settled : Part → Value
settled (next_part k a) l v = true
settled (untilPart k a b) l v = not (bit v k) || b l v
settled (releasePart k a b) l v = bit v k || not (b l v)
