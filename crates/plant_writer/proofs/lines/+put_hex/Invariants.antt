-- `plant_writer::lines::put_hex` meets its contract: what falls is the width, and the digits of higher weight are put first. Assumes nothing.
use Rattle.plant_writer.proofs.lines.+put_hex.Given as goal

abbrev pub decreases-put_hex : goal.decreases-put_hex
decreases-put_hex l = l.width
