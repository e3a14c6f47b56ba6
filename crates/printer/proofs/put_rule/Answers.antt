-- `printer::put_rule` meets its contract: the room is the text's length, and what is told is the text. Assumes nothing.
use Rattle.std.proofs.Common.{arith}
use Rattle.printer.proofs.Printing.{short, room_is, same_room, printing}
use Rattle.printer.proofs.put_rule.Goals as goal

pub put_tree-requires : goal.put_tree-requires
put_tree-requires c =
    let p = c.requires in
    record {
      nodes = short p.shows;
      room = omega (arith, c.room_of-end.ensures, same_room p.shows);
      fits = omega (arith, c.room_of-end.ensures, room_is p.shows, p.fits);
    }

pub returns : goal.returns
returns c = printing c.room_of-end.ensures c.put_tree.ensures
