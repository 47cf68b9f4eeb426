-- The three numbers and the octets one after another.
use Rattle.octets.specs.Octets.{part}
use Rattle.session_log.specs.Meaning.{length_in}
use Rattle.session_log.proofs.NumberLaws.{part_length}
use Rattle.session_log.proofs.PutLaws.{item_stored}
use Rattle.session_log.proofs.writer.put_item.Goals as goal

pub returns : goal.returns
returns c =
    let a = c.args in
    rw (c.copy.ensures, c.put_number-3.ensures, c.put_number-2.ensures, c.put_number.ensures)
    (item_stored a.out.now (part a.octets.now a.at (length_in a.head)) a.to a.head (part_length a.octets.now a.at (length_in a.head) c.requires.0))
