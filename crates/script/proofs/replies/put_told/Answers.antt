-- What is told stands behind the first octets.
use Rattle.script.proofs.ReplyLaws.{told_replied}
use Rattle.script.proofs.replies.put_told.Goals as goal

pub returns-in-Ok : goal.returns-in-Ok
returns-in-Ok g c = rw (c.in-Ok.is, c.SIZE-in-Ok.ensures) (told_replied (g.A.Told.octets c.in-Ok.told) c.put.ensures.size.0 c.put.ensures.size.1 c.requires (rw c.SIZE.ensures at c.put_head.ensures) c.put.ensures.put)
