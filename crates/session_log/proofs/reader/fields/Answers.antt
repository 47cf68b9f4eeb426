-- The items of both lists stand in the log.
use Rattle.session_log.proofs.ReadLaws.{events_listed, replies_listed}
use Rattle.session_log.proofs.reader.fields.Goals as goal

pub items-requires : goal.items-requires
items-requires c = events_listed c.args.log.now c.requires c.size_in-count.ensures.0

pub items-requires-2 : goal.items-requires-2
items-requires-2 c = replies_listed c.args.log.now c.requires c.size_in-count.ensures.0 c.size_in.ensures.0
