-- The items one after the other.
use Rattle.session_log.proofs.PutLaws.{Putting}
use Rattle.session_log.proofs.writer.put_items.Given as goal

abbrev pub invariant-loop-head : goal.invariant-loop-head
invariant-loop-head l = Putting l.heads l.octets l.from l.initial.out l.out l.to l.at l.head-index
