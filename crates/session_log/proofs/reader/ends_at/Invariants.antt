-- The walk, from item to item.
use Rattle.session_log.proofs.WalkLaws.{Walked}
use Rattle.session_log.proofs.reader.ends_at.Given as goal

abbrev pub invariant-loop-i : goal.invariant-loop-i
invariant-loop-i l = Walked l.log l.count l.from l.end l.at l._i
