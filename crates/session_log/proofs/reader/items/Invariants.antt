-- The walk, from item to item.
use Rattle.session_log.specs.Private.{rules_of}
use Rattle.session_log.proofs.WalkLaws.{Judging}
use Rattle.session_log.proofs.reader.items.Given as goal

abbrev pub invariant-loop-i : goal.invariant-loop-i
invariant-loop-i l = Judging (rules_of l.which) l.log l.count l.from l.at l._i
