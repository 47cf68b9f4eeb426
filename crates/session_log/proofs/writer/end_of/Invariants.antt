-- The sum so far, capped.
use Rattle.session_log.proofs.JudgeLaws.{Summed}
use Rattle.session_log.proofs.writer.end_of.Given as goal

abbrev pub invariant-loop-head : goal.invariant-loop-head
invariant-loop-head l = Summed l.heads l.from l.end l.head-index
