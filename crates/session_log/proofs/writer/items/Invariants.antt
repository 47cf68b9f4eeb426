-- The items one after the other; then what is left over.
use Rattle.session_log.proofs.JudgeLaws.{Taking}
use Rattle.session_log.proofs.writer.items.Given as goal

abbrev pub invariant-loop-i : goal.invariant-loop-i
invariant-loop-i l = Taking l.which l.heads l.octets l.at l.i
