-- The means stored so far.
use Rattle.rules.specs.Replies.{mean}
use Rattle.records.proofs.FillLaws.{Filled}
use Rattle.records.proofs.report.values.Given as goal

abbrev pub invariant-loop-i : goal.invariant-loop-i
invariant-loop-i l = Filled (mean l.r.profiles) l.r.sums l.values l.i
