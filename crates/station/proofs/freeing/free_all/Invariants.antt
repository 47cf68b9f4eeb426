-- The records freed so far.
use Rattle.rules.specs.Records.{freed}
use Rattle.records.proofs.FillLaws.{Filled}
use Rattle.station.proofs.freeing.free_all.Given as goal

abbrev pub invariant-loop-i : goal.invariant-loop-i
invariant-loop-i l = Filled freed l.records l.rs l.i
