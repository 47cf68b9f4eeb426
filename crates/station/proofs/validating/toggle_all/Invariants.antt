-- The records toggled so far.
use Rattle.rules.specs.Validation.{toggled_record}
use Rattle.records.proofs.FillLaws.{Filled}
use Rattle.station.proofs.validating.toggle_all.Given as goal

abbrev pub invariant-loop-i : goal.invariant-loop-i
invariant-loop-i l = Filled (toggled_record l.turn) l.records l.rs l.i
