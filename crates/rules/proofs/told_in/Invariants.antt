-- No record passed is the car's.
use Rattle.std.proofs.Common.{◌≡◌, drop}
use Rattle.rules.specs.Rules.{told_in}
use Rattle.rules.proofs.told_in.Given as goal

abbrev pub invariant-loop-r : goal.invariant-loop-r
invariant-loop-r l = told_in l.car l.r-items ≡ told_in l.car (drop l.r-index l.r-items)
