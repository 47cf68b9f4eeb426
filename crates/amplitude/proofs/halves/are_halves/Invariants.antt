-- The invariant says what was tested, and what is left.
use Rattle.amplitude.specs.Halves.{is_half}
use Rattle.amplitude.proofs.RunLaws.{Tested}
use Rattle.amplitude.proofs.halves.are_halves.Given as goal

abbrev pub invariant-loop-value : goal.invariant-loop-value
invariant-loop-value l = Tested is_half l.values l.right l.value-index
