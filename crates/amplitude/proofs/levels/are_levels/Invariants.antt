-- The invariant says what was tested, and what is left.
use Rattle.amplitude.specs.Reductions.{is_level}
use Rattle.amplitude.proofs.RunLaws.{Tested}
use Rattle.amplitude.proofs.levels.are_levels.Given as goal

abbrev pub invariant-loop-level : goal.invariant-loop-level
invariant-loop-level l = Tested is_level l.levels l.right l.level-index
