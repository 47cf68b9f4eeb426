-- The invariant says which levels are read.
use Rattle.script.proofs.LevelLaws.{Levelled}
use Rattle.script.proofs.reductions.read_levels.Given as goal

abbrev pub invariant-loop-i : goal.invariant-loop-i
invariant-loop-i l = Levelled l.octets l.from l.initial.levels l.levels l.i
