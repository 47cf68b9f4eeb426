-- The invariant says which reductions are stored.
use Rattle.amplitude.specs.Reductions.{reductions}
use Rattle.amplitude.proofs.RunLaws.{Stored}
use Rattle.amplitude.proofs.levels.put_reductions.Given as goal

abbrev pub invariant-loop-i : goal.invariant-loop-i
invariant-loop-i l = Stored (reductions l.values l.levels) l.initial.out 0 l.out l.i
