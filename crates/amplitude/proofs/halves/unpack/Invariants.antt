-- The invariant says which values are stored.
use lib.ListN.{take}
use Rattle.amplitude.specs.Halves.{halves}
use Rattle.amplitude.proofs.RunLaws.{Stored}
use Rattle.amplitude.proofs.halves.unpack.Given as goal

abbrev pub invariant-loop-i : goal.invariant-loop-i
invariant-loop-i l = Stored (take l.n (halves l.s)) l.initial.out 0 l.out l.i
