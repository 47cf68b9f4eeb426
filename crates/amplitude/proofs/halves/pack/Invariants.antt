-- The invariant says which octets are stored.
use Rattle.amplitude.specs.Halves.{packed}
use Rattle.amplitude.proofs.RunLaws.{Stored}
use Rattle.amplitude.proofs.halves.pack.Given as goal

abbrev pub invariant-loop-i : goal.invariant-loop-i
invariant-loop-i l = Stored (packed l.values) l.initial.out l.at l.out l.i
