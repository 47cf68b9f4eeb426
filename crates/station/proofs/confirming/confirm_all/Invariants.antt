-- The confirmations sent so far.
use Rattle.station.proofs.ConfirmLaws.{Confirming}
use Rattle.station.proofs.confirming.confirm_all.Given as goal

abbrev pub invariant-loop-i : goal.invariant-loop-i
invariant-loop-i l = Confirming l.config l.back l.elapsed l.records l.initial.out l.out l.sent l.i
