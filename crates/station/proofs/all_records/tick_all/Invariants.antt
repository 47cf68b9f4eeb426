-- The records ticked so far, and their reports.
use Rattle.station.proofs.TickLoopLaws.{Ticking}
use Rattle.station.proofs.all_records.tick_all.Given as goal

abbrev pub invariant-loop-i : goal.invariant-loop-i
invariant-loop-i l = Ticking l.config l.back l.elapsed l.records l.initial.out l.out l.after l.sent l.octets l.i
