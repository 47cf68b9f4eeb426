-- `records::profiles::widened` meets its contract: the loop takes each value into the least and the greatest in turn.
use Prim.Native.Nat.{min, max}
use Rattle.records.proofs.LoopLaws.{Merging}
use Rattle.records.proofs.profiles.widened.Given as goal

abbrev pub invariant-loop-i : goal.invariant-loop-i
invariant-loop-i l = Merging min l.i l.least l.values l.initial.least × Merging max l.i l.greatest l.values l.initial.greatest
