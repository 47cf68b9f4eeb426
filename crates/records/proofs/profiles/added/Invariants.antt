-- `records::profiles::added` meets its contract: the loop adds each value in turn.
use Prim.Native.Nat.{◌+◌, ◌*◌}
use Rattle.records.proofs.LoopLaws.{Merging, Room}
use Rattle.records.specs.Means.{most_profiles}
use Rattle.records.proofs.profiles.added.Given as goal

abbrev pub invariant-loop-i : goal.invariant-loop-i
invariant-loop-i l = Merging ◌+◌ l.i l.sums l.values l.initial.sums × Room (255 * most_profiles) l.i l.sums
