-- The station keeps its invariant, and the output its length.
use Rattle.std.proofs.Common.{◌≡◌, length}
use Rattle.rules.specs.Invariant.{Invariant}
use Rattle.replay.proofs.differences.run.Given as goal

abbrev pub invariant-loop-event : goal.invariant-loop-event
invariant-loop-event l = record {
  can_next : (goal.iterator-loop-event).can_next l.event-iterator;
  is_finite : (goal.iterator-loop-event).is_finite l.event-iterator;
  station : Invariant l.s;
  out : length l.out ≡ length l.initial.out;
}
