-- What the events leave is kept; with no event at all nothing is written.
use Rattle.std.specs.Prelude.{◌≡◌, ◌≤◌}
use Rattle.std.specs.Io.KnownBytes.{Keeps}
use Rattle.script_io.proofs.run.Given as goal

abbrev pub invariant-loop-input : goal.invariant-loop-input
invariant-loop-input g l = (g.S.Scripted.kept l.s × (l.left ≤ l.count)) × (l.count ≡ 0 → Keeps (g.W.Write.contents l.initial.replies) (g.W.Write.contents l.replies))

abbrev pub decreases-loop-input : goal.decreases-loop-input
decreases-loop-input g l = l.left
