-- By the state, and whether Joining's time fires.
use mathlib.Core.Path.{sym, ap, ◌∙◌}
use Rattle.station.specs.Passing.{passing}
use Rattle.station.proofs.TickLaws.{passing_same, passing_fires, passing_runs}
use borrow.Enum.Refused.{opened}
use Rattle.station.proofs.ticks.state_after.Goals as goal

pub returns-in_default : goal.returns-in_default
returns-in_default c = passing_same _ _ (opened c.in_default.in_default-own.keys2)

pub returns-then-left-eq0 : goal.returns-then-left-eq0
returns-then-left-eq0 c = passing_fires _ _ _ _ _ c.left_after-left.ensures c.if-left-eq0.true ∙ sym (ap (passing c.args.elapsed) c.in-Joining.is)

pub returns : goal.returns
returns c = passing_runs _ _ _ _ _ c.left_after-left.ensures c.if-left-eq0.false ∙ sym (ap (passing c.args.elapsed) c.in-Joining.is)
