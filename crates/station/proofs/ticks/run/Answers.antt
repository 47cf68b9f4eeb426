-- By the state: Matching's records, or what the time makes of the state.
use mathlib.Core.Path.{refl, ap, ◌∙◌}
use Rattle.rules.specs.declared.Station.{Station}
use Rattle.station.specs.Steps.{done_as}
use Rattle.station.proofs.TickLaws.{tick_reads, tick_matching, passed_done}
use borrow.Enum.Refused.{opened}
use Rattle.station.proofs.ticks.run.Goals as goal

pub returns-in-Matching : goal.returns-in-Matching
returns-in-Matching c = tick_matching c.args.station _ _ _ _ _ _ c.in-Matching.is c.matching.ensures

pub returns : goal.returns
returns c =
    tick_reads c.args.station _ _ _ _ _ _ _ refl (passed_done _ _ _ _ _ _ c.state_after-after.ensures (opened c.in_default.in_default-own.keys2))
    (c.without_frames.ensures ∙ ap (λ (s : Station). done_as s 0 0 c.state_after-after.result.indication) c.anew-next.ensures)
