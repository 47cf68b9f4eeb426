-- By the configuration.
use borrow.Author.Tests.{not-true, not-false}
use Rattle.station.proofs.StepLaws.{accepted, unconfigured}
use Rattle.station.proofs.EventLaws.{pilot_shared, pilot_rule}
use Rattle.station.proofs.pilot.Goals as goal

pub returns-then-not-station : goal.returns-then-not-station
returns-then-not-station c = unconfigured _ _ c.requires _ _ (not-true _ c.if-not-station.true) c.refused.ensures

pub returns : goal.returns
returns c =
    let g = not-false _ c.if-not-station.false in
    accepted _ _ c.requires _ _ _ _ _ tt (pilot_shared c.args.station g _ _) (pilot_rule c.args.station g _ _) c.change.ensures
