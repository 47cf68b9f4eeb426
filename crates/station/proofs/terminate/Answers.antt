-- By the configuration.
use borrow.Author.Tests.{not-true, not-false}
use Rattle.rules.specs.Stations.{shared}
use Rattle.station.proofs.StepLaws.{accepted, unconfigured}
use Rattle.station.proofs.EventLaws.{same_shared, terminate_rule}
use Rattle.station.proofs.terminate.Goals as goal

pub returns-then-not-station : goal.returns-then-not-station
returns-then-not-station c = unconfigured _ _ c.requires _ _ (not-true _ c.if-not-station.true) c.refused.ensures

pub returns : goal.returns
returns c =
    accepted _ _ c.requires _ _ _ _ _ tt (same_shared (shared c.args.station)).0 (terminate_rule c.args.station (not-false _ c.if-not-station.false)) c.end.ensures
