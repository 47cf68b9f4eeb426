-- By the configuration and the state.
use borrow.Author.Tests.{not-true, not-false}
use Rattle.messages.specs.declared.Refusal.TheVariants.{WrongState}
use Rattle.rules.specs.Stations.{shared}
use Rattle.station.proofs.StepLaws.{accepted, refuses, unconfigured}
use Rattle.station.proofs.EventLaws.{link_joining, link_elsewhere, same_shared}
use borrow.Enum.Refused.{opened}
use Rattle.station.proofs.link_up.Goals as goal

pub returns-then-not-station : goal.returns-then-not-station
returns-then-not-station c = unconfigured _ _ c.requires _ _ (not-true _ c.if-not-station.true) c.refused.ensures

pub returns-in_default : goal.returns-in_default
returns-in_default c =
    refuses _ _ c.requires _ _ WrongState (link_elsewhere c.args.station (not-false _ c.if-not-station.false) (opened c.in_default.in_default-own.keys2)) c.refused-in_default.ensures

pub returns : goal.returns
returns c =
    accepted _ _ c.requires _ _ _ _ _ tt (same_shared (shared c.args.station)).1 (link_joining c.args.station (not-false _ c.if-not-station.false) _ _ _ c.in-Joining.is) c.linked.ensures
