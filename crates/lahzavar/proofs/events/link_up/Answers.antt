-- By the configuration and the state.
use borrow.Author.Tests.{not-true, not-false}
use Rattle.lahzavar.proofs.EventLaws.{unconfigured, links, not_linked}
use borrow.Enum.Refused.{opened}
use Rattle.lahzavar.proofs.events.link_up.Goals as goal

pub returns-then-not-config_of : goal.returns-then-not-config_of
returns-then-not-config_of c = unconfigured _ _ _ _ c.config_of.ensures (not-true _ c.if-not-config_of.true) c.refused.ensures

pub returns-in_default : goal.returns-in_default
returns-in_default c = not_linked _ _ _ c.config_of.ensures (not-false _ c.if-not-config_of.false) _ c.state_of.ensures (opened c.in_default.in_default-own.keys2) c.refused-in_default.ensures

pub returns : goal.returns
returns c = links _ _ _ _ c.config_of.ensures (not-false _ c.if-not-config_of.false) _ c.state_of.ensures _ _ _ _ _ c.in-Joining.is c.pilot_of-pilot.ensures c.clock_of-clock.ensures c.put_state.ensures c.silent.ensures
