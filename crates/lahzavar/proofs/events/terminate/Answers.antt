-- By the configuration.
use borrow.Author.Tests.{not-true, not-false}
use Rattle.lahzavar.proofs.EventLaws.{unconfigured, terminates}
use Rattle.lahzavar.proofs.events.terminate.Goals as goal

pub returns-then-not-config_of : goal.returns-then-not-config_of
returns-then-not-config_of c = unconfigured _ _ _ _ c.config_of.ensures (not-true _ c.if-not-config_of.true) c.refused.ensures

pub returns : goal.returns
returns c = terminates _ _ _ _ c.config_of.ensures (not-false _ c.if-not-config_of.false) _ _ c.pilot_of-pilot.ensures c.clock_of-clock.ensures c.end.ensures
