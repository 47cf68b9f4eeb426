-- The state that is stored is the one after the time.
use Rattle.lahzavar.proofs.TickLaws.{passes}
use Rattle.lahzavar.proofs.ticks.pass.Goals as goal

pub returns : goal.returns
returns c = passes _ _ _ _ _ _ _ c.state_after-after.ensures c.pilot_of-pilot.ensures c.put_state.ensures c.silent.ensures
