-- The station is unpacked, stepped and stored.
use Rattle.lahzavar.proofs.LentLaws.{lent}
use Rattle.lahzavar.proofs.ticks.by_value.Goals as goal

pub returns : goal.returns
returns c = lent _ _ _ _ _ _ _ _ _ _ _ _ c.unpack-station.ensures.0 c.tick-stepped.ensures c.settle.ensures
