-- The station is unpacked, stepped and stored.
use Rattle.lahzavar.proofs.LentLaws.{lent}
use Rattle.lahzavar.proofs.events.by_value.Goals as goal

pub pilot-stepped-requires : goal.pilot-stepped-requires
pilot-stepped-requires c = c.unpack-station.ensures.1

pub settle-requires : goal.settle-requires
settle-requires c = c.pilot-stepped.ensures.kept

pub returns : goal.returns
returns c = lent _ _ _ _ _ _ _ _ _ _ _ _ c.unpack-station.ensures.0 c.pilot-stepped.ensures c.settle.ensures
