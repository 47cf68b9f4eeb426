-- `words::whole::unpack` meets its contract: any words, sums and spread mean a station with the invariant.
use Rattle.words.proofs.Meant.{unpacked}
use Rattle.words.proofs.whole.unpack.Goals as goal

pub returns : goal.returns
returns c =
    let a = c.args in
    unpacked a.words.now a.sums.now a.spread.now _ c.config_of.ensures c.state_of.ensures c.pilot_of.ensures c.clock_of.ensures c.read_all-records.ensures
