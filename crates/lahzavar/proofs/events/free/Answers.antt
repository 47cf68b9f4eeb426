-- The records freed, then the head stored.
use Rattle.lahzavar.proofs.EventLaws.{frees}
use Rattle.lahzavar.proofs.events.free.Goals as goal

pub returns : goal.returns
returns c =
    let a = c.args in
    frees a.words.now _ _ a.state a.pilot a.clock a.indication _ c.free_all.ensures c.put_state.ensures c.silent.ensures
