-- The station put together from its parts.
use Rattle.station.proofs.EventLaws.{all_freed}
use Rattle.station.proofs.events.end.Goals as goal

pub returns : goal.returns
returns c =
    all_freed c.args.station _ _ _ _ _ _ _ _
    c.free_all-free.ensures c.lost-indication.ensures c.anew-next.ensures c.without_frames.ensures
