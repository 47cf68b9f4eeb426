-- The station put together from its parts.
use Rattle.station.proofs.StepLaws.{no_frames}
use Rattle.station.proofs.events.linked.Goals as goal

pub returns : goal.returns
returns c = no_frames c.args.station _ _ _ _ _ c.anew-next.result _ _ c.anew-next.ensures c.without_frames.ensures
