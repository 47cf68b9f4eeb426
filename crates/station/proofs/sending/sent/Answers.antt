-- The message that can be written is sent.
use mathlib.Core.Path.{refl}
use Rattle.station.proofs.SendLaws.{one_sent}
use Rattle.station.proofs.sending.sent.Goals as goal

pub returns : goal.returns
returns c =
    one_sent c.args.station c.args.state c.args.records _ c.args.out.now _ _ c.send.result c.requires refl c.send.ensures
