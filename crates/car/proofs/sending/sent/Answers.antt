-- `car::sending::sent` meets its contract: the message that can be written is sent.
use Rattle.messages.proofs.WriteLaws.{none_beside}
use Rattle.car.proofs.SendLaws.{one_sent}
use Rattle.car.proofs.sending.sent.Goals as goal

pub returns : goal.returns
returns c =
    one_sent c.args.car c.args.message _ c.args.indication c.args.out.now _ c.send-answer.result (none_beside c.no_groups.result c.no_ids.result c.no_groups.ensures c.no_ids.ensures) c.requires c.send-answer.ensures
