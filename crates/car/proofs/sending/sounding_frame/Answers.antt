-- `car::sending::sounding_frame` meets its contract: the message is the one that the rules name.
use lib.ListN.{length}
use Rattle.ends.specs.declared.Indication.TheVariants.{Nothing}
use Rattle.car_rules.specs.Sending.{sounding_frame}
use Rattle.ends.proofs.SendLaws.{writable_as}
use Rattle.car.proofs.SendLaws.{sent_as, Fits, sounding_writable}
use borrow.Author.Rules.{rules}
use Rattle.car.proofs.sending.sounding_frame.Goals as goal

-- the car's numbers are of 64 bits
fits : (c : goal.After-sent-arg-1) → Fits c.args.car
fits c = search rules

pub sent-requires : goal.sent-requires
sent-requires c =
    let a = c.args in
    writable_as _ _ (length a.out.now) c.sounding_message.ensures (sounding_writable a.car (fits c) a.out.now c.requires.0 a.k c.requires.1)

pub returns : goal.returns
returns c = let a = c.args in sent_as a.car _ (sounding_frame a.k) Nothing a.out.now _ c.sent.result c.sounding_message.ensures c.sent.ensures
