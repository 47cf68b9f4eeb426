-- `station::sending::validate_cnf` meets its contract: the message is the reply.
use native.Mathlib.Omega.{arith}
use Rattle.messages.specs.Reading.{yes}
use Rattle.messages.specs.Table as table
use Rattle.messages.specs.Writing as writing
use Rattle.rules.specs.Replies.{frame_to}
use Rattle.rules.specs.Stations.{done}
use Rattle.ends.specs.declared.Indication.TheVariants.{Nothing}
use Rattle.station.proofs.ComesLaws.{comes_as}
use lib.ListN.{length}
use mathlib.Core.List.{[], ◌∷◌}
use Rattle.ends.proofs.SendLaws.{writable_as}
use Rattle.station.proofs.SendLaws.{validate_cnf_writable}
use mathlib.Core.Path.{ap}
use Rattle.station.proofs.sending.validate_cnf.Goals as goal

pub sent-requires : goal.sent-requires
sent-requires c =
    let a = c.args in
    writable_as _ _ (length a.out.now) (c.validate_cnf-message.ensures _)
    (validate_cnf_writable a.station.config a.car (length a.out.now) (c.requires.0.kept.config.address c.requires.0.good) c.requires.0.car 0 a.res (omega arith) c.requires.1 (omega (arith, c.requires.0.room)))

pub returns : goal.returns
unfolding frame_to
returns c =
    let a = c.args in
    comes_as a.station _ _ a.out.now _ c.sent.result
    (ap (λ (m : table.Message). yes (done a.station.state a.records (writing.frame m ∷ []) Nothing)) (c.validate_cnf-message.ensures _))
    c.sent.ensures
