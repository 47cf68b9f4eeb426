-- `station::sending::parm_cnf` meets its contract: the message is the reply.
use Prim.Native.Nat.{◌^◌, ◌<◌}
use Rattle.messages.specs.Reading.{yes}
use Rattle.messages.specs.Table as table
use Rattle.messages.specs.Writing as writing
use Rattle.rules.specs.Replies.{frame_to}
use Rattle.rules.specs.Stations.{done}
use Rattle.ends.specs.declared.Indication.TheVariants.{Nothing}
use Rattle.station.proofs.ComesLaws.{comes_as}
use lib.ListN.{length}
use mathlib.Core.List.{[], ◌∷◌}
use Rattle.ends.proofs.SendLaws.{writable_as}
use Rattle.station.proofs.SendLaws.{parm_cnf_writable}
use mathlib.Core.Path.{ap}
use borrow.Author.Rules.{rules}
use Rattle.station.proofs.sending.parm_cnf.Goals as goal

-- the run is a 64-bit number
run_fits : (c : goal.After-sent-arg-1) → c.args.run.0 < 2 ^ 64
run_fits c = search rules

pub sent-requires : goal.sent-requires
sent-requires c =
    let a = c.args in
    writable_as _ _ (length a.out.now) (c.parm_cnf-message.ensures _)
    (parm_cnf_writable a.station.config a.car (length a.out.now) (c.requires.kept.config.address c.requires.good) c.requires.car a.later a.run (run_fits c) c.requires.room)

pub returns : goal.returns
unfolding frame_to
returns c =
    let a = c.args in
    comes_as a.station _ _ a.out.now _ c.sent.result
    (ap (λ (m : table.Message). yes (done a.station.state a.records (writing.frame m ∷ []) Nothing)) (c.parm_cnf-message.ensures _))
    c.sent.ensures
