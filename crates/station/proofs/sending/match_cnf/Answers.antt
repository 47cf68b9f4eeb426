-- `station::sending::match_cnf` meets its contract: the message is the reply.
use Prim.Native.Nat.{◌^◌, ◌<◌}
use Rattle.messages.specs.Reading.{yes}
use Rattle.messages.specs.Table as table
use Rattle.messages.specs.Writing as writing
use Rattle.rules.specs.Replies.{frame_to}
use Rattle.rules.specs.Stations.{done}
use Rattle.ends.specs.declared.Indication.TheVariants.{Nothing}
use Rattle.station.proofs.ComesLaws.{comes_as}
use lib.ListN.{length}
use mathlib.Core.List.{[], ◌∷◌}
use Rattle.ends.proofs.SendLaws.{writable_as}
use Rattle.station.proofs.SendLaws.{match_cnf_writable}
use mathlib.Core.Path.{ap}
use borrow.Author.Rules.{rules}
use Rattle.station.proofs.sending.match_cnf.Goals as goal

-- the run is a 64-bit number
run_fits : (c : goal.After-sent-arg-1) → c.args.run.0 < 2 ^ 64
run_fits c = search rules

-- and so is each half of the key
key_fits : (c : goal.After-sent-arg-1) → (c.args.station.config.nmk.0 < 2 ^ 64) × (c.args.station.config.nmk.1 < 2 ^ 64)
key_fits c = (search rules, search rules)

pub sent-requires : goal.sent-requires
sent-requires c =
    let a = c.args in
    writable_as _ _ (length a.out.now) (c.match_cnf-message.ensures _)
    (match_cnf_writable a.station.config a.car (length a.out.now) (c.requires.0.kept.config.address c.requires.0.good) c.requires.0.car a.run a.ids.first a.ids.second c.requires.1.0 c.requires.1.1 (run_fits c) (c.requires.0.kept.config.nid c.requires.0.good) (key_fits c).0 (key_fits c).1 c.requires.0.room)

pub returns : goal.returns
unfolding frame_to
returns c =
    let a = c.args in
    comes_as a.station _ _ a.out.now _ c.sent.result
    (ap (λ (m : table.Message). yes (done a.state a.records (writing.frame m ∷ []) Nothing)) (c.match_cnf-message.ensures _))
    c.sent.ensures
