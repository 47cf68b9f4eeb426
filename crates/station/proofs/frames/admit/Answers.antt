-- `station::frames::admit` meets its contract: the record that `fresh` gives, in its place.
use Rattle.messages.specs.Reading.{yes}
use Rattle.rules.specs.Records.{owned}
use Rattle.rules.specs.Replies.{parm_cnf, frames_to}
use Rattle.rules.specs.Stations.{done}
use Rattle.ends.specs.declared.Indication.TheVariants.{Nothing}
use Rattle.rules.specs.declared.Record.{Record}
use Rattle.station.proofs.ComesLaws.{comes_as}
use lib.ListN.{set}
use mathlib.Core.List.{List, [], ◌∷◌}
use mathlib.Core.Path.{ap, ◌∙◌}
use Rattle.station.proofs.frames.admit.Goals as goal

pub returns : goal.returns
returns c =
    let a = c.args in
    comes_as a.station _ _ a.out.now _ c.parm_cnf.result
    (ap (λ (l : List Record). yes (done a.station.state l (frames_to a.station.config a.car (parm_cnf a.later a.run ∷ [])) Nothing))
    (c.with_record-next.ensures ∙ ap (λ (r : Record). set a.station.records a.i r) (c.owned-r.ensures ∙ ap (owned a.car) c.fresh.ensures)))
    c.parm_cnf.ensures
