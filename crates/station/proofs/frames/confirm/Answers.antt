-- By what the first VALIDATE.REQ comes to.
use Rattle.messages.specs.Reading.{yes}
use Rattle.records.specs.Requests.{validated_of}
use Rattle.rules.specs.Replies.{confirmation, frames_to}
use Rattle.rules.specs.Stations.{done}
use Rattle.rules.specs.declared.Record.{Record}
use Rattle.ends.specs.declared.Indication.TheVariants.{Nothing}
use Rattle.messages.specs.declared.Refusal.{Refusal}
use Rattle.std.specs.Prelude.{Result}
use Rattle.station.proofs.ComesLaws.{comes_as, comes_refused}
use Rattle.station.specs.Frames.{settled}
use lib.ListN.{set}
use mathlib.Core.List.{List, [], ◌∷◌}
use mathlib.Core.Path.{sym, ap, ◌∙◌}
use Rattle.station.proofs.frames.confirm.Goals as goal

pub returns-in-Err : goal.returns-in-Err
returns-in-Err c =
    let a = c.args in
    comes_refused a.station _ _ a.out.now c.refused.result (ap (λ (v : Result Record Refusal). settled a.station a.i a.car (validated_of a.res v)) c.in-Err.is) c.refused.ensures

pub returns-in-Ok : goal.returns-in-Ok
returns-in-Ok c =
    let a = c.args in
    comes_as a.station _ _ a.out.now _ c.validate_cnf.result
    (ap (λ (l : List Record). yes (done a.station.state l (frames_to a.station.config a.car (confirmation 0 a.res ∷ [])) Nothing)) (c.with_record-next.ensures ∙ ap (set a.station.records a.i) c.owned.ensures)
    ∙ sym (ap (λ (v : Result Record Refusal). settled a.station a.i a.car (validated_of a.res v)) c.in-Ok.is))
    c.validate_cnf.ensures
