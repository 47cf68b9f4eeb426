-- By whether it is refused.
use Rattle.messages.specs.declared.Refusal.{Refusal}
use Rattle.records.specs.Requests.{validated_of}
use Rattle.rules.specs.declared.Record.{Record}
use Rattle.station.specs.Frames.{settled}
use Rattle.words.specs.Words.{station_of}
use Rattle.std.specs.Prelude.{Result}
use Rattle.lahzavar.proofs.FrameLaws.{comes_as, comes_refused}
use mathlib.Core.Path.{sym, ap}
use Rattle.lahzavar.proofs.validating.settle.Goals as goal

pub confirm-requires : goal.confirm-requires
confirm-requires c = (c.requires.0, (c.requires.1.0 c.in-Ok.left c.in-Ok.is, c.requires.1.1))

pub returns-in-Err : goal.returns-in-Err
returns-in-Err c =
    let a = c.args in
    comes_refused _ c.in-Err.refusal a.words.now a.sums.now a.spread.now a.out.now c.refused.result (ap (λ (v : Result Record Refusal). settled (station_of a.words.now a.sums.now a.spread.now) a.i a.car (validated_of a.res v)) c.in-Err.is) c.refused.ensures

pub returns-in-Ok : goal.returns-in-Ok
returns-in-Ok c =
    let a = c.args in
    comes_as _ _ a.words.now a.sums.now a.spread.now a.out.now _ _ _ _ c.confirm.result
    (sym (ap (λ (v : Result Record Refusal). settled (station_of a.words.now a.sums.now a.spread.now) a.i a.car (validated_of a.res v)) c.in-Ok.is))
    c.confirm.ensures
