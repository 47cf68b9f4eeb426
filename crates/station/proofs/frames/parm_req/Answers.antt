-- `station::frames::parm_req` meets its contract, by what is answered of the place.
use Rattle.messages.specs.declared.Refusal.TheVariants.{WrongState}
use Rattle.ends.specs.Outcomes.{and_then}
use Rattle.station.proofs.ComesLaws.{comes_as, comes_refused, state_other}
use Rattle.station.proofs.ParmLaws.{admits, parm_answered, parm_inside}
use Rattle.receiving.specs.AtRecord.{later_at}
use Rattle.messages.specs.Answers.{checked_of}
use Rattle.messages.specs.declared.Refusal.{Refusal}
use Rattle.std.specs.Prelude.{ℕ, Result}
use mathlib.Core.Bool.{Bool}
use mathlib.Core.Path.{sym, ap, ◌∙◌}
use borrow.Enum.Refused.{opened}
use Rattle.station.proofs.frames.parm_req.Goals as goal

pub returns-in_default : goal.returns-in_default
returns-in_default c =
    let a = c.args in
    comes_refused a.station _ WrongState a.out.now c.refused.result (state_other a.station.config a.station.state a.station.records a.car _ (opened c.in_default.in_default-own.keys2)) c.refused.ensures

pub admit-requires : goal.admit-requires
admit-requires c =
    let a = c.args in
    (parm_inside a.station.config a.station.state a.station.records a.car a.run _ c.in-Matching.is c.find-found.result c.find-found.ensures c.place_for.result c.place_for.ensures _ c.in-Ok.is, c.requires)

pub returns-in-Ok : goal.returns-in-Ok
returns-in-Ok c =
    let a = c.args in
    comes_as a.station _ _ a.out.now _ c.admit.result
    (ap (λ (b : Bool). admits a.station.config a.station.state a.station.records a.car a.run _ c.in-Matching.is b c.in-Ok.i) c.is_later-later.ensures
    ∙ sym (parm_answered a.station.config a.station.state a.station.records a.car a.run _ c.in-Matching.is c.find-found.result c.find-found.ensures c.place_for.result c.place_for.ensures
    ∙ ap (λ (y : Result ℕ Refusal). and_then (checked_of y) (admits a.station.config a.station.state a.station.records a.car a.run _ c.in-Matching.is (later_at a.station.config.edition c.find-found.result))) c.in-Ok.is))
    c.admit.ensures

pub returns-in-Err : goal.returns-in-Err
returns-in-Err c =
    let a = c.args in
    comes_refused a.station _ _ a.out.now c.refused-in-Err.result
    (parm_answered a.station.config a.station.state a.station.records a.car a.run _ c.in-Matching.is c.find-found.result c.find-found.ensures c.place_for.result c.place_for.ensures
    ∙ ap (λ (y : Result ℕ Refusal). and_then (checked_of y) (admits a.station.config a.station.state a.station.records a.car a.run _ c.in-Matching.is (later_at a.station.config.edition c.find-found.result))) c.in-Err.is)
    c.refused-in-Err.ensures
