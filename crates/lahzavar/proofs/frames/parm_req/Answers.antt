-- By what is answered of the place.
use Rattle.messages.specs.declared.Edition.{Edition}
use Rattle.rules.specs.Invariant.{TryFits}
use Rattle.rules.proofs.InvariantKept.{request_fits}
use Rattle.receiving.specs.AtRecord.{place_found, later_at}
use Rattle.words.specs.Words.{edition_in}
use Rattle.messages.specs.declared.Refusal.TheVariants.{WrongState}
use Rattle.lahzavar.proofs.FrameLaws.{comes_as, comes_refused, takes_none, takes_parm}
use mathlib.Core.Path.{sym, ap, subst, ◌∙◌}
use borrow.Enum.Refused.{opened}
use Rattle.lahzavar.proofs.frames.parm_req.Goals as goal

pub returns-in_default : goal.returns-in_default
returns-in_default c =
    let a = c.args in
    comes_refused _ WrongState a.words.now a.sums.now a.spread.now a.out.now c.refused.result (takes_none a.words.now a.sums.now a.spread.now a.car _ c.state_of.ensures _ (opened c.in_default.in_default-own.keys2)) c.refused.ensures

-- the try is one that the edition has
try-fits : (c : goal.After-admit-arg-in-Ok-3-1) → TryFits (edition_in c.args.words.now) c.is_later-later.result
try-fits c =
    let same = c.is_later-later.ensures ∙ ap (λ (e : Edition). later_at e c.find-found.result) c.edition_of.ensures in
    subst (TryFits (edition_in c.args.words.now)) (sym same) (request_fits (edition_in c.args.words.now) (place_found c.find-found.result))

pub admit-requires : goal.admit-requires
admit-requires c = (c.requires, try-fits c)

pub returns-in-Ok : goal.returns-in-Ok
returns-in-Ok c =
    let a = c.args in
    comes_as _ _ a.words.now a.sums.now a.spread.now a.out.now _ _ _ _ c.admit.result
    (sym (takes_parm a.words.now a.sums.now a.spread.now a.car _ c.state_of.ensures _ c.in-Matching.is c.find-found.result c.find-found.ensures a.run c.is_later-later.result c.place_for.result _ (c.is_later-later.ensures ∙ ap (λ (e : Edition). later_at e c.find-found.result) c.edition_of.ensures) c.place_for.ensures c.in-Ok.is))
    c.admit.ensures

pub returns-in-Err : goal.returns-in-Err
returns-in-Err c =
    let a = c.args in
    comes_refused _ c.in-Err.refusal a.words.now a.sums.now a.spread.now a.out.now c.refused-in-Err.result
    (takes_parm a.words.now a.sums.now a.spread.now a.car _ c.state_of.ensures _ c.in-Matching.is c.find-found.result c.find-found.ensures a.run c.is_later-later.result c.place_for.result _ (c.is_later-later.ensures ∙ ap (λ (e : Edition). later_at e c.find-found.result) c.edition_of.ensures) c.place_for.ensures c.in-Err.is)
    c.refused-in-Err.ensures
