-- The car's own record, or 11; answered by whether any record is ready or counting.
use Rattle.messages.specs.Table.{result_limit}
use Rattle.messages.specs.declared.Refusal.TheVariants.{WrongState, NoRecord}
use Rattle.rules.specs.declared.Record.{Record}
use Rattle.rules.specs.declared.Configuration.{Configuration}
use Rattle.rules.specs.Frames.{first_rule}
use Rattle.rules.specs.Received.{validate_first}
use Rattle.rules.specs.Rules.{free_record}
use Rattle.rules.specs.Validation.{first_result}
use Rattle.station.proofs.KeptLaws.{validated_good}
use Rattle.station.proofs.OwnLaws.{change_first}
use Rattle.station.proofs.ResultLaws.{first_by, first_answered, first_limited}
use Rattle.words.specs.Words.{config_of, edition_in, records_of}
use Rattle.lahzavar.proofs.FrameLaws.{comes_as, comes_refused, takes_none, takes_missing, takes_own}
use Prim.Native.Nat.{ℕ, ◌<◌}
use mathlib.Core.Path.{◌≡◌, sym, ap, ◌∙◌, subst}
use borrow.Enum.Refused.{opened}
use Rattle.lahzavar.proofs.validating.validate_first.Goals as goal

pub returns-in_default : goal.returns-in_default
returns-in_default c =
    let a = c.args in
    comes_refused _ WrongState a.words.now a.sums.now a.spread.now a.out.now c.refused.result (takes_none a.words.now a.sums.now a.spread.now a.car _ c.state_of.ensures _ (opened c.in_default.in_default-own.keys2)) c.refused.ensures

pub returns-in_default-own_place : goal.returns-in_default-own_place
returns-in_default-own_place c =
    let a = c.args in
    comes_refused _ NoRecord a.words.now a.sums.now a.spread.now a.out.now c.refused-in_default-own_place.result (takes_missing a.words.now a.sums.now a.spread.now a.car _ c.state_of.ensures _ c.in-Matching.is c.own_place.result c.own_place.ensures validate_first (λ (r : Record). first_rule (first_result (config_of a.words.now).exempt (records_of a.words.now a.sums.now a.spread.now)) r r.phase) (change_first _ a.car _) c.in_default-own_place.is) c.refused-in_default-own_place.ensures

pub settle-requires : goal.settle-requires
settle-requires c =
    let is-result : c.first_result-result.result ≡ first_result (config_of c.args.words.now).exempt (records_of c.args.words.now c.args.sums.now c.args.spread.now) = let a = c.args in
    first_by _ _ _ _ (c.any_validates-any.ensures a.sums.now a.spread.now) c.first_result-result.ensures
    ∙ ap (λ (o : Configuration). first_result o.exempt (records_of a.words.now a.sums.now a.spread.now)) c.config_of.ensures in
    let a = c.args in
    (c.requires, ((λ left. validated_good (edition_in a.words.now) a.car c.requires.car _ _ _ left c.validate_first-validated.ensures c.record_at-r.ensures.1), subst (λ (x : ℕ). x < result_limit) (sym is-result) (first_limited _ _)))

pub returns : goal.returns
returns c =
    let is-result : c.first_result-result.result ≡ first_result (config_of c.args.words.now).exempt (records_of c.args.words.now c.args.sums.now c.args.spread.now) = let a = c.args in
    first_by _ _ _ _ (c.any_validates-any.ensures a.sums.now a.spread.now) c.first_result-result.ensures
    ∙ ap (λ (o : Configuration). first_result o.exempt (records_of a.words.now a.sums.now a.spread.now)) c.config_of.ensures in
    let a = c.args in
    comes_as _ _ a.words.now a.sums.now a.spread.now a.out.now _ _ _ _ c.settle.result
    (takes_own a.words.now a.sums.now a.spread.now a.car _ c.state_of.ensures _ c.in-Matching.is c.own_place.result c.own_place.ensures validate_first (λ (r : Record). first_rule (first_result (config_of a.words.now).exempt (records_of a.words.now a.sums.now a.spread.now)) r r.phase) (change_first _ a.car _) _ free_record _ _ c.in-Some.is c.record_at-r.ensures.0 (first_answered _ _ _ _ c.validate_first-validated.ensures is-result))
    c.settle.ensures
