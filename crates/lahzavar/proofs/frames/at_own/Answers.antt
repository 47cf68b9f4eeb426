-- The car's own record, or 11.
use mathlib.Core.Path.{◌≡◌, sym, subst}
use Rattle.messages.specs.declared.Edition.{Edition}
use Rattle.messages.specs.Reading.{beside_of, read_rules}
use Rattle.rules.specs.Invariant.{GoodRecord}
use Rattle.records.specs.Requests.{kept_of}
use Rattle.receiving.specs.AtRecord.{own_rule}
use Rattle.words.specs.Words.{edition_in}
use Rattle.messages.specs.declared.Refusal.TheVariants.{WrongState, NoRecord}
use Rattle.rules.specs.Rules.{free_record}
use Rattle.receiving.specs.Judge.{own_message_of}
use Rattle.station.proofs.KeptLaws.{kept_good}
use Rattle.station.proofs.OwnLaws.{change_own}
use Rattle.lahzavar.proofs.FrameLaws.{comes_as, comes_refused, takes_none, takes_missing, takes_own}
use borrow.Enum.Refused.{opened}
use Rattle.lahzavar.proofs.frames.at_own.Goals as goal

pub returns-in_default : goal.returns-in_default
returns-in_default c =
    let a = c.args in
    comes_refused _ WrongState a.words.now a.sums.now a.spread.now a.out.now c.refused.result (takes_none a.words.now a.sums.now a.spread.now a.car _ c.state_of.ensures _ (opened c.in_default.in_default-own.keys2)) c.refused.ensures

pub returns-in_default-own_place : goal.returns-in_default-own_place
returns-in_default-own_place c =
    let a = c.args in
    comes_refused _ NoRecord a.words.now a.sums.now a.spread.now a.out.now c.refused-in_default-own_place.result (takes_missing a.words.now a.sums.now a.spread.now a.car _ c.state_of.ensures _ c.in-Matching.is c.own_place.result c.own_place.ensures (own_message_of a.message (beside_of (read_rules (edition_in a.words.now) a.octets.now))) (own_rule (edition_in a.words.now) a.message (beside_of (read_rules (edition_in a.words.now) a.octets.now))) (change_own _ a.car a.message _ _) c.in_default-own_place.is) c.refused-in_default-own_place.ensures

pub at_record-kept-requires : goal.at_record-kept-requires
at_record-kept-requires c = subst (λ (e : Edition). GoodRecord e c.record_at-r.result) (sym c.edition_of-edition.ensures) c.record_at-r.ensures.1

pub settle-requires : goal.settle-requires
settle-requires c =
    let kept : kept_of c.at_record-kept.result ≡ own_rule (edition_in c.args.words.now) c.args.message (beside_of (read_rules (edition_in c.args.words.now) c.args.octets.now)) c.record_at-r.result = let a = c.args in
    subst (λ (e : Edition). kept_of c.at_record-kept.result ≡ own_rule e a.message (beside_of (read_rules e a.octets.now)) c.record_at-r.result) c.edition_of-edition.ensures c.at_record-kept.ensures in
    let a = c.args in
    (c.requires.0, kept_good (edition_in a.words.now) a.car c.requires.0.car a.message _ _ c.at_record-kept.result kept c.record_at-r.ensures.1 c.requires.1)

pub returns : goal.returns
returns c =
    let kept : kept_of c.at_record-kept.result ≡ own_rule (edition_in c.args.words.now) c.args.message (beside_of (read_rules (edition_in c.args.words.now) c.args.octets.now)) c.record_at-r.result = let a = c.args in
    subst (λ (e : Edition). kept_of c.at_record-kept.result ≡ own_rule e a.message (beside_of (read_rules e a.octets.now)) c.record_at-r.result) c.edition_of-edition.ensures c.at_record-kept.ensures in
    let a = c.args in
    comes_as _ _ a.words.now a.sums.now a.spread.now a.out.now _ _ _ _ c.settle.result
    (takes_own a.words.now a.sums.now a.spread.now a.car _ c.state_of.ensures _ c.in-Matching.is c.own_place.result c.own_place.ensures (own_message_of a.message (beside_of (read_rules (edition_in a.words.now) a.octets.now))) (own_rule (edition_in a.words.now) a.message (beside_of (read_rules (edition_in a.words.now) a.octets.now))) (change_own _ a.car a.message _ _) _ free_record _ _ c.in-Some.is c.record_at-r.ensures.0 kept)
    c.settle.ensures
