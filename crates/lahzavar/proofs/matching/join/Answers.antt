-- By the verdict at the car's own record, or 11.
use mathlib.Core.Path.{sym, ap, ◌∙◌}
use Rattle.messages.specs.Reading.{yes}
use Rattle.messages.specs.declared.Refusal.TheVariants.{NoRecord}
use Rattle.records.specs.Requests.{verdict_of}
use Rattle.words.specs.Words.{edition_in}
use Rattle.lahzavar.specs.Matching.{first_id, second_id}
use Rattle.lahzavar.proofs.FrameLaws.{comes_as, comes_refused}
use Rattle.lahzavar.proofs.MatchLaws.{ready_kept, octets_kept, config_joined, comes_joined, join_missing, join_verdict}
use Rattle.lahzavar.proofs.matching.join.Goals as goal

pub returns-in_default : goal.returns-in_default
returns-in_default c =
    let a = c.args in
    comes_refused _ NoRecord a.words.now a.sums.now a.spread.now a.out.now c.refused.result
    (join_missing a.words.now a.sums.now a.spread.now a.car a.run (first_id (edition_in a.words.now) a.octets.now) (second_id (edition_in a.words.now) a.octets.now) c.own_place.result c.own_place.ensures c.in_default.is) c.refused.ensures

pub confirm-requires : goal.confirm-requires
confirm-requires c =
    let a = c.args in
    let same = config_joined a.words.now _ _ _ _ _ c.free_all.ensures c.put_state.ensures in
    (λ x y. ready_kept a.words.now _ same a.sums.now a.spread.now x y a.out.now a.car c.requires.0, octets_kept a.words.now _ same a.run a.octets.now c.requires.1)

pub returns-in-Err : goal.returns-in-Err
returns-in-Err c =
    let a = c.args in
    comes_refused _ c.in-Err.refusal a.words.now a.sums.now a.spread.now a.out.now c.refused-in-Err.result
    (join_verdict a.words.now a.sums.now a.spread.now a.car a.run (first_id (edition_in a.words.now) a.octets.now) (second_id (edition_in a.words.now) a.octets.now) c.own_place.result c.own_place.ensures _ _ c.record_at-r.result _ c.in-Some.is c.record_at-r.ensures.0 (sym (ap verdict_of c.in-Err.is) ∙ c.match_req.ensures)) c.refused-in-Err.ensures

pub returns-in-Ok : goal.returns-in-Ok
returns-in-Ok c =
    let a = c.args in
    let freed = c.free_all.ensures in
    let put = c.put_state.ensures in
    comes_as _ _ a.words.now a.sums.now a.spread.now a.out.now _ _ _ _ c.confirm.result
    (sym (join_verdict a.words.now a.sums.now a.spread.now a.car a.run (first_id (edition_in a.words.now) a.octets.now) (second_id (edition_in a.words.now) a.octets.now) c.own_place.result c.own_place.ensures _ _ c.record_at-r.result (yes tt) c.in-Some.is c.record_at-r.ensures.0 (sym (ap verdict_of c.in-Ok.is) ∙ c.match_req.ensures)))
    (comes_joined a.words.now a.sums.now a.spread.now a.out.now _ _ c.confirm.result a.car a.run a.octets.now _ (config_joined a.words.now _ _ _ _ _ freed put) c.confirm.ensures _ _ _ _ c.pilot_of-pilot.ensures c.clock_of-clock.ensures freed put)
