-- The refusal stays, or the frame is judged as a message of amplitude maps.
use mathlib.Core.Path.{sym, ◌∙◌}
use Rattle.lahzavar.proofs.MapLaws.{unread_lent, map_refused_lent, map_asked_lent}
use Rattle.lahzavar.proofs.maps.unread.Goals as goal

pub returns-then-not-is_unknown : goal.returns-then-not-is_unknown
returns-then-not-is_unknown c =
    let a = c.args in
    λ u z. unread_lent a.words.now u z a.octets.now a.out.now a.refusal c.requires c.refused.result (sym c.is_unknown.ensures ∙ c.if-not-is_unknown.true) c.refused.ensures

pub returns-in-Err : goal.returns-in-Err
returns-in-Err c =
    let a = c.args in
    λ u z. map_refused_lent a.words.now u z a.octets.now a.out.now a.refusal c.requires c.refused-in-Err.result (sym c.is_unknown.ensures ∙ c.if-not-is_unknown.false) _ c.identity_of.ensures c.judge_map.result c.judge_map.ensures _ c.in-Err.is c.refused-in-Err.ensures

pub returns-in-Ok : goal.returns-in-Ok
returns-in-Ok c =
    let a = c.args in
    λ u z. map_asked_lent a.words.now u z a.octets.now a.out.now a.refusal c.requires c.map_req.result (sym c.is_unknown.ensures ∙ c.if-not-is_unknown.false) _ c.identity_of.ensures c.judge_map.result c.judge_map.ensures _ _ c.in-Ok.is (c.map_req.ensures u z)
