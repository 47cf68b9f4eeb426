-- `station::maps::unread` meets its contract: the refusal stays, or the frame is judged as a message of amplitude maps.
use mathlib.Core.Path.{refl, sym, ◌∙◌}
use Rattle.messages.specs.Answers.{number_of}
use Rattle.station.proofs.ComesLaws.{comes_as, comes_refused}
use Rattle.station.proofs.MapLaws.{unread_refused, unread_map, unread_ready}
use Rattle.station.proofs.maps.unread.Goals as goal

pub returns-then-not-is_unknown : goal.returns-then-not-is_unknown
returns-then-not-is_unknown c =
    let a = c.args in
    comes_refused a.station _ a.refusal a.out.now c.refused.result (unread_refused a.station a.octets.now a.out.now (number_of a.refusal) c.requires.1 (sym c.is_unknown.ensures ∙ c.if-not-is_unknown.true)) c.refused.ensures

pub map_req-requires : goal.map_req-requires
map_req-requires c =
    let a = c.args in
    unread_ready a.station a.octets.now a.out.now (number_of a.refusal) c.requires.1 (sym c.is_unknown.ensures ∙ c.if-not-is_unknown.false) _ c.in-Ok.ensures c.requires.0 _ refl

pub returns-in-Err : goal.returns-in-Err
returns-in-Err c =
    let a = c.args in
    comes_refused a.station _ c.in-Err.untaken a.out.now c.refused-in-Err.result (unread_map a.station a.octets.now a.out.now (number_of a.refusal) c.requires.1 (sym c.is_unknown.ensures ∙ c.if-not-is_unknown.false) _ c.in-Err.ensures) c.refused-in-Err.ensures

pub returns-in-Ok : goal.returns-in-Ok
returns-in-Ok c =
    let a = c.args in
    comes_as a.station _ _ a.out.now _ c.map_req.result (sym (unread_map a.station a.octets.now a.out.now (number_of a.refusal) c.requires.1 (sym c.is_unknown.ensures ∙ c.if-not-is_unknown.false) _ c.in-Ok.ensures)) c.map_req.ensures
