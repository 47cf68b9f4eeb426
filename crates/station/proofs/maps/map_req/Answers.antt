-- `station::maps::map_req` meets its contract, by the state.
use Rattle.messages.specs.declared.Refusal.TheVariants.{WrongState}
use Rattle.station.proofs.ComesLaws.{comes_refused}
use Rattle.station.proofs.MapLaws.{map_elsewhere, map_matched}
use borrow.Enum.Refused.{opened}
use Rattle.station.proofs.maps.map_req.Goals as goal

pub returns-in_default : goal.returns-in_default
returns-in_default c =
    let a = c.args in
    comes_refused a.station _ WrongState a.out.now c.refused.result (map_elsewhere a.station a.car a.carriers (opened c.in_default.in_default-own.keys2)) c.refused.ensures

pub returns : goal.returns
returns c =
    let a = c.args in
    map_matched a.station a.car a.carriers a.out.now _ c.answer-answer.result c.requires _ c.in-Matched.is c.answer-answer.ensures
