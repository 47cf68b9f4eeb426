-- `car::frames::gather` meets its contract: by whether the station has reported, and the place left.
use Rattle.std.proofs.Common.{ap, ◌∙◌}
use Rattle.messages.specs.declared.Refusal.TheVariants.{ReportsFull}
use Rattle.car_rules.specs.Choice.{total}
use Rattle.car.specs.Judge.{groups_in}
use Rattle.car.proofs.ComesLaws.{comes_gives, comes_refused}
use Rattle.car.proofs.FrameLaws.{gathers_again, gathers_full, gathers_first}
use Rattle.car.proofs.ReportLaws.{total_sum, any_reported}
use Rattle.car.proofs.frames.gather.Goals as goal

pub returns-then-has_reported : goal.returns-then-has_reported
returns-then-has_reported c =
    let a = c.args in
    comes_gives a.car _ _ a.out.now _ c.response.result (gathers_again a.car a.station a.sounds _ c.if-sounds-eq0.false _ (c.has_reported.ensures ∙ any_reported _ _) c.if-has_reported.true) c.response.ensures

pub returns-then-car-ge-STATIONS : goal.returns-then-car-ge-STATIONS
returns-then-car-ge-STATIONS c =
    let a = c.args in
    comes_refused a.car _ ReportsFull a.out.now c.refused-then-car-ge-STATIONS.result (gathers_full a.car a.station a.sounds _ c.if-sounds-eq0.false _ (c.has_reported.ensures ∙ any_reported _ _) c.if-has_reported.false c.if-car-ge-STATIONS.true) c.refused-then-car-ge-STATIONS.ensures

pub returns : goal.returns
returns c =
    let a = c.args in
    comes_gives a.car _ _ a.out.now _ c.response-2.result
    (gathers_first a.car a.station a.sounds (groups_in a.octets.now) c.if-sounds-eq0.false _ (c.has_reported.ensures ∙ any_reported _ _) c.if-has_reported.false c.if-car-ge-STATIONS.false c.total-total.result c.keep.result (c.total-total.ensures ∙ total_sum _ ∙ ap total c.groups.ensures) c.keep.ensures)
    c.response-2.ensures
