-- The station of the log's configuration, and the places that were read.
use mathlib.Core.Path.{sym, ap, ◌∙◌, subst}
use native.Mathlib.Omega.{arith}
use Rattle.messages.specs.Reading.{yes}
use Rattle.rules.specs.declared.Station.{Station}
use Rattle.session_log.specs.declared.Places.{Places}
use Rattle.session_log.specs.Layout.{configuration_in, items_at}
use Rattle.replaying.specs.Replaying.{station_of, first_difference}
use Rattle.replaying.specs.Private.{Listed}
use Rattle.replaying.proofs.ReadLaws.{right_places, right_lists, right_answer}
use Rattle.replaying.proofs.difference_in.Goals as goal

pub first_difference-requires : goal.first_difference-requires
first_difference-requires c =
    let l = c.args.log.now in (
      record { kept = c.station_of-station.ensures.1; output = omega arith },
      subst (λ (p : Places). Listed l p.count p.events p.replies) (sym (right_places l c.args.places c.requires)) (right_lists l c.args.places c.requires),
    )

pub returns : goal.returns
returns c =
    let l = c.args.log.now in
    let q = c.args.places in
    ap yes
    (c.first_difference.ensures
    ∙ ap (λ (z : Station). first_difference z (items_at l q.count q.events) (items_at l q.count q.replies)) (c.station_of-station.ensures.0 ∙ ap station_of c.configuration_in.ensures)
    ∙ ap (λ (p : Places). first_difference (station_of (configuration_in l)) (items_at l p.count p.events) (items_at l p.count p.replies)) (right_places l q c.requires))
    ∙ right_answer l q c.requires
