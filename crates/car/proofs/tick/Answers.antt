-- `car::tick` meets its contract: what the elapsed time comes to.
use Rattle.std.proofs.Common.{refl}
use Rattle.car.proofs.StepLaws.{accepted}
use Rattle.car.proofs.TickLaws.{tick_rule}
use Rattle.car.proofs.tick.Goals as goal

pub returns-in-Ok : goal.returns-in-Ok
returns-in-Ok c =
    let a = c.args in
    accepted _ _ c.requires c.run.result _ a.out.now _
    (tick_rule a.car a.reading a.out.now _ c.tick_time.ensures _ c.in-Ok.is _ refl) c.run.ensures
