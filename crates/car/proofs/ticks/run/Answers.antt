-- `car::ticks::run` meets its contract: in Joining, at this output.
use Rattle.std.proofs.Common.{ap}
use Rattle.car_rules.specs.Ticks.{tick_done}
use Rattle.car.proofs.ComesLaws.{gives_as}
use Rattle.car.proofs.ticks.run.Goals as goal

pub returns-in-Joining : goal.returns-in-Joining
returns-in-Joining c = let a = c.args in gives_as _ _ a.out.now _ c.joining.result (ap (tick_done a.elapsed a.car) c.in-Joining.is) (c.joining.ensures a.out.now)
