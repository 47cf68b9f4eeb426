-- `car_rules::no_reports` meets its contract.
use mathlib.Core.Path.{refl}
use Rattle.car_rules.specs.Cars.{no_reports}
use Rattle.car_rules.proofs.no_reports.Goals as goal

pub returns : goal.returns
unfolding no_reports
returns c = refl
