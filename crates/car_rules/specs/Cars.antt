-- The parts of a car: its reports, and the car with some of them changed.
use Rattle.std.specs.Prelude.{ℕ, ◌+◌, List, take, replicate, set}
use Rattle.messages.specs.declared.Random.{Random}
use Rattle.messages.specs.declared.RunId.{RunId}
use Rattle.car_rules.specs.declared.Car.{Car}
use Rattle.car_rules.specs.declared.Report.{Report}
use Rattle.car_rules.specs.declared.State.{State}
use Rattle.car_rules.specs.Constants.{station_count}

-- "the stations that reported since", in the order in which they first did
abbrev pub reports_of : Car → List Report
reports_of c = take c.count c.reports

-- "no reports": no place of the list is used
unfoldable pub no_reports : List Report
no_reports = replicate station_count (record { station = record { 0 = 0 }; total = 0 })

-- the car in another state
abbrev pub in_state : State → Car → Car
in_state st c = record { config = c.config; state = st; clock = c.clock; run = c.run; random = c.random; reports = c.reports; count = c.count }

-- the car with another reading
abbrev pub at_reading : ℕ → Car → Car
at_reading t c = record { config = c.config; state = c.state; clock = t; run = c.run; random = c.random; reports = c.reports; count = c.count }

-- "reading, run and random value taken, no reports"
abbrev pub begun : RunId → Random → ℕ → Car → Car
begun run random t c = record { config = c.config; state = c.state; clock = t; run = run; random = random; reports = no_reports; count = 0 }

-- the car with one more station's report
abbrev pub kept : Report → Car → Car
kept r c = record { config = c.config; state = c.state; clock = c.clock; run = c.run; random = c.random; reports = set c.reports c.count r; count = c.count + 1 }
