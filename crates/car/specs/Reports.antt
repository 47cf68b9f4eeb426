-- The reports that a car keeps, as the code needs them.
use Rattle.std.specs.Prelude.{◌≤◌, cond, List, [], ◌∷◌, ltb, Option, None, Some}
use Rattle.ends.specs.Lists.{All}
use Rattle.car_rules.specs.declared.Car.{Car}
use Rattle.car_rules.specs.declared.Report.{Report}
use Rattle.car_rules.specs.Cars.{reports_of}
use Rattle.car_rules.specs.Choice.{least}
use Rattle.car_rules.specs.Constants.{station_count}
use Rattle.car_rules.specs.Invariant.{UnicastReport}

-- the one of two reports with the lower total, on equal totals the first
unfoldable pub lower : Report → Report → Report
lower r q = cond (ltb q.total r.total) q r

-- the report with the least total, on equal totals the first
abbrev pub least_in : List Report → Option Report
least_in [] = None
least_in (r ∷ rs) = Some (least r rs)

-- what the invariant says of the reports
pub record ReportsGood (c : Car) : Type 0 where
  pub count : c.count ≤ station_count
  pub stations : All UnicastReport (reports_of c)
