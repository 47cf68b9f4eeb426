-- The choice, by the report of the least total.
use mathlib.Core.Path.{◌≡◌, refl, sym, ap}
use mathlib.Core.List.{List, [], ◌∷◌}
use Rattle.std.specs.Prelude.{None, Some}
use Rattle.std.proofs.Common.{tests}
use Rattle.ends.specs.declared.Indication.TheVariants.{NoLink}
use Rattle.ends.specs.Lists.{All}
use Rattle.car_rules.specs.declared.Car.{Car}
use Rattle.car_rules.specs.declared.Report.{Report}
use Rattle.car_rules.specs.Cars.{reports_of}
use Rattle.car_rules.specs.Choice.{least, falls, decided, chosen_of, choice}
use Rattle.car_rules.specs.Invariant.{UnicastReport}
use Rattle.car_rules.proofs.InvariantKept.{least_unicast}
use Rattle.car.specs.Reports.{least_in}

-- by the least of some
module _ (c : Car) where
  chosen_none : (rs : List Report) → None ≡ least_in rs → chosen_of c rs ≡ falls c NoLink
  chosen_none [] e = refl
  chosen_none (r ∷ rs) e = search tests

  chosen_least : (rs : List Report) (q : Report) → Some q ≡ least_in rs → All UnicastReport rs → (chosen_of c rs ≡ decided c q) × UnicastReport q
  chosen_least [] q e u = search tests
  chosen_least (r ∷ rs) q e u = let h : q ≡ least r rs = search tests in (ap (decided c) (sym h), rw h (least_unicast r rs u.0 u.1))

  -- there is none
  pub choice_none : None ≡ least_in (reports_of c) → choice c ≡ falls c NoLink
  unfolding choice
  choice_none e = chosen_none (reports_of c) e

  -- there is one, and its station is unicast
  pub choice_least : (q : Report) → Some q ≡ least_in (reports_of c) → All UnicastReport (reports_of c) → (choice c ≡ decided c q) × UnicastReport q
  unfolding choice
  choice_least q e u = chosen_least (reports_of c) q e u
