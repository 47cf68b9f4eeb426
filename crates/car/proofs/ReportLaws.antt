-- The sum of the values, the look for a station's report and the least total, as the library's words have them.
use Rattle.std.proofs.Common.{◌≡◌, ℕ, ◌+◌, refl, ap, List, [], ◌∷◌, arith, Bool, ◌||◌, eqb}
use Rattle.std.specs.List.{fold, sum, list_any}
use Rattle.messages.specs.declared.StationAddress.{StationAddress}
use Rattle.car_rules.specs.declared.Report.{Report}
use Rattle.car_rules.specs.Choice.{total, least}
use Rattle.car_rules.specs.Frames.{same_station, has_reported}
use Rattle.car.specs.Reports.{lower}

-- the values added to a sum so far
total_from : (n : ℕ) (vs : List ℕ) → fold (λ a v. a + v) n vs ≡ n + total vs
unfolding total
total_from n [] = omega arith
total_from n (v ∷ vs) = omega (arith, total_from (n + v) vs)

-- the sum of the values
pub total_sum : (vs : List ℕ) → sum vs ≡ total vs
total_sum vs = omega (arith, total_from 0 vs)

-- whether one of some reports is the station's
pub any_reported : (s : StationAddress) (rs : List Report) → list_any (λ r. eqb s.0 r.station.0) rs ≡ has_reported s rs
unfolding has_reported same_station
any_reported s [] = refl
any_reported s (r ∷ rs) = ap (λ (b : Bool). eqb s.0 r.station.0 || b) (any_reported s rs)

-- the lowest of a report and those behind it
pub lowest_least : (r : Report) (rs : List Report) → fold lower r rs ≡ least r rs
unfolding least lower
lowest_least r [] = refl
lowest_least r (q ∷ qs) = lowest_least (lower r q) qs
