-- The choice: the station with the least total, and whether it is found.
use Rattle.std.specs.Prelude.{ℕ, ◌+◌, ◌*◌, cond, List, [], ◌∷◌, ltb}
use Rattle.messages.specs.declared.StationAddress.{StationAddress}
use Rattle.messages.specs.Table.{group_count}
use Rattle.ends.specs.declared.Indication.{Indication}
use Rattle.ends.specs.declared.Indication.TheVariants.{NoLink, Found, PotentiallyFound, NotFound}
use Rattle.ends.specs.Constants.{response_time, retry_count}
use Rattle.ends.specs.Outcomes.{Done}
use Rattle.car_rules.specs.declared.Car.{Car}
use Rattle.car_rules.specs.declared.Report.{Report}
use Rattle.car_rules.specs.declared.State.TheVariants.{Idle, Requesting}
use Rattle.car_rules.specs.Cars.{reports_of, in_state}
use Rattle.car_rules.specs.Constants.{direct_limit, indirect_limit}
use Rattle.car_rules.specs.Sending.{match_req, done}

-- "the sum of its 58 values"
unfoldable pub total : List ℕ → ℕ
total [] = 0
total (v ∷ vs) = v + total vs

-- "the least total, on equal totals the one that reported first", of r and those behind it
unfoldable pub least : Report → List Report → Report
least r [] = r
least r (q ∷ qs) = least (cond (ltb q.total r.total) q r) qs

-- a mean attenuation over the reference, as a total: "compared without dividing"
abbrev pub limit : ℕ → ℕ → ℕ
limit mean reference = group_count * (mean + reference)

-- the car Idle, with an indication
abbrev pub falls : Car → Indication → Done Car
falls c x = done (in_state Idle c) [] x

-- "MATCH.REQ to that station, Requesting, 200, two retries", with an indication
abbrev pub requests : Car → StationAddress → Indication → Done Car
requests c s x = done (in_state (Requesting response_time retry_count s) c) (match_req s ∷ []) x

-- the station of the least total: "found", "potentially found" or "not found"
abbrev pub decided : Car → Report → Done Car
decided c r =
    cond (ltb r.total (limit direct_limit c.config.reference)) (requests c r.station Found)
    (cond (ltb r.total (limit indirect_limit c.config.reference)) (requests c r.station PotentiallyFound)
    (falls c NotFound))

-- of some reports: "no report: Idle, no link"
abbrev pub chosen_of : Car → List Report → Done Car
chosen_of c [] = falls c NoLink
chosen_of c (r ∷ rs) = decided c (least r rs)

-- the choice
unfoldable pub choice : Car → Done Car
choice c = chosen_of c (reports_of c)
