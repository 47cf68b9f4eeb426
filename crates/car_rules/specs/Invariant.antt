-- What holds of every car: configuring gives it, every call keeps it, and it is all that a call requires.
use Rattle.std.specs.Prelude.{ℕ, ◌<◌, ◌≤◌, ◌≡◌, true}
use Rattle.messages.specs.Table.{is_unicast}
use Rattle.ends.specs.Constants.{response_time, retry_count, joining_time}
use Rattle.ends.specs.Lists.{All}
use Rattle.car_rules.specs.declared.Car.{Car}
use Rattle.car_rules.specs.declared.Configuration.{Configuration}
use Rattle.car_rules.specs.declared.Report.{Report}
use Rattle.car_rules.specs.declared.State.{State}
use Rattle.car_rules.specs.declared.State.TheVariants.{Idle, Asking, Confirmed, Sounding, Requesting, Joining, Matched}
use Rattle.car_rules.specs.Cars.{reports_of}
use Rattle.car_rules.specs.Constants.{confirmed_time, spacing, gather_time, frame_count, station_count, most_reference}

-- a time left: above 0 and at most the state's start value
abbrev pub Within : ℕ → ℕ → Type 0
Within t most = (0 < t) × (t ≤ most)

-- what a state says of its times, its counts and its station
abbrev pub InState : State → Type 0
InState Idle = Unit {0}
InState (Asking t n) = Within t response_time × (n ≤ retry_count)
InState (Confirmed t) = Within t confirmed_time
InState (Sounding k t g) = (k ≤ frame_count) × (Within t spacing × Within g gather_time)
InState (Requesting t n s) = Within t response_time × ((n ≤ retry_count) × (is_unicast s.0 ≡ true))
InState (Joining t key) = Within t joining_time
InState (Matched key) = Unit {0}

-- a configuration that is marked good
pub record GoodConfiguration (o : Configuration) : Type 0 where
  pub address : o.good ≡ true → is_unicast o.address.0 ≡ true
  pub reference : o.good ≡ true → o.reference ≤ most_reference

-- a report of a station with a unicast address
abbrev pub UnicastReport : Report → Type 0
UnicastReport r = is_unicast r.station.0 ≡ true

-- the configuration, the state and the reports that are kept
pub record Invariant (c : Car) : Type 0 where
  pub config : GoodConfiguration c.config
  pub state : InState c.state
  pub count : c.count ≤ station_count
  pub reports : All UnicastReport (reports_of c)
