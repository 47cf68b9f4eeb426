-- A car as words: what any list of numbers means.
use Rattle.std.specs.Prelude.{ℕ, zero, suc, ◌+◌, ◌*◌, ◌^◌, ◌%◌, min, cond, ◌&&◌, List, [], ◌∷◌, map, eqb, get_or, drop}
use Rattle.messages.specs.declared.StationAddress.{StationAddress}
use Rattle.messages.specs.Table.{is_unicast}
use Rattle.ends.specs.Constants.{response_time, retry_count, joining_time}
use Rattle.ends.specs.Words.{time_within, runs}
use Rattle.car_rules.specs.declared.Car.{Car}
use Rattle.car_rules.specs.declared.Configuration.{Configuration}
use Rattle.car_rules.specs.declared.Key.{Key}
use Rattle.car_rules.specs.declared.Report.{Report}
use Rattle.car_rules.specs.declared.State.{State}
use Rattle.car_rules.specs.declared.State.TheVariants.{Idle, Asking, Confirmed, Sounding, Requesting, Joining, Matched}
use Rattle.car_rules.specs.Constants.{confirmed_time, spacing, gather_time, frame_count, station_count}
use Rattle.car_rules.specs.Rules.{is_good}

-- ---- the layout

-- how many words the head has: good, address, reference, state, its time, its retries or frames sent, the time to the next, station, NID, NMK's two numbers, clock, run, random value's two numbers, reports kept
abbrev pub head_count : ℕ
head_count = 16

-- how many words a report has: station and total
abbrev pub width : ℕ
width = 2

-- how many words a car has
abbrev pub word_count : ℕ
word_count = head_count + width * station_count

-- ---- the reports

-- a report of its words
unfoldable pub report_of : List ℕ → Report
report_of w = record { station = record { 0 = get_or w 0 0 }; total = get_or w 1 0 % 2 ^ 16 }

-- the reports, behind the head
unfoldable pub reports_in : List ℕ → List Report
reports_in w = map report_of (runs station_count width (drop head_count w))

-- how many of the first n reports are kept: up to the first whose station is not unicast
unfoldable pub count_in : ℕ → List Report → ℕ
count_in n [] = 0
count_in zero (r ∷ rs) = 0
count_in (suc n) (r ∷ rs) = cond (is_unicast r.station.0) (suc (count_in n rs)) 0

-- ---- the head

-- the configuration: good only where it may be
unfoldable pub config_of : List ℕ → Configuration
config_of w = record {
  good = eqb (get_or w 0 0) 1 && is_good (record { 0 = get_or w 1 0 }) (get_or w 2 0 % 2 ^ 32);
  address = record { 0 = get_or w 1 0 };
  reference = get_or w 2 0 % 2 ^ 32;
}

-- Requesting a station, where that is a unicast address; else Idle
unfoldable pub requesting_of : ℕ → ℕ → StationAddress → State
requesting_of t n s = cond (is_unicast s.0) (Requesting (time_within response_time t) (min retry_count n) s) Idle

-- a state by its number, with its time, its retries or frames sent, the time to the next and its key: any other number is Idle
unfoldable pub state_by : ℕ → ℕ → ℕ → ℕ → Key → State
state_by k t n x key =
    cond (eqb k 1) (Asking (time_within response_time t) (min retry_count n))
    (cond (eqb k 2) (Confirmed (time_within confirmed_time t))
    (cond (eqb k 3) (Sounding (min frame_count n) (time_within spacing x) (time_within gather_time t))
    (cond (eqb k 4) (requesting_of t n key.station)
    (cond (eqb k 5) (Joining (time_within joining_time t) key)
    (cond (eqb k 6) (Matched key)
    Idle)))))

-- the state
abbrev pub state_of : List ℕ → State
state_of w = state_by (get_or w 3 0) (get_or w 4 0) (get_or w 5 0) (get_or w 6 0) (record { station = record { 0 = get_or w 7 0 }; nid = record { 0 = get_or w 8 0 }; nmk = record { 0 = get_or w 9 0; 1 = get_or w 10 0 } })

-- ---- the car

-- the car of its words
unfoldable pub car_of : List ℕ → Car
car_of w = record {
  config = config_of w;
  state = state_of w;
  clock = get_or w 11 0 % 2 ^ 32;
  run = record { 0 = get_or w 12 0 };
  random = record { 0 = get_or w 13 0; 1 = get_or w 14 0 };
  reports = reports_in w;
  count = count_in (get_or w 15 0) (reports_in w);
}
