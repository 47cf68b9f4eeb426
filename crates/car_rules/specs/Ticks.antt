-- Ticks: what so many milliseconds come to in each state.
use Rattle.std.specs.Prelude.{ℕ, zero, suc, ◌+◌, ◌-◌, cond, [], ◌∷◌, leb, ltb}
use Rattle.messages.specs.declared.StationAddress.{StationAddress}
use Rattle.ends.specs.declared.Indication.TheVariants.{Nothing, NoLink}
use Rattle.ends.specs.Constants.{response_time}
use Rattle.ends.specs.Outcomes.{Done}
use Rattle.car_rules.specs.declared.Car.{Car}
use Rattle.car_rules.specs.declared.State.{State}
use Rattle.car_rules.specs.declared.State.TheVariants.{Idle, Asking, Confirmed, Sounding, Requesting, Joining, Matched}
use Rattle.car_rules.specs.Cars.{in_state}
use Rattle.car_rules.specs.Choice.{falls, choice}
use Rattle.car_rules.specs.Constants.{spacing, gather_time, frame_count}
use Rattle.car_rules.specs.Sending.{parm_req, match_req, sounding_frame, done}

-- the car in a state, with nothing sent
abbrev pub waits : Car → State → Done Car
waits c st = done (in_state st c) [] Nothing

-- Asking fires: "retries left, PARM.REQ again, 200, one fewer; none left, Idle, no link"
abbrev pub asks_again : Car → ℕ → Done Car
asks_again c zero = falls c NoLink
asks_again c (suc n) = done (in_state (Asking response_time n) c) (parm_req ∷ []) Nothing

-- Requesting fires: the same with MATCH.REQ
abbrev pub requests_again : Car → StationAddress → ℕ → Done Car
requests_again c s zero = falls c NoLink
requests_again c s (suc n) = done (in_state (Requesting response_time n s) c) (match_req s ∷ []) Nothing

-- frame k of the 13 sent, "40 to the one after", with g left to gather
abbrev pub sounds : Car → ℕ → ℕ → Done Car
sounds c k g = done (in_state (Sounding (k + 1) spacing g) c) (sounding_frame k ∷ []) Nothing

-- "while frames are left, the next one's does": its time fires or runs down, with g left to gather
abbrev pub next_frame : ℕ → Car → ℕ → ℕ → ℕ → Done Car
next_frame e c k t g =
    cond (ltb k frame_count)
    (cond (leb t e) (sounds c k g) (waits c (Sounding k (t - e) g)))
    (waits c (Sounding k t g))

-- e milliseconds in a state: "at most one firing a tick"; "in Idle and Matched a tick only takes the reading"
unfoldable pub tick_done : ℕ → Car → State → Done Car
tick_done e c Idle = done c [] Nothing
tick_done e c (Asking t n) = cond (leb t e) (asks_again c n) (waits c (Asking (t - e) n))
tick_done e c (Confirmed t) = cond (leb t e) (sounds c 0 gather_time) (waits c (Confirmed (t - e)))
tick_done e c (Sounding k t g) = cond (leb g e) (choice c) (next_frame e c k t (g - e))
tick_done e c (Requesting t n s) = cond (leb t e) (requests_again c s n) (waits c (Requesting (t - e) n s))
tick_done e c (Joining t key) = cond (leb t e) (falls c NoLink) (waits c (Joining (t - e) key))
tick_done e c (Matched key) = done c [] Nothing
