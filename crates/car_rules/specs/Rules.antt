-- The car's rules whole: what configuring gives, and what each call does and gives.
use Rattle.std.specs.Prelude.{ℕ, Bool, true, false, ◌&&◌, List, [], ◌∷◌, leb}
use Rattle.messages.specs.declared.CarAddress.{CarAddress}
use Rattle.messages.specs.declared.Random.{Random}
use Rattle.messages.specs.declared.RunId.{RunId}
use Rattle.messages.specs.Table.{is_unicast}
use Rattle.messages.specs.Reading.{Checked, no, yes, check}
use Rattle.ends.specs.declared.Indication.{Indication}
use Rattle.ends.specs.declared.Indication.TheVariants.{Nothing, NoLink, LinkEstablished}
use Rattle.ends.specs.Clock.{tick_time}
use Rattle.ends.specs.Constants.{response_time, retry_count}
use Rattle.ends.specs.Outcomes.{Outcome, Done, and_then, next, outcome_of}
use Rattle.car_rules.specs.declared.Car.{Car}
use Rattle.car_rules.specs.declared.Key.{Key}
use Rattle.car_rules.specs.declared.State.{State}
use Rattle.car_rules.specs.declared.State.TheVariants.{Idle, Asking, Confirmed, Sounding, Requesting, Joining, Matched}
use Rattle.car_rules.specs.Calls.{Call, start, frame, tick, link_up, terminate}
use Rattle.car_rules.specs.Cars.{no_reports, in_state, at_reading, begun}
use Rattle.car_rules.specs.Choice.{falls}
use Rattle.car_rules.specs.Constants.{most_reference, least_output}
use Rattle.car_rules.specs.Frames.{frame_rule}
use Rattle.car_rules.specs.Received.{received}
use Rattle.car_rules.specs.Sending.{parm_req, done}
use Rattle.car_rules.specs.Ticks.{tick_done}

-- ---- configuring

-- "its address, unicast, and a reference, a whole number from 0 to 255"
abbrev pub is_good : CarAddress → ℕ → Bool
is_good a r = is_unicast a.0 && leb r most_reference

-- the car that configuring gives: "Idle (at first)", reading "0 at first", run and random value "zero before the first" start
unfoldable pub configured : CarAddress → ℕ → Car
configured a r = record {
  config = record { good = is_good a r; address = a; reference = r };
  state = Idle;
  clock = 0;
  run = record { 0 = 0 };
  random = record { 0 = 0; 1 = 0 };
  reports = no_reports;
  count = 0;
}

-- what configuring gives: "a bad one gives 16"
abbrev pub configuring : CarAddress → ℕ → Outcome
configuring a r = check (is_good a r) 16 (yes (record { frames = []; indication = Nothing }))

-- ---- the calls

-- "in Idle"
unfoldable pub is_idle : State → Bool
is_idle Idle = true
is_idle (Asking t n) = false
is_idle (Confirmed t) = false
is_idle (Sounding k t g) = false
is_idle (Requesting t n s) = false
is_idle (Joining t key) = false
is_idle (Matched key) = false

-- start: "reading, run and random value taken, no reports, PARM.REQ sent, Asking, 200, two retries"
abbrev pub started : RunId → Random → ℕ → Car → Done Car
started run random t c = done (in_state (Asking response_time retry_count) (begun run random t c)) (parm_req ∷ []) Nothing

-- link up: "in Joining, Matched and link established; else 8"
unfoldable pub link_rule : Car → State → Checked (Done Car)
link_rule c Idle = no 8
link_rule c (Asking t n) = no 8
link_rule c (Confirmed t) = no 8
link_rule c (Sounding k t g) = no 8
link_rule c (Requesting t n s) = no 8
link_rule c (Joining t key) = yes (done (in_state (Matched key) c) [] LinkEstablished)
link_rule c (Matched key) = no 8

-- terminate: "no link if it was neither Idle nor Matched"
unfoldable pub lost : State → Indication
lost Idle = Nothing
lost (Asking t n) = NoLink
lost (Confirmed t) = NoLink
lost (Sounding k t g) = NoLink
lost (Requesting t n s) = NoLink
lost (Joining t key) = NoLink
lost (Matched key) = Nothing

-- what a call does: start 16, 15, 8; tick 16, 15, 14; link up 16, 8; terminate 16
unfoldable pub rule : Car → Call → Checked (Done Car)
rule c (start run random t room) =
    check c.config.good 16
    (check (leb least_output room) 15
    (check (is_idle c.state) 8
    (yes (started run random t c))))
rule c (frame s room) = frame_rule c room (received s)
rule c (tick t room) = and_then (tick_time c.config.good least_output room t c.clock) (λ (e : ℕ). yes (tick_done e (at_reading t c) c.state))
rule c link_up = check c.config.good 16 (link_rule c c.state)
rule c terminate = check c.config.good 16 (yes (falls c (lost c.state)))

-- the car after a call
unfoldable pub step : Car → Call → Car
step c x = next c (rule c x)

-- what a call gives
unfoldable pub outcome : Car → Call → Outcome
outcome c x = outcome_of (rule c x)

-- the car after some calls
abbrev pub after : Car → List Call → Car
after c [] = c
after c (x ∷ xs) = after (step c x) xs

-- ---- the key query

-- "in Joining and Matched the station, its NID and NMK; else 8"
abbrev pub key_in : State → Checked Key
key_in Idle = no 8
key_in (Asking t n) = no 8
key_in (Confirmed t) = no 8
key_in (Sounding k t g) = no 8
key_in (Requesting t n s) = no 8
key_in (Joining t key) = yes key
key_in (Matched key) = yes key

-- 16, 8
unfoldable pub key_query : Car → Checked Key
key_query c = check c.config.good 16 (key_in c.state)
