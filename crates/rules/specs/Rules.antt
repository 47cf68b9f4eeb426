-- The station's rules whole: what configuring gives, and what each call does and gives.
use Rattle.std.specs.Prelude.{ℕ, ◌^◌, Bool, false, not, cond, ◌&&◌, List, [], ◌∷◌, eqb, ltb, replicate}
use Rattle.std.specs.Int.Count.{ones}
use Rattle.messages.specs.declared.CarAddress.{CarAddress}
use Rattle.messages.specs.declared.Edition.{Edition}
use Rattle.messages.specs.declared.ModemAddress.{ModemAddress}
use Rattle.messages.specs.declared.Nid.{Nid}
use Rattle.messages.specs.declared.Nmk.{Nmk}
use Rattle.messages.specs.declared.StationAddress.{StationAddress}
use Rattle.messages.specs.Table.{is_unicast}
use Rattle.messages.specs.Reading.{Checked, no, yes, check}
use Rattle.amplitude.specs.Maps.{is_carriers}
use Rattle.ends.specs.declared.Indication.TheVariants.{Nothing}
use Rattle.rules.specs.declared.Configuration.{Configuration}
use Rattle.rules.specs.declared.Pilot.{Pilot}
use Rattle.rules.specs.declared.Pilot.TheVariants.{A}
use Rattle.rules.specs.declared.Record.{Record}
use Rattle.rules.specs.declared.State.{State}
use Rattle.rules.specs.declared.State.TheVariants.{Unmatched, Matching, Joining, Matched}
use Rattle.rules.specs.declared.Spread.{Spread}
use Rattle.rules.specs.declared.Station.{Station}
use Rattle.rules.specs.Constants.{record_count}
use Rattle.rules.specs.Calls.{Call, frame, tick, pilot, terminate, link_up}
use Rattle.ends.specs.Outcomes.{Outcome, and_then, next, outcome_of}
use Rattle.rules.specs.Stations.{Shared, Inner, shared, inner, build, Done}
use Rattle.rules.specs.Records.{mine, freed, fresh}
use Rattle.rules.specs.Received.{received}
use Rattle.rules.specs.Events.{plugged, is_b, ended, pilot_done, link_rule}
use Rattle.rules.specs.Validation.{turn}
use Rattle.rules.specs.Frames.{at_own, admitted, frame_rule}
use Rattle.rules.specs.Ticks.{tick_elapsed, tick_done}
use Rattle.rules.specs.Numbers.{state_number}

-- ---- configuring

-- "our address and the modem's unicast and different, NID below 2^54": what every reply rests on
abbrev pub may_reply : StationAddress → ModemAddress → Nid → Bool
may_reply a m nid = is_unicast a.0 && is_unicast m.0 && not (eqb a.0 m.0) && ltb nid.0 (2 ^ 54)

-- and "our carriers, from 1 to 1,155"
abbrev pub is_good : StationAddress → ModemAddress → Nid → ℕ → Bool
is_good a m nid carriers = may_reply a m nid && is_carriers carriers

-- a record that no car has held
unfoldable pub free_record : Record
free_record = freed (fresh false (record { 0 = 0 }) (record { 0 = 0 }))

-- the station that configuring gives, with "whether validation is not required", the edition and our carriers: "Unmatched (at first)", pilot "A at first", reading "0 at first"
unfoldable pub configured : StationAddress → ModemAddress → Nid → Nmk → Bool → Edition → ℕ → Station
configured a m nid nmk exempt e carriers = record {
  config = record { good = is_good a m nid carriers; address = a; modem = m; nid = nid; nmk = nmk; exempt = exempt; edition = e; carriers = carriers };
  state = Unmatched;
  pilot = A;
  clock = 0;
  records = replicate record_count free_record;
}

-- what configuring gives: "a bad one gives 16"
abbrev pub configuring : StationAddress → ModemAddress → Nid → ℕ → Outcome
configuring a m nid carriers = check (is_good a m nid carriers) 16 (yes (record { frames = []; indication = Nothing }))

-- ---- the calls

-- what a call does to the state and the records, given the shared part
unfoldable pub rule : Shared → Inner → Call → Checked Done
rule o i (frame s room) = frame_rule o.config i (admitted o.config room (received o.config.edition s))
rule o i (tick t room) = and_then (tick_elapsed o t room) (λ (e : ℕ). yes (tick_done o.config (is_b o.pilot) e i.state i.records))
rule o i (pilot p t) = check o.config.good 16 (yes (pilot_done (plugged o.pilot) (plugged p) (turn o.pilot p) i))
rule o i terminate = check o.config.good 16 (yes (ended i))
rule o i link_up = check o.config.good 16 (link_rule i.state i.records)

-- an accepted tick takes the reading
unfoldable pub takes_reading : Checked ℕ → ℕ → Shared → Shared
takes_reading (no n) t o = o
takes_reading (yes e) t o = record { config = o.config; pilot = o.pilot; clock = t }

-- a pilot change takes the pilot state, and the reading unless it is one among B, C and D
unfoldable pub takes_pilot : Pilot → ℕ → Shared → Shared
takes_pilot p t o = record { config = o.config; pilot = p; clock = cond (plugged o.pilot && plugged p) o.clock t }

-- what a call does to the shared part: no state and no record is looked at
unfoldable pub shared_step : Shared → Call → Shared
shared_step o (frame s room) = o
shared_step o (tick t room) = takes_reading (tick_elapsed o t room) t o
shared_step o (pilot p t) = cond o.config.good (takes_pilot p t o) o
shared_step o terminate = o
shared_step o link_up = o

-- the station after a call
unfoldable pub step : Station → Call → Station
step s x = build (shared_step (shared s) x) (next (inner s) (rule (shared s) (inner s) x))

-- what a call gives
unfoldable pub outcome : Station → Call → Outcome
outcome s x = outcome_of (rule (shared s) (inner s) x)

-- the station after some calls
abbrev pub after : Station → List Call → Station
after s [] = s
after s (x ∷ xs) = after (step s x) xs

-- ---- the service query

-- what a record tells: the sounds heard, and the least and greatest values
pub record Told : Type 0 where
  pub sounds : ℕ
  pub spread : Spread

-- "the number of ones in its set", and the spread; 11 where it "counts no profile"
abbrev pub told_of : Record → Checked Told
told_of r = check (ltb 0 r.profiles) 11 (yes (record { sounds = ones r.heard; spread = r.spread }))

-- "11 where the car holds no record"
abbrev pub told_in : CarAddress → List Record → Checked Told
told_in c rs = at_own (mine c rs) told_of

-- "by car address": 16, then 11
unfoldable pub query : Station → CarAddress → Checked Told
query s c = check s.config.good 16 (told_in c s.records)

-- ---- the inspection

-- a state's number, and the car
pub record Inspected : Type 0 where
  pub state : ℕ
  pub car : CarAddress

-- no car
abbrev pub no_car : CarAddress
no_car = record { 0 = 0 }

-- "the car, in Joining and Matched, else 0"
abbrev pub car_in : State → CarAddress
car_in Unmatched = no_car
car_in (Matching t) = no_car
car_in (Joining t c run) = c
car_in (Matched c) = c

-- "the state's number and the car"; 16 where the configuration is bad
unfoldable pub inspection : Configuration → State → Checked Inspected
inspection o st = check o.good 16 (yes (record { state = state_number st; car = car_in st }))
