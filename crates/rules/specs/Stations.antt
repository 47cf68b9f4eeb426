-- The two parts of a station: the one that no frame changes, and the state with the records.
use Rattle.std.specs.Prelude.{ℕ, List}
use Rattle.rules.specs.declared.Configuration.{Configuration}
use Rattle.ends.specs.declared.Indication.{Indication}
use Rattle.rules.specs.declared.Pilot.{Pilot}
use Rattle.rules.specs.declared.Record.{Record}
use Rattle.rules.specs.declared.State.{State}
use Rattle.rules.specs.declared.Station.{Station}
use Rattle.ends.specs.Outcomes as outcomes

-- the configuration, "the last pilot state" and "the last clock reading"
pub record Shared : Type 0 where
  pub config : Configuration
  pub pilot : Pilot
  pub clock : ℕ

-- the state and "records side by side"
pub record Inner : Type 0 where
  pub state : State
  pub records : List Record

-- a station's part that no frame changes
abbrev pub shared : Station → Shared
shared s = record { config = s.config; pilot = s.pilot; clock = s.clock }

-- a station's state and records
abbrev pub inner : Station → Inner
inner s = record { state = s.state; records = s.records }

-- the station of two parts
abbrev pub build : Shared → Inner → Station
build o i = record { config = o.config; state = i.state; pilot = o.pilot; clock = o.clock; records = i.records }

-- what an accepted call does: the state and records afterwards, and what it gives
abbrev pub Done : Type 0
Done = outcomes.Done Inner

-- the state and records afterwards, the frames and the indication
abbrev pub done : State → List Record → List (List ℕ) → Indication → Done
done st rs fs x = record { after = record { state = st; records = rs }; sent = record { frames = fs; indication = x } }
