-- What is proved of the definitions: every event of a log is a call, and the station of a bad configuration refuses each with 16.
use Rattle.std.specs.Prelude.{ℕ, ◌≡◌, false, List, []}
use Rattle.std.proofs.Math.Option.{some}
use Rattle.messages.specs.Reading.{yes}
use Rattle.ends.specs.Lists.{All}
use Rattle.rules.specs.Calls.{Call}
use Rattle.rules.specs.Rules.{is_good, step, outcome}
use Rattle.session_log.specs.declared.Configuration.{Configuration}
use Rattle.session_log.specs.Meaning.{Item, Log}
use Rattle.session_log.specs.Reading.{read_rules}
use Rattle.replaying.specs.Replaying.{station_of, call_of, recorded}

-- every event of a log that was read is a call
abbrev pub EventsAreCalls : Type 0
EventsAreCalls = (s : List ℕ) (l : Log) → read_rules s ≡ yes l → All (λ (e : Item). (x : Call) × (call_of e ≡ some x)) l.events

-- the station of a bad configuration stays as it is, and records 16 to each call
abbrev pub BadRefuses : Type 0
BadRefuses = (c : Configuration) → is_good c.address c.modem c.nid c.carriers ≡ false → (x : Call) → (step (station_of c) x ≡ station_of c) × (recorded (outcome (station_of c) x) ≡ record { first = 16; second = 0; octets = [] })
