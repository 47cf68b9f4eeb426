-- The layout of the car's script: its head and its events.
use Rattle.std.specs.Prelude.{ℕ, List, [], ◌∷◌, eqb, length}
use Rattle.std.proofs.Math.Option.{Option, some}
use Rattle.octets.specs.Octets.{value, low_value}
use Rattle.messages.specs.declared.CarAddress.{CarAddress}
use Rattle.car_rules.specs.Calls.{Call, start, frame, tick, terminate, link_up}
use Rattle.script.specs.Events as events
use Rattle.script.specs.Events.{call, query, given}

-- ---- the head

-- our address
abbrev pub address_in : List ℕ → CarAddress
address_in h = record { 0 = value h 0 6 }

-- the reference
abbrev pub reference_in : List ℕ → ℕ
reference_in h = low_value h 6 4

-- the number of events
abbrev pub count_in : List ℕ → ℕ
count_in h = low_value h 10 4

-- ---- an event

-- a call of the car, or the key query, which asks for nothing more
abbrev pub Event : Type 0
Event = events.Event Call (Unit {0})

-- a start's octets: 24, the run and the random value
abbrev pub start_in : ℕ → ℕ → List ℕ → Option Event
start_in t room s = given (eqb (length s) 24) (call (start (record { 0 = value s 0 8 }) (record { 0 = value s 8 8; 1 = value s 16 8 }) t room))

-- the events of kinds 0 to 5 with the reading t, the room and the octets s
unfoldable pub kinds : ℕ → ℕ → List ℕ → List (Option Event)
kinds t room s =
    some (call (frame s room))
    ∷ given (eqb (length s) 0) (call (tick t room))
    ∷ start_in t room s
    ∷ given (eqb (length s) 0) (call terminate)
    ∷ given (eqb (length s) 0) (call link_up)
    ∷ given (eqb (length s) 0) (query tt)
    ∷ []
