-- The layout of the station's script: its head and its events.
use Rattle.std.specs.Prelude.{ℕ, zero, suc, ◌+◌, ◌*◌, ◌-◌, ◌/◌, ◌%◌, ◌^◌, Bool, cond, ◌&&◌, List, [], ◌∷◌, ◌++◌, eqb, leb, ltb, ℤ, pos, ◌-ℤ◌, length}
use Rattle.std.proofs.Math.Option.{Option, some}
use Rattle.messages.specs.declared.CarAddress.{CarAddress}
use Rattle.messages.specs.declared.Edition.{Edition}
use Rattle.messages.specs.declared.ModemAddress.{ModemAddress}
use Rattle.messages.specs.declared.Nid.{Nid}
use Rattle.messages.specs.declared.Nmk.{Nmk}
use Rattle.messages.specs.declared.StationAddress.{StationAddress}
use Rattle.octets.specs.Octets.{value, low_value, part}
use Rattle.rules.specs.Calls.{Call, frame, tick, pilot, terminate, link_up}
use Rattle.rules.specs.Numbers.{pilot_of, edition_of}
use Rattle.script.specs.Events as events
use Rattle.script.specs.Events.{most_octets, call, query, given}

-- ---- the head

-- our address
abbrev pub address_in : List ℕ → StationAddress
address_in h = record { 0 = value h 0 6 }

-- the modem's address
abbrev pub modem_in : List ℕ → ModemAddress
modem_in h = record { 0 = value h 6 6 }

-- the NID, low octet first
abbrev pub nid_in : List ℕ → Nid
nid_in h = record { 0 = low_value h 12 7 }

-- the NMK, in the order of its octets
abbrev pub nmk_in : List ℕ → Nmk
nmk_in h = record { 0 = value h 19 8; 1 = value h 27 8 }

-- the exemption: 1 where validation is not required, and 0 where it is
abbrev pub exemption_in : List ℕ → ℕ
exemption_in h = low_value h 35 4

-- whether validation is not required
abbrev pub exempt_in : List ℕ → Bool
exempt_in h = eqb (exemption_in h) 1

-- the number of the edition: 0 for ISO, 1 for SAE
abbrev pub edition_number_in : List ℕ → ℕ
edition_number_in h = low_value h 39 4

-- the edition
abbrev pub edition_in : List ℕ → Edition
edition_in h = edition_of (edition_number_in h)

-- whether a number is a setting's: 1 or 0
abbrev pub is_setting : ℕ → Bool
is_setting n = ltb n 2

-- whether the head keeps to the layout: the exemption and the edition are 1 or 0
abbrev pub is_head : List ℕ → Bool
is_head h = is_setting (exemption_in h) && is_setting (edition_number_in h)

-- our carriers, any number
abbrev pub carriers_in : List ℕ → ℕ
carriers_in h = low_value h 43 4

-- the number of events
abbrev pub count_in : List ℕ → ℕ
count_in h = low_value h 47 4

-- ---- an event

-- what changes no station: the service query for a car, the reduction call with values, levels and the octets of its slice, or the inspection
pub data Question : Type 0 where
  service : CarAddress → Question
  reduction : List ℕ → List ℤ → ℕ → Question
  inspection : Question

-- a call of the station, or one of these
abbrev pub Event : Type 0
Event = events.Event Call Question

-- a pilot event's octets: one, the number of the pilot state, 0 to 5 for A to F
abbrev pub pilot_in : ℕ → List ℕ → Option Event
pilot_in t s = given (eqb (length s) 1 && ltb (value s 0 1) 6) (call (pilot (pilot_of (value s 0 1)) t))

-- a service query's octets: six, the car's address
abbrev pub query_in : List ℕ → Option Event
query_in s = given (eqb (length s) 6) (query (service (record { 0 = value s 0 6 })))

-- the level that a number of two octets stands for: a signed number of 16 binary digits
unfoldable pub level_of : ℕ → ℤ
level_of n = cond (ltb n (2 ^ 15)) (pos n) (pos n -ℤ pos (2 ^ 16))

-- the n levels that stand in s from `at`, "two octets each, low octet first"
unfoldable pub levels_at : List ℕ → ℕ → ℕ → List ℤ
levels_at s at zero = []
levels_at s at (suc n) = levels_at s at n ++ (level_of (low_value s (at + 2 * n) 2) ∷ [])

-- how many octets stand in front of a reduction's values: their number
abbrev pub values_start : ℕ
values_start = 4

-- the number of values
abbrev pub value_count_in : List ℕ → ℕ
value_count_in s = low_value s 0 4

-- where the levels start: behind the values
abbrev pub levels_start_in : List ℕ → ℕ
levels_start_in s = values_start + value_count_in s

-- how many octets the levels have: what is left
abbrev pub level_octets_in : List ℕ → ℕ
level_octets_in s = length s - levels_start_in s

-- the values, one octet each
abbrev pub values_in : List ℕ → List ℕ
values_in s = part s values_start (value_count_in s)

-- the levels: as many as there are pairs of octets left
abbrev pub levels_in : List ℕ → List ℤ
levels_in s = levels_at s (levels_start_in s) (level_octets_in s / 2)

-- whether octets are a reduction's: as many values as the number says, no more octets than an event has, and pairs of them behind the values
abbrev pub is_reduction : List ℕ → Bool
is_reduction s = leb (levels_start_in s) (length s) && leb (length s) most_octets && eqb (level_octets_in s % 2) 0

-- a reduction's octets: the number of values, the values and the levels; its room is the slice's length
abbrev pub reduction_in : ℕ → List ℕ → Option Event
reduction_in room s = given (is_reduction s) (query (reduction (values_in s) (levels_in s) room))

-- the events of kinds 0 to 7 with the reading t, the room and the octets s
unfoldable pub kinds : ℕ → ℕ → List ℕ → List (Option Event)
kinds t room s =
    some (call (frame s room))
    ∷ given (eqb (length s) 0) (call (tick t room))
    ∷ pilot_in t s
    ∷ given (eqb (length s) 0) (call terminate)
    ∷ given (eqb (length s) 0) (call link_up)
    ∷ query_in s
    ∷ reduction_in room s
    ∷ given (eqb (length s) 0) (query inspection)
    ∷ []
