-- The layout of an event, of the station's script and of the car's.
use Rattle.std.specs.Prelude.{ℕ, ◌+◌, Bool, true, false, cond, ◌&&◌, List, eqb, leb, length, get_or, drop}
use Rattle.std.proofs.Math.Option.{Option, none, some}
use Rattle.octets.specs.Octets.{low_value}

-- a call, or a query
pub data Event (C Q : Type 0) : Type 0 where
  call : C → Event C Q
  query : Q → Event C Q

-- the most octets of an event, and of the output that it is lent
abbrev pub most_octets : ℕ
most_octets = 4096

-- how many octets stand in front of an event's own: four numbers
abbrev pub event_octets : ℕ
event_octets = 16

-- the kind of an event
abbrev pub kind_in : List ℕ → ℕ
kind_in e = low_value e 0 4

-- the clock reading
abbrev pub reading_in : List ℕ → ℕ
reading_in e = low_value e 4 4

-- the room: how many octets of output the call is lent
abbrev pub room_in : List ℕ → ℕ
room_in e = low_value e 8 4

-- the length: how many octets follow
abbrev pub length_in : List ℕ → ℕ
length_in e = low_value e 12 4

-- room and length are at most 4,096, and there are as many octets as the length says
abbrev pub is_sized : List ℕ → Bool
is_sized e = leb (room_in e) most_octets && leb (length_in e) most_octets && eqb (length e) (event_octets + length_in e)

module _ {A : Type 0} where
  -- an event, where its octets are as its kind asks
  abbrev pub given : Bool → A → Option A
  given true x = some x
  given false x = none

  -- the event that the octets e are, or none where they break the layout; kinds has, for a reading, a room and octets, the event of each kind
  unfoldable pub event_in : (ℕ → ℕ → List ℕ → List (Option A)) → List ℕ → Option A
  event_in kinds e = cond (is_sized e) (get_or (kinds (reading_in e) (room_in e) (drop event_octets e)) (kind_in e) none) none
