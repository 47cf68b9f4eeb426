-- What stands in front of the octets that an input has left.
use Rattle.std.specs.Prelude.{ℕ, ◌+◌, ◌≤◌, List, length}
use Rattle.script.specs.Events.{most_octets, event_octets, length_in}

-- an event, whole, of no more octets than an event may have
pub record StartsWithEvent (s : List ℕ) : Type 0 where
  pub bounded : length_in s ≤ most_octets
  pub whole : event_octets + length_in s ≤ length s
