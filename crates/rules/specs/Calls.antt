-- The calls that a station gets.
use Rattle.std.specs.Prelude.{ℕ, List}
use Rattle.rules.specs.declared.Pilot.{Pilot}

-- frame, tick, pilot, terminate and link up, with their arguments
pub data Call : Type 0 where
  -- a frame's octets, and how long the output is
  frame : List ℕ → ℕ → Call
  -- a clock reading, and how long the output is
  tick : ℕ → ℕ → Call
  -- a pilot state, and the clock reading
  pilot : Pilot → ℕ → Call
  terminate link_up : Call
