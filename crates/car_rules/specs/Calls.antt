-- The calls that a car gets.
use Rattle.std.specs.Prelude.{ℕ, List}
use Rattle.messages.specs.declared.Random.{Random}
use Rattle.messages.specs.declared.RunId.{RunId}

-- start, frame, tick, link up and terminate, with their arguments
pub data Call : Type 0 where
  -- a run, a random value and a clock reading, and how long the output is
  start : RunId → Random → ℕ → ℕ → Call
  -- a frame's octets, and how long the output is
  frame : List ℕ → ℕ → Call
  -- a clock reading, and how long the output is
  tick : ℕ → ℕ → Call
  link_up terminate : Call
