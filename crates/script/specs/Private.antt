-- What the contracts of private functions cite, and no public one.
use Rattle.std.specs.Prelude.{ℕ, ◌+◌, ◌≤◌, ◌≡◌, true, false, List, length, Option, Some, None}
use Rattle.octets.specs.Octets.{splice}
use Rattle.messages.specs.Reading.{Checked, no, yes}
use Rattle.ends.specs.Answers.{Summary, indication_number}
use Rattle.rules.specs.declared.Heard.{Heard}
use Rattle.rules.specs.declared.Inspected.{Inspected}
use Rattle.script.specs.declared.events.EventHead.{EventHead}
use Rattle.script.specs.Events.{most_octets, kind_in, reading_in, room_in, is_sized}
use Rattle.script.specs.Replies.{reply_octets, longest_reply, reply_head, told_octets, inspected_octets}

-- an event's kind, reading and room
abbrev pub event_head : List ℕ → EventHead
event_head e = record { kind = kind_in e; reading = reading_in e; room = room_in e }

-- what an event's first octets tell, where the event has as many octets as it tells
abbrev pub Heads : List ℕ → Option EventHead → Type 0
Heads e None = is_sized e ≡ false
Heads e (Some h) = (is_sized e ≡ true) × (h ≡ event_head e)

-- what holds of a station or a car, and an output that the longest reply fits
pub record Ready (Kept : Type 0) (out : List ℕ) : Type 0 where
  pub kept : Kept
  pub output : longest_reply ≤ length out

-- the same, and a room of which no more is lent than there is
pub record RoomReady (Kept : Type 0) (n : ℕ) (out : List ℕ) : Type 0 where
  pub ready : Ready Kept out
  pub room : n ≤ most_octets

-- the first octets of the reply to an answer
abbrev pub head_of : Checked Summary → List ℕ
head_of (no n) = reply_head n 0 0
head_of (yes x) = reply_head 0 (indication_number x.indication) x.octets

-- how many octets of frames an answer tells of
abbrev pub frame_octets : Checked Summary → ℕ
frame_octets (no n) = 0
frame_octets (yes x) = x.octets

-- an answer whose reply fits the output
pub record Fits (x : Checked Summary) (out : List ℕ) : Type 0 where
  pub frames : frame_octets x ≤ most_octets
  pub output : longest_reply ≤ length out

-- the first octets of the reply to an answer stand in the output, and the whole reply takes n octets
pub record Answered (x : Checked Summary) (entry exit : List ℕ) (n : ℕ) : Type 0 where
  pub octets : n ≡ reply_octets + frame_octets x
  pub output : exit ≡ splice 0 (head_of x) entry

-- the octets of what the service query tells
abbrev pub heard_octets : Heard → List ℕ
heard_octets h = told_octets (record { sounds = h.sounds; spread = h.spread })

-- and of what the inspection tells
abbrev pub state_octets : Inspected → List ℕ
state_octets i = inspected_octets (record { state = i.state; car = i.car })

-- the whole reply ws stands in the output, and takes n octets
pub record Replied (ws entry exit : List ℕ) (n : ℕ) : Type 0 where
  pub octets : n ≡ length ws
  pub output : exit ≡ splice 0 ws entry
