-- The replies of both scripts, in octets.
use Rattle.std.specs.Prelude.{ℕ, ◌+◌, List, [], ◌++◌, length}
use Rattle.octets.specs.Octets.{bytes, low_bytes}
use Rattle.car_rules.specs.declared.Key.{Key}
use Rattle.messages.specs.Reading.{Checked, no, yes}
use Rattle.rules.specs.Rules.{Told, Inspected}
use Rattle.ends.specs.Outcomes.{Outcome, joined}
use Rattle.ends.specs.Answers.{indication_number}
use Rattle.script.specs.Events.{most_octets}

-- a number: four octets, low octet first
abbrev pub number : ℕ → List ℕ
number v = low_bytes 4 v

-- how many octets stand in front of a reply's own: three numbers
abbrev pub reply_octets : ℕ
reply_octets = 12

-- how many octets the longest reply takes
abbrev pub longest_reply : ℕ
longest_reply = reply_octets + most_octets

-- refusal or 0, indication and length
unfoldable pub reply_head : ℕ → ℕ → ℕ → List ℕ
reply_head refusal indication size = number refusal ++ (number indication ++ number size)

-- a reply: these, and then its octets
abbrev pub reply_with : ℕ → ℕ → List ℕ → List ℕ
reply_with refusal indication s = reply_head refusal indication (length s) ++ s

-- the reply to a call: its frames
abbrev pub call_reply : Outcome → List ℕ
call_reply (no n) = reply_with n 0 []
call_reply (yes x) = reply_with 0 (indication_number x.indication) (joined x.frames)

-- what a service query's reply holds: the sounds heard as a number, the least values, and then the greatest
abbrev pub told_octets : Told → List ℕ
told_octets t = number t.sounds ++ (t.spread.least ++ t.spread.greatest)

-- what an inspection's reply holds: the state as a number, and the car as in frames
abbrev pub inspected_octets : Inspected → List ℕ
inspected_octets x = number x.state ++ bytes 6 x.car.0

-- what a key query's reply holds: the station, its NID, low octet first, and its NMK
abbrev pub key_octets : Key → List ℕ
key_octets k = bytes 6 k.station.0 ++ (low_bytes 7 k.nid.0 ++ (bytes 8 k.nmk.0 ++ bytes 8 k.nmk.1))

module _ {A : Type 0} where
  -- the reply to a query: the octets of its answer
  abbrev pub query_reply : (A → List ℕ) → Checked A → List ℕ
  query_reply f (no n) = reply_with n 0 []
  query_reply f (yes x) = reply_with 0 0 (f x)

  -- "refusal or 0"
  abbrev pub refusal_number : Checked A → ℕ
  refusal_number (no n) = n
  refusal_number (yes x) = 0
