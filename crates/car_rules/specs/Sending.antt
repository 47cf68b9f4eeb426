-- What a car sends.
use Rattle.std.specs.Prelude.{ℕ, ◌-◌, cond, List, map, ltb}
use Rattle.messages.specs.declared.Edition.TheVariants.{Iso}
use Rattle.messages.specs.declared.StationAddress.{StationAddress}
use Rattle.messages.specs.Table.{Message, slac_parm_req, start_atten_char_ind, atten_char_rsp, mnbc_sound_ind, slac_match_req, iso_attempt, broadcast}
use Rattle.messages.specs.Reading.{no_id}
use Rattle.messages.specs.Writing as writing
use Rattle.ends.specs.declared.Indication.{Indication}
use Rattle.ends.specs.Outcomes.{Done}
use Rattle.car_rules.specs.declared.Car.{Car}
use Rattle.car_rules.specs.Constants.{start_count, frame_count}

-- PARM.REQ, START, SOUND with its count, ATTEN_CHAR.RSP and MATCH.REQ to a station
pub data Sending : Type 0 where
  parm_req start : Sending
  sound : ℕ → Sending
  rsp match_req : StationAddress → Sending

-- as a message of car c, in the ISO edition: its address, its run and its random value
abbrev pub message_from : Car → Sending → Message
message_from c parm_req = record { edition = Iso; kind = slac_parm_req; count = 0; dst = broadcast; src = c.config.address.0; values = (c.run.0, tt) }
message_from c start = record { edition = Iso; kind = start_atten_char_ind; count = 0; dst = broadcast; src = c.config.address.0; values = (iso_attempt, (c.run.0, tt)) }
message_from c (sound k) = record { edition = Iso; kind = mnbc_sound_ind; count = 0; dst = broadcast; src = c.config.address.0; values = (no_id, (k, (c.run.0, (c.random.0, (c.random.1, tt))))) }
message_from c (rsp s) = record { edition = Iso; kind = atten_char_rsp; count = 0; dst = s.0; src = c.config.address.0; values = (c.run.0, (no_id, (no_id, tt))) }
message_from c (match_req s) = record { edition = Iso; kind = slac_match_req; count = 0; dst = s.0; src = c.config.address.0; values = (no_id, (no_id, (c.run.0, tt))) }

-- its octets
unfoldable pub frame_from : Car → Sending → List ℕ
frame_from c m = writing.frame (message_from c m)

-- number k, from 0, of "the 13": "three START, then ten SOUND with counts 9 down to 0"
abbrev pub sounding_frame : ℕ → Sending
sounding_frame k = cond (ltb k start_count) start (sound (frame_count - 1 - k))

-- what an accepted call does: the car afterwards, what that car sends, and the indication
abbrev pub done : Car → List Sending → Indication → Done Car
done c ms x = record { after = c; sent = record { frames = map (frame_from c) ms; indication = x } }
