-- What a frame's octets say to a car: reading's refusals, then 19, or a station's message. They are read as one of the eleven messages, or else as one of amplitude maps.
use Rattle.std.specs.Prelude.{ℕ, Bool, not, ◌&&◌, List, eqb}
use Rattle.messages.specs.declared.Edition.{Edition}
use Rattle.messages.specs.declared.Edition.TheVariants.{Iso}
use Rattle.messages.specs.declared.Nid.{Nid}
use Rattle.messages.specs.declared.Nmk.{Nmk}
use Rattle.messages.specs.declared.RunId.{RunId}
use Rattle.messages.specs.declared.StationAddress.{StationAddress}
use Rattle.messages.specs.Layout.{Values}
use Rattle.messages.specs.Table.{Kind, slac_parm_req, slac_parm_cnf, start_atten_char_ind, atten_char_ind, atten_char_rsp, mnbc_sound_ind, validate_req, validate_cnf, slac_match_req, slac_match_cnf, atten_profile_ind, payload, Message}
use Rattle.messages.specs.Reading.{Checked, no, yes, read_rules}
use Rattle.amplitude.specs.Reading as amplitude
use Rattle.amplitude.specs.Reading.{Summary, requested, confirmed, summary_of}
use Rattle.ends.specs.Outcomes.{and_then, or_else}
use Rattle.car_rules.specs.declared.Configuration.{Configuration}

-- PARM.CNF, the report ATTEN_CHAR.IND with its sounds used and its group values, MATCH.CNF with NID and NMK, and what no state takes: VALIDATE.CNF, AMP_MAP.REQ and AMP_MAP.CNF
pub data StationMessage : Type 0 where
  parm_cnf : StationMessage
  report : ℕ → List ℕ → StationMessage
  match_cnf : Nid → Nmk → StationMessage
  untaken : StationMessage

-- a station's message, its run (0 where it has none), the station that sent it, and the frame's destination
pub record Received : Type 0 where
  pub station : StationAddress
  pub dst : ℕ
  pub run : RunId
  pub message : StationMessage

-- a message of run n in a frame from f to d
abbrev pub from_station : ℕ → ℕ → ℕ → StationMessage → Checked Received
from_station d f n m = yes (record { station = record { 0 = f }; dst = d; run = record { 0 = n }; message = m })

-- by the message: 19 where "only a station receives" it
abbrev pub received_as : (e : Edition) (k : Kind) (g d f : ℕ) → Values (payload e k g d f) → Checked Received
received_as e slac_parm_req g d f vs = no 19
received_as e slac_parm_cnf g d f vs = from_station d f vs.1.0 parm_cnf
received_as e start_atten_char_ind g d f vs = no 19
received_as e atten_char_ind g d f vs = from_station d f vs.0 (report vs.1.1.1.0 vs.1.1.1.1.0)
received_as e atten_char_rsp g d f vs = no 19
received_as e mnbc_sound_ind g d f vs = no 19
received_as e validate_req g d f vs = no 19
received_as e validate_cnf g d f vs = from_station d f 0 untaken
received_as e slac_match_req g d f vs = no 19
received_as e slac_match_cnf g d f vs = from_station d f vs.1.1.0 (match_cnf (record { 0 = vs.1.1.1.0 }) (record { 0 = vs.1.1.1.1.0; 1 = vs.1.1.1.1.1.0 }))
received_as e atten_profile_ind g d f vs = no 19

-- the same of a message
abbrev pub message_as : Message → Checked Received
message_as m = received_as m.edition m.kind m.count m.dst m.src m.values

-- of amplitude maps: "at the car's end no state takes either"
abbrev pub map_as : Summary → Checked Received
map_as (requested d f n) = from_station d f 0 untaken
map_as (confirmed d f x) = from_station d f 0 untaken

-- of what reading them gives
abbrev pub map_in : Checked Summary → Checked Received
map_in x = and_then x map_as

-- reading in the ISO edition, 19
unfoldable pub received : List ℕ → Checked Received
received s = or_else (read_rules Iso s) message_as (map_in (summary_of (amplitude.read_rules s)))

-- what refusal 7 does not concern: "not to us, or from our own address"
abbrev pub is_for_us : Configuration → Received → Bool
is_for_us o x = eqb x.dst o.address.0 && not (eqb x.station.0 o.address.0)
