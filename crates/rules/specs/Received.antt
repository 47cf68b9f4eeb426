-- What a frame's octets say to a station: reading's refusals, then 17, or a car's request. They are read as one of the eleven messages, or else as one of amplitude maps.
use Rattle.std.specs.Prelude.{ℕ, Bool, true, not, cond, ◌&&◌, List, eqb}
use Rattle.amplitude.specs.Reading as amplitude
use Rattle.amplitude.specs.Reading.{Summary, requested, confirmed, summary_of}
use Rattle.messages.specs.declared.CarAddress.{CarAddress}
use Rattle.messages.specs.declared.Edition.{Edition}
use Rattle.messages.specs.declared.RunId.{RunId}
use Rattle.messages.specs.Layout.{Values}
use Rattle.messages.specs.Table.{Kind, slac_parm_req, slac_parm_cnf, start_atten_char_ind, atten_char_ind, atten_char_rsp, mnbc_sound_ind, validate_req, validate_cnf, slac_match_req, slac_match_cnf, atten_profile_ind, broadcast, payload, Message}
use Rattle.messages.specs.Reading.{Checked, no, yes, read_rules}
use Rattle.rules.specs.declared.Configuration.{Configuration}
use Rattle.ends.specs.Outcomes.{and_then, or_else}

-- what concerns a car's record: PARM.REQ, START with its try's pair, SOUND with its count, PROFILE with its group count and values, RSP, the first VALIDATE.REQ, the second with its timer
pub data RecordMessage : Type 0 where
  parm_req : RunId → RecordMessage
  start : RunId → ℕ → RecordMessage
  sound : RunId → ℕ → RecordMessage
  profile : ℕ → List ℕ → RecordMessage
  rsp : RunId → RecordMessage
  validate_first : RecordMessage
  validate_second : ℕ → RecordMessage

-- what a car's frame asks for: a change of its record, MATCH.REQ with its two identifiers, or AMP_MAP.REQ with its number of carriers
pub data Request : Type 0 where
  for_record : RecordMessage → Request
  match_req : RunId → List ℕ → List ℕ → Request
  map_req : ℕ → Request

-- a request, the car that the frame names, and the frame's destination and source
pub record Received : Type 0 where
  pub car : CarAddress
  pub dst : ℕ
  pub src : ℕ
  pub request : Request

-- a request of car c in a frame from f to d
abbrev pub from_car : ℕ → ℕ → ℕ → Request → Checked Received
from_car c d f m = yes (record { car = record { 0 = c }; dst = d; src = f; request = m })

-- the RunID that a field holds
abbrev pub run_of : ℕ → RunId
run_of n = record { 0 = n }

-- "the destination alone tells the two requests apart: unicast is the first, broadcast the second"
abbrev pub validation : ℕ → ℕ → RecordMessage
validation d timer = cond (eqb d broadcast) (validate_second timer) validate_first

-- by the message: 17 where "only a car receives" it
abbrev pub received_as : (e : Edition) (k : Kind) (g d f : ℕ) → Values (payload e k g d f) → Checked Received
received_as e slac_parm_req g d f vs = from_car f d f (for_record (parm_req (run_of vs.0)))
received_as e slac_parm_cnf g d f vs = no 17
received_as e start_atten_char_ind g d f vs = from_car f d f (for_record (start (run_of vs.1.0) vs.0))
received_as e atten_char_ind g d f vs = no 17
received_as e atten_char_rsp g d f vs = from_car f d f (for_record (rsp (run_of vs.0)))
received_as e mnbc_sound_ind g d f vs = from_car f d f (for_record (sound (run_of vs.1.1.0) vs.1.0))
received_as e validate_req g d f vs = from_car f d f (for_record (validation d vs.0))
received_as e validate_cnf g d f vs = no 17
received_as e slac_match_req g d f vs = from_car f d f (match_req (run_of vs.1.1.0) vs.0 vs.1.0)
received_as e slac_match_cnf g d f vs = no 17
received_as e atten_profile_ind g d f vs = from_car vs.0 d f (for_record (profile g vs.1.0))

-- the same of a message
abbrev pub message_as : Message → Checked Received
message_as m = received_as m.edition m.kind m.count m.dst m.src m.values

-- of amplitude maps: "a CNF is one of the messages that it never takes (17)"
abbrev pub map_as : Summary → Checked Received
map_as (requested d f n) = from_car f d f (map_req n)
map_as (confirmed d f x) = no 17

-- of what reading them gives
abbrev pub map_in : Checked Summary → Checked Received
map_in x = and_then x map_as

-- reading in an edition, 17
unfoldable pub received : Edition → List ℕ → Checked Received
received e s = or_else (read_rules e s) message_as (map_in (summary_of (amplitude.read_rules s)))

-- a unicast goes to us, and PROFILE comes from our modem
abbrev pub to_us : Configuration → ℕ → ℕ → Request → Bool
to_us o d f (for_record (parm_req run)) = true
to_us o d f (for_record (start run a)) = true
to_us o d f (for_record (sound run k)) = true
to_us o d f (for_record (profile g vs)) = eqb d o.address.0 && eqb f o.modem.0
to_us o d f (for_record (rsp run)) = eqb d o.address.0
to_us o d f (for_record validate_first) = eqb d o.address.0
to_us o d f (for_record (validate_second timer)) = true
to_us o d f (match_req run a b) = eqb d o.address.0
to_us o d f (map_req n) = eqb d o.address.0

-- neither "car is us" nor "our modem"
abbrev pub not_us : Configuration → CarAddress → Bool
not_us o c = not (eqb c.0 o.address.0) && not (eqb c.0 o.modem.0)

-- what refusal 7 does not concern
abbrev pub is_for_us : Configuration → Received → Bool
is_for_us o x = to_us o x.dst x.src x.request && not_us o x.car
