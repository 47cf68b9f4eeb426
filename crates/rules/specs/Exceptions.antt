-- Demand 3's exceptions are needed, and its windows are not empty: computed examples of a configured station.
use Rattle.std.specs.Prelude.{ℕ, zero, suc, ◌+◌, ◌-◌, ◌≡◌, true, false, List, [], ◌∷◌, length, replicate}
use Rattle.messages.specs.declared.CarAddress.{CarAddress}
use Rattle.messages.specs.declared.Edition.{Edition}
use Rattle.messages.specs.declared.Edition.TheVariants.{Iso}
use Rattle.messages.specs.Table.{Message, slac_parm_req, start_atten_char_ind, atten_char_rsp, validate_req, slac_match_req, atten_profile_ind, broadcast, group_count, iso_attempt}
use Rattle.messages.specs.Reading.{no, no_id}
use Rattle.messages.specs.Writing as writing
use Rattle.rules.specs.declared.Pilot.TheVariants.{B}
use Rattle.rules.specs.declared.Station.{Station}
use Rattle.rules.specs.Constants.{record_count, least_output}
use Rattle.rules.specs.Calls.{Call, frame, tick, pilot}
use Rattle.rules.specs.Records.{mine}
use Rattle.rules.specs.Rules.{configured, step, outcome, after}
use Rattle.ends.specs.Outcomes.{frames_of}
use Rattle.rules.specs.Demand3.{without, accepted, any_failure, ends, replies, is_plug_in}

-- ---- a station, its cars and their frames

-- a well configured station in an edition
abbrev pub station_in : Edition → Station
station_in e = configured (record { 0 = 0x0200000000AA }) (record { 0 = 0x0200000000BB }) (record { 0 = 5 }) (record { 0 = 1; 1 = 2 }) false e 1

abbrev station : Station
station = station_in Iso

-- some cars
abbrev pub car : ℕ → CarAddress
car n = record { 0 = 0x020000000000 + n }

-- a message as a frame call
abbrev pub sent : Message → Call
sent m = frame (writing.frame m) least_output

-- PARM.REQ, START, PROFILE, RSP and MATCH.REQ of car n, in run 1, and its first VALIDATE.REQ
abbrev pub request : ℕ → Call
request n = sent (record { edition = Iso; kind = slac_parm_req; count = 0; dst = broadcast; src = (car n).0; values = (1, tt) })

abbrev start : ℕ → Call
start n = sent (record { edition = Iso; kind = start_atten_char_ind; count = 0; dst = broadcast; src = (car n).0; values = (iso_attempt, (1, tt)) })

abbrev pub profile : ℕ → Call
profile n = sent (record { edition = Iso; kind = atten_profile_ind; count = group_count; dst = 0x0200000000AA; src = 0x0200000000BB; values = ((car n).0, (replicate group_count 10, tt)) })

abbrev pub response : ℕ → Call
response n = sent (record { edition = Iso; kind = atten_char_rsp; count = 0; dst = 0x0200000000AA; src = (car n).0; values = (1, (no_id, (no_id, tt))) })

abbrev matching : ℕ → Call
matching n = sent (record { edition = Iso; kind = slac_match_req; count = 0; dst = 0x0200000000AA; src = (car n).0; values = (no_id, (no_id, (1, tt))) })

abbrev pub validate : ℕ → Call
validate n = sent (record { edition = Iso; kind = validate_req; count = 0; dst = 0x0200000000AA; src = (car n).0; values = (0, tt) })

-- requests of n other cars
abbrev others : ℕ → List Call
others zero = []
others (suc n) = request (16 + n) ∷ others n

-- ---- the examples

-- two cars ask after a plug-in
abbrev two : List Call
two = pilot B 0 ∷ request 1 ∷ request 2 ∷ []

-- a neighbour asks just before admission ends, and stays past its end
abbrev late : List Call
late = pilot B 0 ∷ tick 49900 least_output ∷ request 2 ∷ tick 50000 least_output ∷ []

-- neighbours hold every record
abbrev full : List Call
full = pilot B 0 ∷ others record_count

-- car 1 holds a record while car 2 is matched
abbrev match : List Call
match = pilot B 0 ∷ request 1 ∷ request 2 ∷ start 2 ∷ profile 2 ∷ tick 300 least_output ∷ request 1 ∷ tick 600 least_output ∷ response 2 ∷ matching 2 ∷ []

-- cars 1 and 2 await, and car 2 is made ready
abbrev busy : List Call
busy = pilot B 0 ∷ request 1 ∷ request 2 ∷ start 1 ∷ start 2 ∷ profile 1 ∷ profile 2 ∷ tick 600 least_output ∷ response 1 ∷ response 2 ∷ validate 2 ∷ []

-- what comes out
pub record Exceptions : Type 0 where
  -- the comparison begins and goes on, and car 1 is sent a reply
  pub begins : is_plug_in station (pilot B 0) ≡ true
  pub goes_on : ends Iso (car 1) (request 2) (outcome (step station (pilot B 0)) (request 2)) ≡ false
  pub replied : length (replies (car 1) station two) ≡ 1
  pub shorter : length (without Iso (car 1) two) ≡ 2
  -- refusal numbers may differ: 9 with the neighbour, 8 without
  pub nine : outcome (after station late) (request 1) ≡ no 9
  pub eight : outcome (after station (without Iso (car 1) late)) (request 1) ≡ no 8
  -- refused with 10: answered without the neighbours
  pub ten : outcome (after station full) (request 1) ≡ no 10
  pub answered : accepted (outcome (after station (without Iso (car 1) full)) (request 1)) ≡ true
  -- another car's accepted match request frees car 1's record
  pub freed : length (mine (car 1) (after station match).records) ≡ 0
  pub kept : length (mine (car 1) (after station (without Iso (car 1) match)).records) ≡ 1
  -- another car's accepted validate request: car 1's own is then answered 03, and 01 without
  pub failed : any_failure (frames_of (outcome (after station busy) (validate 1))) ≡ true
  pub made_ready : accepted (outcome (after station (without Iso (car 1) busy)) (validate 1)) ≡ true
  pub not_failed : any_failure (frames_of (outcome (after station (without Iso (car 1) busy)) (validate 1))) ≡ false
  -- in a row, refused with 10: whoever comes first has the last record
  pub first_asks : outcome (step (after station (pilot B 0 ∷ others (record_count - 1))) (request 2)) (request 1) ≡ no 10
  pub second_asks : accepted (outcome (after station (pilot B 0 ∷ others (record_count - 1))) (request 1)) ≡ true
