-- Replies: what the station sends to a car, without the destination, a report's values, and AMP_MAP.CNF.
use Rattle.std.specs.Prelude.{ℕ, ◌+◌, ◌/◌, Bool, true, false, List, map}
use Rattle.messages.specs.declared.CarAddress.{CarAddress}
use Rattle.messages.specs.declared.RunId.{RunId}
use Rattle.messages.specs.Table.{Message, slac_parm_cnf, atten_char_ind, validate_cnf, slac_match_cnf}
use Rattle.messages.specs.Reading.{no_id}
use Rattle.messages.specs.Writing as writing
use Rattle.amplitude.specs.Maps.{amp_map_cnf}
use Rattle.amplitude.specs.Writing as amplitude
use Rattle.amplitude.specs.Answers.{result_of}
use Rattle.rules.specs.declared.Configuration.{Configuration}
use Rattle.rules.specs.declared.Record.{Record}
use Rattle.rules.specs.Constants.{pair_of}
use Rattle.rules.specs.Records.{groups_in}

-- PARM.CNF, MATCH.CNF, the report ATTEN_CHAR.IND and the confirmation VALIDATE.CNF
pub data Reply : Type 0 where
  -- whether the try is a later one
  parm_cnf : Bool → RunId → Reply
  -- the two identifiers of the request that it answers
  match_cnf : RunId → List ℕ → List ℕ → Reply
  -- the profiles counted, the record's group count, and a value for each group
  report : RunId → ℕ → ℕ → List ℕ → Reply
  -- the toggles, and the result
  confirmation : ℕ → ℕ → Reply

-- "the sum divided by that count, rounded to the nearest whole number, a half upwards"
unfoldable pub mean : ℕ → ℕ → ℕ
mean count sum = (sum + count / 2) / count

-- "a report": "profiles counted, and for each group the sum divided by that count"
unfoldable pub report_of : Record → Reply
report_of r = report r.run r.profiles r.groups (map (mean r.profiles) r.sums)

-- a report, as against any other reply
unfoldable pub is_report : Reply → Bool
is_report (parm_cnf later run) = false
is_report (match_cnf run a b) = false
is_report (report run n g vs) = true
is_report (confirmation k x) = false

-- a confirmation, as against any other reply
unfoldable pub is_confirmation : Reply → Bool
is_confirmation (parm_cnf later run) = false
is_confirmation (match_cnf run a b) = false
is_confirmation (report run n g vs) = false
is_confirmation (confirmation k x) = true

-- a reply as a message from the station to car c
abbrev pub message_to : Configuration → CarAddress → Reply → Message
message_to o c (parm_cnf later run) = record { edition = o.edition; kind = slac_parm_cnf; count = 0; dst = c.0; src = o.address.0; values = (pair_of o.edition later, (run.0, tt)) }
message_to o c (match_cnf run a b) = record { edition = o.edition; kind = slac_match_cnf; count = 0; dst = c.0; src = o.address.0; values = (a, (b, (run.0, (o.nid.0, (o.nmk.0, (o.nmk.1, tt)))))) }
message_to o c (report run n g vs) = record { edition = o.edition; kind = atten_char_ind; count = groups_in o.edition g; dst = c.0; src = o.address.0; values = (run.0, (no_id, (no_id, (n, (vs, tt))))) }
message_to o c (confirmation k x) = record { edition = o.edition; kind = validate_cnf; count = 0; dst = c.0; src = o.address.0; values = (k, (x, tt)) }

-- the octets of a reply to car c
unfoldable pub frame_to : Configuration → CarAddress → Reply → List ℕ
frame_to o c t = writing.frame (message_to o c t)

-- the octets of each of some replies to car c
abbrev pub frames_to : Configuration → CarAddress → List Reply → List (List ℕ)
frames_to o c ts = map (frame_to o c) ts

-- AMP_MAP.CNF to car c, "CNF 00"
unfoldable pub map_cnf_to : Configuration → CarAddress → List ℕ
map_cnf_to o c = amplitude.frame (amp_map_cnf c.0 o.address.0 (result_of true))
